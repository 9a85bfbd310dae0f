-- Kinds of lexemes without pieces.
use Rattle.std.proofs.Common.{◌≡◌, ℕ, ◌+◌, ◌==◌, Bool, true, false, cond, List, [], ◌∷◌, ◌++◌, suc, ◌-◌, ◌<◌, ◌≤◌, length, take, drop, get_or, Ok, sym, subst, ap, ap₂, ◌∙◌, append_assoc, arith}
use Rattle.std.proofs.lemmas.List.{drop_more}
use Rattle.std.specs.List.{slice_range}
use Rattle.sq_lex.specs.declared.lexeme.KKind.{KKind}
use Rattle.sq_lex.specs.declared.lexeme.KKind.TheVariants as kind
use Rattle.sq_lex.specs.Bytes.{TextBytes}
use Rattle.sq_lex.specs.declared.lexeme.KLexeme.{KLexeme}
use Rattle.sq_lex.specs.Kql.{Taken, lexeme, one, sign, sign_lexemes, near_kind}
use Rattle.sq_lex.specs.Pieces.{added}
use Rattle.sq_lex.specs.Whole.{HasPieces}

pub near_whole : (z : TextBytes) (from : ℕ) (ordered : Bool) (n : ℕ) (k : KKind) → k ≡ near_kind ordered n → HasPieces z from k
near_whole z from true n k is = let Whole = λ (x : KKind). HasPieces z from x in subst Whole (sym is) tt
near_whole z from false n k is = let Whole = λ (x : KKind). HasPieces z from x in subst Whole (sym is) tt

sign_by : (z : TextBytes) (from : ℕ) (t : Bool) → HasPieces z from (cond t kind.Plus kind.Minus)
sign_by z from true = tt
sign_by z from false = tt

pub sign_whole : (z : TextBytes) (from b : ℕ) (k : KKind) → k ≡ sign b → HasPieces z from k
sign_whole z from b k is = let Whole = λ (x : KKind). HasPieces z from x in subst Whole (sym is) (sign_by z from (b == 43))

-- a run of signs from its first on
run_more : (z : TextBytes) (at to : ℕ) → at < to → to ≤ length z → slice_range z at to ≡ get_or z at 0 ∷ slice_range z (at + 1) to
run_more z at to below within =
    let left : to - at ≡ suc (to - (at + 1)) = omega arith in
    ap₂ take left (drop_more z at 0 (omega arith))

-- one more sign of a run
pub signs_on : (z : TextBytes) (found now all : List KLexeme) (at to past : ℕ) (k : KKind) → at < to → to ≤ length z → k ≡ sign (get_or z at 0)
    → added found (Ok (one k at (at + 1))) ≡ Ok (now, past) → found ++ sign_lexemes at (slice_range z at to) ≡ all
    → now ++ sign_lexemes (at + 1) (slice_range z (at + 1) to) ≡ all
signs_on z found now all at to past k below within is took same =
    let both : (found ++ lexeme k at (at + 1) ∷ [], at + 1) ≡ (now, past) = cc in
    let first : found ++ lexeme k at (at + 1) ∷ [] ≡ now = ap (λ (t : Taken). t.0) both in
    let rest = sign_lexemes (at + 1) (slice_range z (at + 1) to) in
    let more : sign_lexemes at (slice_range z at to) ≡ lexeme (sign (get_or z at 0)) at (at + 1) ∷ rest = ap (sign_lexemes at) (run_more z at to below within) in
    rw (← first, is) (append_assoc found (lexeme (sign (get_or z at 0)) at (at + 1) ∷ []) rest ∙ (ap (λ l. found ++ l) (sym more) ∙ same))

-- no sign is left of a run
pub signs_done : (z : TextBytes) (at to : ℕ) → to ≤ at → sign_lexemes at (slice_range z at to) ≡ []
signs_done z at to done = let none : to - at ≡ 0 = omega arith in ap (λ n. sign_lexemes at (take n (drop at z))) none
