-- The loop that reads the lexemes of a text of FQL one after the other.
use Rattle.std.proofs.Common.{◌≡◌, ℕ, zero, suc, ◌+◌, ◌-◌, ◌<◌, ◌≤◌, nat_lt, true, false, List, [], ◌∷◌, ◌++◌, length, Ok, Err, refl, sym, ◌∙◌, ap, append_assoc, arith}
use Rattle.std.proofs.lemmas.List.{append-nil}
use Rattle.std.proofs.lemmas.Bool.Decides.{nat_tests}
use Rattle.std.specs.Str.{IsCharBoundary}
use Rattle.sq_base.specs.declared.faults.QueryFault.{QueryFault}
use Rattle.sq_lex.specs.declared.fql_codes.TheConstants.{TOO_LONG}
use Rattle.sq_lex.specs.declared.class.Class.TheVariants as class
use Rattle.sq_lex.specs.declared.fql_lexeme.FLexeme.{FLexeme}
use Rattle.sq_lex.specs.Bytes.{TextBytes, is_blank, past}
use Rattle.sq_lex.specs.Fql.{lexeme_at, fql_lexemes_from, fql_lexemes_of}
use Rattle.sq_base.specs.Outcome.{Outcome, ◌>>=◌, refused}
use Rattle.std.specs.Prelude.{slice_index}
use Rattle.sq_lex.specs.Limits.{most_text_bytes}

-- the lexemes found, and then those of the outcome
abbrev pub with_found : List FLexeme → Outcome (List FLexeme) → Outcome (List FLexeme)
with_found found (Ok more) = Ok (found ++ more)
with_found found (Err fault) = Err fault

-- Lexemes were found up to a place, and those from there on complete the text's.
pub record Reads (z : TextBytes) (at : ℕ) (found : List FLexeme) : Type 0 where
  pub between : IsCharBoundary z at
  pub begins : at < length z → is_blank (slice_index z at) ≡ false
  pub turns : ℕ
  pub enough : length z ≤ turns + at
  pub same : with_found found (fql_lexemes_from turns z at) ≡ fql_lexemes_from (length z) z (past class.Blank z 0)

-- what is left of the text, behind one lexeme
abbrev rest_of : ℕ → TextBytes → Outcome FLexeme → Outcome (List FLexeme)
rest_of turns z front = front >>= λ x. (fql_lexemes_from turns z (past class.Blank z x.to) >>= λ rest. Ok (x ∷ rest))

regroup : (found : List FLexeme) (x : FLexeme) (rest : Outcome (List FLexeme)) → with_found found (rest >>= λ more. Ok (x ∷ more)) ≡ with_found (found ++ x ∷ []) rest
regroup found x (Ok more) = ap (λ (l : List FLexeme). Ok l) (sym (append_assoc found (x ∷ []) more))
regroup found x (Err fault) = refl

one_turn : (turns : ℕ) (z : TextBytes) (at : ℕ) → at < length z → fql_lexemes_from (suc turns) z at ≡ rest_of turns z (lexeme_at z at)
unfolding fql_lexemes_from
one_turn turns z at within = let test : nat_lt at (length z) ≡ true = grind (arith, nat_tests) in rw test refl

no_turn : (turns : ℕ) (z : TextBytes) (at : ℕ) → length z ≤ at → fql_lexemes_from turns z at ≡ Ok []
unfolding fql_lexemes_from
no_turn zero z at done = refl
no_turn (suc turns) z at done = let test : nat_lt at (length z) ≡ false = grind (arith, nat_tests) in rw test refl

went_on : (turns : ℕ) (z : TextBytes) (found : List FLexeme) (x : FLexeme) (front : Outcome FLexeme) → front ≡ Ok x
    → with_found found (rest_of turns z front) ≡ with_found (found ++ x ∷ []) (fql_lexemes_from turns z (past class.Blank z x.to))
went_on turns z found x front is = rw is (regroup found x (fql_lexemes_from turns z (past class.Blank z x.to)))

found_none : (o : Outcome (List FLexeme)) → with_found [] o ≡ o
found_none (Ok lexemes) = refl
found_none (Err fault) = refl

pub reads_start : (z : TextBytes) (at : ℕ) (found : List FLexeme) → at ≡ past class.Blank z 0 → IsCharBoundary z at → (at < length z → is_blank (slice_index z at) ≡ false) → found ≡ [] → Reads z at found
reads_start z at found is between begins none = record {
  between = between;
  begins = begins;
  turns = length z;
  enough = omega arith;
  same = rw (none, is) (found_none (fql_lexemes_from (length z) z (past class.Blank z 0)));
}

pub too_long : (z : TextBytes) → most_text_bytes < length z → fql_lexemes_of z ≡ refused TOO_LONG most_text_bytes
unfolding fql_lexemes_of
too_long z long = let test : nat_lt most_text_bytes (length z) ≡ true = grind (arith, nat_tests) in rw test refl

pub short_enough : (z : TextBytes) → length z ≤ most_text_bytes → fql_lexemes_of z ≡ fql_lexemes_from (length z) z (past class.Blank z 0)
unfolding fql_lexemes_of
short_enough z short = let test : nat_lt most_text_bytes (length z) ≡ false = grind (arith, nat_tests) in rw test refl

pub reads_on : (z : TextBytes) (at : ℕ) (found now : List FLexeme) (x : FLexeme) (to : ℕ) → Reads z at found → at < length z → lexeme_at z at ≡ Ok x → now ≡ found ++ x ∷ []
    → to ≡ past class.Blank z x.to → at < to → IsCharBoundary z to → (to < length z → is_blank (slice_index z to) ≡ false) → Reads z to now
reads_on z at found now x to r within took more place moves between begins =
    let enough = r.enough in
    let left : r.turns ≡ suc (r.turns - 1) = omega arith in
    record {
      between = between;
      begins = begins;
      turns = r.turns - 1;
      enough = omega arith;
      same = rw (more, place) (sym (went_on (r.turns - 1) z found x (lexeme_at z at) took) ∙ (ap (λ o. with_found found o) (sym (one_turn (r.turns - 1) z at within))
          ∙ (ap (λ n. with_found found (fql_lexemes_from n z at)) (sym left) ∙ r.same)));
    }

pub reads_all : (z : TextBytes) (at : ℕ) (found : List FLexeme) → Reads z at found → length z ≤ at → fql_lexemes_from (length z) z (past class.Blank z 0) ≡ Ok found
reads_all z at found r done = sym r.same ∙ (ap (λ o. with_found found o) (no_turn r.turns z at done) ∙ ap (λ (l : List FLexeme). Ok l) (append-nil found))

pub reads_none : (z : TextBytes) (at : ℕ) (found : List FLexeme) (fault : QueryFault) → Reads z at found → at < length z → lexeme_at z at ≡ Err fault
    → fql_lexemes_from (length z) z (past class.Blank z 0) ≡ Err fault
reads_none z at found fault r within failed =
    let enough = r.enough in
    let left : r.turns ≡ suc (r.turns - 1) = omega arith in
    let front : with_found found (fql_lexemes_from r.turns z at) ≡ Err fault =
    ap (λ n. with_found found (fql_lexemes_from n z at)) left ∙ (ap (λ o. with_found found o) (one_turn (r.turns - 1) z at within) ∙ rw failed refl) in
    sym r.same ∙ front
