-- What is known of the patterns of FQL.
use Rattle.std.proofs.Common.{◌≡◌, ℕ, ◌+◌, ◌-◌, ◌<◌, ◌≤◌, Bool, true, false, not, ◌&&◌, if◌then◌else◌, List, [], ◌∷◌, ◌++◌, map, length, take, drop, get_or, Option, Some, None, refl, suc, ap, ap₂, sym, subst, ◌∙◌, arith, append_assoc}
use Rattle.std.specs.Prelude.{Ok, Err, IfOk, is_some, ◌==◌}
use native.Mathlib.Numerals.{unary_clauses}
use Rattle.std.specs.List.{range_with_len, AllByRecursion, All as Every}
use Rattle.std.proofs.lemmas.Bool.Decides.{nat_tests}
use Rattle.std.proofs.lemmas.List.{take_all}
use Rattle.std.proofs.lemmas.List.Elements.{All-from_recursion}
use Rattle.sq_tokens.specs.Token.{Token, text_tokens}
use Rattle.sq_tokens.specs.Pattern.{Phrase, text_phrase, without_good_star, first_bad_star}
use Rattle.sq_model.specs.Lists.{is_empty}
use Rattle.sq_base.specs.Outcome.{Outcome, refused, ◌>>=◌}
use Rattle.sq_fql.specs.declared.raw.FPiece.{FPiece}
use Rattle.sq_fql.specs.declared.raw.FRaw.{FRaw, All, Literal, Scope', Apply'}
use Rattle.sq_typing.specs.declared.codes.TheConstants.{NO_TOKEN, WRONG_OPERATOR}
use Rattle.sq_typing.specs.FqlTexts.{unread, pattern_in, phrase_part, part_in, phrase_parts}
use Rattle.sq_typing.specs.Together.{together, all_of}
use Rattle.sq_typing.proofs.TogetherLemmas.{if_together, pushed_on}

-- the pattern of a text, by its first bad star and its tokens
abbrev pattern_by : ℕ → Option ℕ → List Token → Phrase → Outcome Phrase
pattern_by at star tokens pattern = if is_some star then unread else (if is_empty tokens then refused NO_TOKEN at else Ok pattern)

good : (at : ℕ) (star : Option ℕ) (tokens : List Token) (pattern : Phrase) → ((i : ℕ) → star ≡ Some i → ⊥) → (star ≡ None → tokens ≡ [] → ⊥) →
    Ok pattern ≡ pattern_by at star tokens pattern
good at (Some i) tokens pattern no_star some = absurd (no_star i refl)
good at None [] pattern no_star some = absurd (some refl refl)
good at None (t ∷ ts) pattern no_star some = refl

pub good_pattern : (p : FPiece) (text : List ℕ) (pattern : Phrase) → text ≡ p.text → pattern ≡ text_phrase text →
    ((i : ℕ) → first_bad_star text ≡ Some i → ⊥) → (first_bad_star text ≡ None → text_tokens (without_good_star text) ≡ [] → ⊥) → Ok pattern ≡ pattern_in p
unfolding pattern_in
good_pattern p text pattern same is no_star some =
    ap Ok is ∙ (good p.at (first_bad_star text) (text_tokens (without_good_star text)) (text_phrase text) no_star some
    ∙ ap (λ t. pattern_by p.at (first_bad_star t) (text_tokens (without_good_star t)) (text_phrase t)) same)

pub starred_pattern : (p : FPiece) (text : List ℕ) (i : ℕ) → text ≡ p.text → first_bad_star text ≡ Some i → unread ≡ pattern_in p
unfolding pattern_in
starred_pattern p text i same star =
    ap (λ s. pattern_by p.at s (text_tokens (without_good_star text)) (text_phrase text)) (sym star)
    ∙ ap (λ t. pattern_by p.at (first_bad_star t) (text_tokens (without_good_star t)) (text_phrase t)) same

pub tokenless_pattern : (p : FPiece) → first_bad_star p.text ≡ None → text_tokens (without_good_star p.text) ≡ [] → pattern_in p ≡ refused NO_TOKEN p.at
unfolding pattern_in
tokenless_pattern p starless none =
    ap (λ s. pattern_by p.at s (text_tokens (without_good_star p.text)) (text_phrase p.text)) starless
    ∙ ap (λ tokens. pattern_by p.at None tokens (text_phrase p.text)) none

-- ---- tokens from front to back

range_from : (i n : ℕ) → i < n → range_with_len i (n - i) ≡ i ∷ range_with_len (i + 1) (n - (i + 1))
range_from i n below = let h : n - i ≡ suc (n - (i + 1)) = omega arith in rw h refl

pub token_step : {A : Type 0} (f : ℕ → A) (i n : ℕ) (done next : List A) (x : A) (whole : List A) → i < n → x ≡ f i → next ≡ done ++ x ∷ [] →
    done ++ map f (range_with_len i (n - i)) ≡ whole → next ++ map f (range_with_len (i + 1) (n - (i + 1))) ≡ whole
token_step f i n done next x whole below is pushed before =
    rw (pushed, is, append_assoc) (ap (λ js. done ++ map f js) (sym (range_from i n below)) ∙ before)

pub empty_is : {X : Type 0} (xs : List X) → (length xs == 0) ≡ is_empty xs
empty_is [] = refl
empty_is (x ∷ xs) = grind (arith, nat_tests)

-- ---- of the parts of a phrase only the last is a beginning

abbrev AllButLast : List Phrase → Type 0
AllButLast [] = Unit {0}
AllButLast (p ∷ []) = Unit {0}
AllButLast (p ∷ (q ∷ ps)) = (p.prefixed ≡ false) × AllButLast (q ∷ ps)

but_last : (ps : List Phrase) → AllButLast ps → AllByRecursion (λ part. part.prefixed ≡ false) (take (length ps - 1) ps)
but_last [] plain = tt
but_last (p ∷ []) plain = tt
but_last (p ∷ (q ∷ ps)) plain = simp unary_clauses (plain.0, simp unary_clauses at (but_last (q ∷ ps) plain.1))

part_by : (at : ℕ) (last prefixed : Bool) (p : Phrase) → p.prefixed ≡ prefixed →
    IfOk (if prefixed && not last then refused WRONG_OPERATOR at else Ok p) (λ q. last ≡ false → q.prefixed ≡ false)
part_by at true true p is = (λ h. cc)
part_by at false true p is = tt
part_by at true false p is = (λ h. is)
part_by at false false p is = (λ h. is)

part_of : (at : ℕ) (last : Bool) (outcome : Outcome Phrase) →
    IfOk (outcome >>= (λ p. if p.prefixed && not last then refused WRONG_OPERATOR at else Ok p)) (λ q. last ≡ false → q.prefixed ≡ false)
part_of at last (Ok p) = part_by at last p.prefixed p refl
part_of at last (Err e) = tt

part_plain : (last : Bool) (o : FRaw) → IfOk (part_in last o) (λ q. last ≡ false → q.prefixed ≡ false)
unfolding phrase_part
part_plain last (Literal p) = part_of p.at last (pattern_in p)
part_plain last (All at) = tt
part_plain last (Scope' at name s inner) = tt
part_plain last (Apply' at op s operands) = tt

abbrev IsParts : List FRaw → List Phrase → Type 0
IsParts os ps = AllButLast ps × (length ps ≡ length os)

parts_on : (o : FRaw) (os : List FRaw) (p : Phrase) (ps : List Phrase) → (is_empty os ≡ false → p.prefixed ≡ false) → IsParts os ps → IsParts (o ∷ os) (p ∷ ps)
parts_on o [] p [] h k = (tt, refl)
parts_on o [] p (q ∷ ps) h k = absurd (omega (arith, k.1))
parts_on o (u ∷ os) p [] h k = absurd (omega (arith, k.1))
parts_on o (u ∷ os) p (q ∷ ps) h k = ((h refl, k.0), omega (arith, k.1))

pub plain_parts : (os : List FRaw) → IfOk (all_of (phrase_parts os)) (IsParts os)
plain_parts [] = (tt, refl)
plain_parts (o ∷ os) =
    if_together (λ p ps. p ∷ ps) (part_in (is_empty os) o) (all_of (phrase_parts os)) (λ q. is_empty os ≡ false → q.prefixed ≡ false) (IsParts os) (IsParts (o ∷ os))
    (part_plain (is_empty os) o) (plain_parts os) (λ p ps h k. parts_on o os p ps h k)

-- what the parts of a phrase are
pub parts_are : (os : List FRaw) (ps : List Phrase) → Ok ps ≡ all_of (phrase_parts os) → IsParts os ps
parts_are os ps is = subst (λ outcome. IfOk outcome (IsParts os)) (sym is) (plain_parts os)

pub parts_plain : (os : List FRaw) (ps : List Phrase) → Ok ps ≡ all_of (phrase_parts os) → Every (λ part. part.prefixed ≡ false) (take (length ps - 1) ps)
parts_plain os ps is = All-from_recursion (λ part. part.prefixed ≡ false) (take (length ps - 1) ps) (but_last ps (parts_are os ps is).0)

-- one part of a phrase is done
pub parts_step : (left : List FRaw) (o : FRaw) (last : Bool) (part : Outcome Phrase) (done more w : Outcome (List Phrase)) → 1 ≤ length left → o ≡ get_or left 0 o →
    last ≡ (length (take (length left - 1) (drop 1 left)) == 0) → part ≡ part_in last o → more ≡ together (λ ps p. ps ++ p ∷ []) done part →
    together (λ xs ys. xs ++ ys) done (all_of (phrase_parts left)) ≡ w →
    together (λ xs ys. xs ++ ys) more (all_of (phrase_parts (take (length left - 1) (drop 1 left)))) ≡ w
parts_step [] o last part done more w some first is_last typed pushed before = absurd (omega (arith, some))
parts_step (u ∷ rest) o last part done more w some first is_last typed pushed before =
    let all : take (length (u ∷ rest) - 1) (drop 1 (u ∷ rest)) ≡ rest = simp unary_clauses (take_all (length rest) rest (omega arith)) in
    let is_end : last ≡ is_empty rest = is_last ∙ (ap (λ os. length os == 0) all ∙ empty_is rest) in
    rw all
    (ap (λ m. together (λ xs ys. xs ++ ys) m (all_of (phrase_parts rest))) (pushed ∙ ap (together (λ ps p. ps ++ p ∷ []) done) (typed ∙ ap₂ part_in is_end first))
    ∙ (pushed_on done (part_in (is_empty rest) u) (all_of (phrase_parts rest)) ∙ before))

some_length : (os : List FRaw) (n : ℕ) → (length os == 0) ≡ false → n ≡ length os → 0 < n
some_length [] n some is = cc
some_length (o ∷ os) n some is = omega (arith, is)

pub parts_some : (os : List FRaw) (ps : List Phrase) → (length os == 0) ≡ false → Ok ps ≡ all_of (phrase_parts os) → 0 < length ps
parts_some os ps some is = some_length os (length ps) some (parts_are os ps is).1
