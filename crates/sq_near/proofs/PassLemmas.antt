-- How one part passes a place, and how parts are strung.
use Rattle.std.proofs.Common.{◌≡◌, inl, inr, ℕ, zero, suc, ◌+◌, ◌-◌, ◌<◌, ◌≤◌, Bool, true, false, not, ◌&&◌, cond, List, [], ◌∷◌, map, filter, length, get_or, Option, Some, refl, sym, ◌∙◌, ap, subst, arith, true≢false}
use mathlib.Core.Logic.{⊎_elim}
use Rattle.std.specs.Prelude.{eqb}
use Rattle.std.proofs.Math.ListN.{set}
use Rattle.std.proofs.lemmas.List.{map-set, get_or-map, length-map}
use Rattle.std.proofs.lemmas.Bool.{eqb-true}
use Rattle.std.proofs.lemmas.Bool.Decides.{nat_tests}
use Rattle.sq_cursor.specs.declared.span.Span.{Span}
use Rattle.sq_cursor.specs.Spans.{passage_of, is_passage_before, are_ordered, spans_from, first_span, first_passage}
use Rattle.sq_near.specs.Streams.{is_beyond, spans_beyond}
use Rattle.sq_near.specs.Moves.{is_here, behind, behind_end, strung}
use Rattle.sq_model.proofs.Members.{IsIn, of_filter}
use Rattle.sq_near.proofs.JoinLemmas.{NotEarlier, head_first, and_cases, before_not, before_itself, not_true, is_false}
use Rattle.sq_near.proofs.TurnLemmas.{beyond_cases, beyond_later, beyond_move, beyond_same}

pub filter_all : (t : Span → Bool) (xs : List Span) → ((x : Span) → IsIn x xs → t x ≡ true) → filter t xs ≡ xs
filter_all t [] h = refl
filter_all t (x ∷ xs) h = rw (h x (inl refl)) (ap (λ ys. x ∷ ys) (filter_all t xs (λ y i. h y (inr i))))

filter_twice : (t u : Span → Bool) (xs : List Span) → ((x : Span) → u x ≡ true → t x ≡ true) → filter u (filter t xs) ≡ filter u xs
filter_twice t u [] h = refl
filter_twice t u (x ∷ xs) h = at (t x) refl (u x) refl (filter_twice t u xs h)
  where
    at : (a : Bool) → t x ≡ a → (b : Bool) → u x ≡ b → filter u (filter t xs) ≡ filter u xs → filter u (cond a (x ∷ filter t xs) (filter t xs)) ≡ cond b (x ∷ filter u xs) (filter u xs)
    at true e true f more = rw f (ap (λ ys. x ∷ ys) more)
    at true e false f more = rw f more
    at false e true f more = absurd (true≢false (sym (h x f) ∙ e))
    at false e false f more = more

-- what lies beyond a place of a passage doesn't lie before the passage
beyond_from : (p : ℕ × ℕ) (place : ℕ) (s : Span) → is_beyond p place s ≡ true → not (is_passage_before (passage_of s) p) ≡ true
beyond_from p place s e = not_true (is_passage_before (passage_of s) p) (⊎_elim
    (λ k. before_not p.0 p.1 s.row s.part k)
    (λ k. ap (λ n. is_passage_before (n, s.part) p) k.0 ∙ ap (λ n. is_passage_before (p.0, n) p) k.1 ∙ before_itself p.0 p.1) (beyond_cases p place s e))

pub from_twice : (p : ℕ × ℕ) (xs : List Span) → spans_from p (spans_from p xs) ≡ spans_from p xs
from_twice p xs = filter_twice (λ a. not (is_passage_before (passage_of a) p)) (λ a. not (is_passage_before (passage_of a) p)) xs (λ x e. e)

pub pass_start : (p : ℕ × ℕ) (place : ℕ) (xs : List Span) → spans_beyond p place (spans_from p xs) ≡ spans_beyond p place xs
pass_start p place xs = filter_twice (λ a. not (is_passage_before (passage_of a) p)) (is_beyond p place) xs (beyond_from p place)

-- where the first span lies beyond the place, all do
pub pass_done : (p : ℕ × ℕ) (place : ℕ) (s : Span) (spans : List Span) → are_ordered (s ∷ spans) ≡ true → is_beyond p place s ≡ true → spans_beyond p place (s ∷ spans) ≡ s ∷ spans
pass_done p place s spans o e = filter_all (is_beyond p place) (s ∷ spans) (λ x i. at x (head_first s spans o x i))
  where
    chain : (a b c d e f : ℕ) → is_passage_before (a, b) (c, d) ≡ true → is_passage_before (c, d) (e, f) ≡ true → is_passage_before (a, b) (e, f) ≡ true
    chain a b c d e f g h = grind (arith, nat_tests)

    at : (x : Span) → NotEarlier s x → is_beyond p place x ≡ true
    at x (inr k) = beyond_move p place s x k.0 k.1 k.2 e
    at x (inl k) = beyond_later p place x (⊎_elim
        (λ b. chain p.0 p.1 s.row s.part x.row x.part b k)
        (λ b. ap (λ n. is_passage_before (n, p.1) (passage_of x)) (sym b.0) ∙ ap (λ n. is_passage_before (s.row, n) (passage_of x)) (sym b.1) ∙ k) (beyond_cases p place s e))

-- a first span in a later passage
pub pass_later : (p : ℕ × ℕ) (place : ℕ) (xs : List Span) → are_ordered xs ≡ true → spans_from p xs ≡ xs → is_here (first_passage xs) p ≡ false → spans_beyond p place xs ≡ xs
pass_later p place [] o f h = refl
pass_later p place (s ∷ spans) o f h = pass_done p place s spans o (beyond_later p place s (later (is_passage_before p (passage_of s)) refl))
  where
    first_from : (xs : List Span) → filter (λ a. not (is_passage_before (passage_of a) p)) xs ≡ s ∷ spans → not (is_passage_before (passage_of s) p) ≡ true
    first_from xs e = (of_filter (λ a. not (is_passage_before (passage_of a) p)) s xs (subst (λ ys. IsIn s ys) (sym e) (inl refl))).1

    other : is_passage_before p (passage_of s) ≡ false → is_passage_before (passage_of s) p ≡ false → eqb s.row p.0 && eqb s.part p.1 ≡ false → ⊥
    other a b c = grind (arith, nat_tests)

    later : (b : Bool) → is_passage_before p (passage_of s) ≡ b → b ≡ true
    later true e = refl
    later false e = absurd (other e (is_false _ (first_from (s ∷ spans) f)) h)

pub pass_behind : (p : ℕ × ℕ) (place : ℕ) (s : Span) (spans : List Span) → are_ordered (s ∷ spans) ≡ true → is_here (first_passage (s ∷ spans)) p ≡ true → place < s.first → spans_beyond p place (s ∷ spans) ≡ s ∷ spans
pass_behind p place s spans o h l =
    let r = and_cases (eqb s.row p.0) (eqb s.part p.1) h in
    pass_done p place s spans o (beyond_same p place s (eqb-true s.row p.0 r.0) (eqb-true s.part p.1 r.1) l)

-- one step: the first span stands in the passage, and doesn't begin behind the place
pub pass_step : (p : ℕ × ℕ) (place : ℕ) (s : Span) (spans : List Span) → is_here (first_passage (s ∷ spans)) p ≡ true → s.first ≤ place → spans_beyond p place (s ∷ spans) ≡ spans_beyond p place spans
pass_step p place s spans h l = at (is_beyond p place s) refl
  where
    none : is_beyond p place s ≡ true → ⊥
    none e =
        let r = and_cases (eqb s.row p.0) (eqb s.part p.1) h in
        ⊎_elim
        (λ k. true≢false (sym k ∙ ap (λ n. is_passage_before p (n, s.part)) (eqb-true s.row p.0 r.0) ∙ ap (λ n. is_passage_before p (p.0, n)) (eqb-true s.part p.1 r.1) ∙ before_itself p.0 p.1))
        (λ k. absurd (omega (arith, k.2, l))) (beyond_cases p place s e)

    at : (b : Bool) → is_beyond p place s ≡ b → cond b (s ∷ spans_beyond p place spans) (spans_beyond p place spans) ≡ spans_beyond p place spans
    at true e = absurd (none e)
    at false e = refl

pub from_rest : (p : ℕ × ℕ) (s : Span) (spans : List Span) → spans_from p (s ∷ spans) ≡ s ∷ spans → spans_from p spans ≡ spans
from_rest p s spans e = filter_all (λ a. not (is_passage_before (passage_of a) p)) spans (λ x i.
    (of_filter (λ a. not (is_passage_before (passage_of a) p)) x (s ∷ spans) (subst (λ ys. IsIn x ys) (sym e) (inr i))).1)

-- ---- parts one behind the other

pub length-strung : (p : ℕ × ℕ) (n : ℕ) (lists : List (List Span)) → length (strung p n lists) ≡ length lists
length-strung p zero lists = refl
length-strung p (suc n) [] = refl
length-strung p (suc n) (l ∷ []) = refl
length-strung p (suc n) (l ∷ m ∷ lists) = ap suc (length-strung p n (behind p l m ∷ lists))

strung_step : (p : ℕ × ℕ) (n : ℕ) (lists : List (List Span)) (d e : List Span) → suc n < length lists →
    set (strung p n lists) (suc n) (behind p (get_or (strung p n lists) n d) (get_or (strung p n lists) (suc n) e)) ≡ strung p (suc n) lists
strung_step p n [] d e l = absurd (omega arith)
strung_step p n (k ∷ []) d e l = absurd (omega arith)
strung_step p zero (k ∷ m ∷ lists) d e l = refl
strung_step p (suc n) (k ∷ m ∷ lists) d e l = ap (λ ys. k ∷ ys) (strung_step p n (behind p k m ∷ lists) d e (omega arith))

strung_end : (p : ℕ × ℕ) (n m : ℕ) (lists : List (List Span)) → length lists ≤ suc n → length lists ≤ suc m → strung p n lists ≡ strung p m lists
strung_end p zero zero lists l k = refl
strung_end p zero (suc m) [] l k = refl
strung_end p zero (suc m) (x ∷ []) l k = refl
strung_end p zero (suc m) (x ∷ y ∷ lists) l k = absurd (omega arith)
strung_end p (suc n) zero [] l k = refl
strung_end p (suc n) zero (x ∷ []) l k = refl
strung_end p (suc n) zero (x ∷ y ∷ lists) l k = absurd (omega arith)
strung_end p (suc n) (suc m) [] l k = refl
strung_end p (suc n) (suc m) (x ∷ []) l k = refl
strung_end p (suc n) (suc m) (x ∷ y ∷ lists) l k = ap (λ ys. x ∷ ys) (strung_end p n m (behind p x y ∷ lists) (omega arith) (omega arith))

behind_is : (p : ℕ × ℕ) (l m : List Span) → behind_end p (first_span l) m ≡ behind p l m
behind_is p [] m = refl
behind_is p (s ∷ spans) m = refl

-- the part at i, which was y, has moved to z behind the end of x, the part before it
pub string_part : {X : Type 0} (left : X → List Span) (p : ℕ × ℕ) (i : ℕ) (items : List X) (firsts : List (List Span)) (x y z : X) (end : Option (ℕ × ℕ)) → 1 ≤ i →
    map left items ≡ strung p (i - 1) firsts → i < length items → x ≡ get_or items (i - 1) x → y ≡ get_or items i y → end ≡ first_span (left x) → left z ≡ behind_end p end (left y) →
    map left (set items i z) ≡ strung p (i + 1 - 1) firsts
string_part {X = X} left p i items firsts x y z end some e l is_x is_y is_end moves = at (i - 1) (omega (arith, some)) e is_x
  where
    at : (n : ℕ) → i ≡ suc n → map left items ≡ strung p n firsts → x ≡ get_or items n x → map left (set items i z) ≡ strung p (i + 1 - 1) firsts
    at n same e is =
        let last : suc n ≡ i + 1 - 1 = omega (arith, same) in
        let within : suc n < length firsts = omega (arith, length-map items left, ap length e, length-strung p n firsts, l, same) in
        let was_x : left x ≡ get_or (strung p n firsts) n (left x) = ap left is ∙ sym (get_or-map left items n x (left x) (omega (arith, l, same))) ∙ ap (λ ls. get_or ls n (left x)) e in
        let was_y : left y ≡ get_or (strung p n firsts) (suc n) (left y) =
        ap left is_y ∙ sym (get_or-map left items i y (left y) l) ∙ ap (λ ls. get_or ls i (left y)) e ∙ ap (λ k. get_or (strung p n firsts) k (left y)) same in
        let new : left z ≡ behind p (get_or (strung p n firsts) n (left x)) (get_or (strung p n firsts) (suc n) (left y)) =
        moves ∙ ap (λ o. behind_end p o (left y)) is_end ∙ behind_is p (left x) (left y) ∙ ap (λ k. behind p k (left y)) was_x ∙ ap (behind p (get_or (strung p n firsts) n (left x))) was_y in
        map-set left items i z ∙ ap (λ ls. set ls i (left z)) e ∙ ap (λ k. set (strung p n firsts) k (left z)) same
        ∙ ap (set (strung p n firsts) (suc n)) new ∙ strung_step p n firsts (left x) (left y) within ∙ ap (λ k. strung p k firsts) last

pub string_parts : {X : Type 0} (left : X → List Span) (p : ℕ × ℕ) (i : ℕ) (items firsts : List X) → map left items ≡ strung p (i - 1) (map left firsts) → length firsts ≤ i →
    map left items ≡ strung p (length firsts - 1) (map left firsts)
string_parts left p i items firsts e l =
    e ∙ strung_end p (i - 1) (length firsts - 1) (map left firsts) (omega (arith, l, length-map firsts left)) (omega (arith, length-map firsts left))

-- where the first span begins behind the place, and stands in the passage or in a later one, all lie beyond the place
pub pass_over : (p : ℕ × ℕ) (place : ℕ) (xs : List Span) (first last : ℕ) → are_ordered xs ≡ true → spans_from p xs ≡ xs → first_span xs ≡ Some (first, last) → place < first → spans_beyond p place xs ≡ xs
pass_over p place [] first last o f e l = refl
pass_over p place (s ∷ spans) first last o f e l = at (is_here (first_passage (s ∷ spans)) p) refl
  where
    starts : {a b : ℕ × ℕ} → Some a ≡ Some b → a.0 ≡ b.0
    starts e = cc

    same : s.first ≡ first
    same = starts e

    at : (b : Bool) → is_here (first_passage (s ∷ spans)) p ≡ b → spans_beyond p place (s ∷ spans) ≡ s ∷ spans
    at true h = pass_behind p place s spans o h (omega (arith, same, l))
    at false h = pass_later p place (s ∷ spans) o f h
