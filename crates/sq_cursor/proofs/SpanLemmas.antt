-- How cursors move in ordered lists of spans.
use Rattle.std.proofs.Common.{◌≡◌, ℕ, ◌+◌, ◌&&◌, Bool, true, false, List, [], ◌∷◌, Some, drop, length, refl, ap, ◌∙◌, arith, zero, suc}
use native.Mathlib.Numerals.{unary_clauses}
use Rattle.std.proofs.lemmas.Bool.Decides.{nat_tests}
use Rattle.sq_cursor.specs.declared.span.Span.{Span}
use Rattle.sq_cursor.specs.Entries.{entries_behind}
use Rattle.sq_cursor.specs.Spans.{passage_of, is_passage_before, comes_after, all_come_after, are_ordered, first_passage, without_first_span, spans_from, and_right}

pub without_first_span-drop : (n : ℕ) (spans : List Span) → without_first_span (drop n spans) ≡ drop (n + 1) spans
without_first_span-drop zero [] = refl
without_first_span-drop zero (a ∷ spans) = refl
without_first_span-drop (suc n) [] = simp unary_clauses refl
without_first_span-drop (suc n) (a ∷ spans) = simp unary_clauses (simp unary_clauses at (without_first_span-drop n spans))

pub entries_behind-spans : (spans : List Span) → entries_behind spans ≡ length (without_first_span spans)
entries_behind-spans [] = refl
entries_behind-spans (a ∷ spans) = refl

and_left : (a b : Bool) → a && b ≡ true → a ≡ true
and_left true b e = refl
and_left false true e = e
and_left false false e = e

not_before_later : (a b : Span) (p : ℕ × ℕ) → comes_after a b ≡ true → is_passage_before (passage_of a) p ≡ false → is_passage_before (passage_of b) p ≡ false
not_before_later a b p e f = grind (arith, nat_tests)

later_kept : (a : Span) (p : ℕ × ℕ) (spans : List Span) → all_come_after a spans ≡ true → is_passage_before (passage_of a) p ≡ false → spans_from p spans ≡ spans
later_kept a p [] e f = refl
later_kept a p (b ∷ spans) e f =
    rw (not_before_later a b p (and_left _ _ e) f) (ap (λ bs. b ∷ bs) (later_kept a p spans (and_right _ _ e) f))

-- a list that begins in the passage or later is left alone
pub spans_from-here : (p q : ℕ × ℕ) (spans : List Span) → are_ordered spans ≡ true → first_passage spans ≡ Some q → is_passage_before q p ≡ false → spans_from p spans ≡ spans
spans_from-here p q [] h e f = refl
spans_from-here p q (a ∷ spans) h e f =
    let here : is_passage_before (passage_of a) p ≡ false = at q e f in
    rw here (ap (λ bs. a ∷ bs) (later_kept a p spans (and_left _ _ (and_right _ _ h)) here))
  where
    at : (q : ℕ × ℕ) → first_passage (a ∷ spans) ≡ Some q → is_passage_before q p ≡ false → is_passage_before (passage_of a) p ≡ false
    at q e f = let same : (a.row, a.part) ≡ q = cc in ap (λ r. is_passage_before r p) same ∙ f
