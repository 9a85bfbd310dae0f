-- Ordered lists of spans. A span has its passage, and the places of its first and its last token there.
use Rattle.std.specs.Prelude.{◌≡◌, ℕ, Bool, true, false, not, List, [], ◌∷◌, drop, Option, Some, None, filter, ⊤, ◌||◌, ◌&&◌, nat_lt, nat_le, eqb, refl}
use Rattle.std.proofs.Common.{zero, suc}
use Rattle.sq_cursor.specs.declared.span.Span.{Span}

abbrev pub passage_of : Span → ℕ × ℕ
passage_of s = (s.row, s.part)

abbrev pub is_passage_before : ℕ × ℕ → ℕ × ℕ → Bool
is_passage_before p q = nat_lt p.0 q.0 || (eqb p.0 q.0 && nat_lt p.1 q.1)

-- b comes after a: in a later passage, or in the same one with both ends later
abbrev pub comes_after : Span → Span → Bool
comes_after a b =
    is_passage_before (passage_of a) (passage_of b) || (eqb a.row b.row && (eqb a.part b.part && (nat_lt a.first b.first && nat_lt a.last b.last)))

abbrev pub all_come_after : Span → List Span → Bool
all_come_after a [] = true
all_come_after a (b ∷ spans) = comes_after a b && all_come_after a spans

-- no span ends before it begins, and each comes after all earlier ones
abbrev pub are_ordered : List Span → Bool
are_ordered [] = true
are_ordered (a ∷ spans) = nat_le a.first a.last && (all_come_after a spans && are_ordered spans)

abbrev pub first_passage : List Span → Option (ℕ × ℕ)
first_passage [] = None
first_passage (a ∷ spans) = Some (a.row, a.part)

abbrev pub first_span : List Span → Option (ℕ × ℕ)
first_span [] = None
first_span (a ∷ spans) = Some (a.first, a.last)

abbrev pub without_first_span : List Span → List Span
without_first_span [] = []
without_first_span (a ∷ spans) = spans

abbrev pub HasSpan : List Span → Type 0
HasSpan [] = ⊥
HasSpan (a ∷ spans) = ⊤

-- the spans whose passage is not before passage
abbrev pub spans_from : ℕ × ℕ → List Span → List Span
spans_from passage spans = filter (λ a. not (is_passage_before (passage_of a) passage)) spans

pub and_right : (a b : Bool) → a && b ≡ true → b ≡ true
and_right true b e = e
and_right false true e = refl
and_right false false e = e

pub are_ordered-drop : (n : ℕ) (spans : List Span) → are_ordered spans ≡ true → are_ordered (drop n spans) ≡ true
are_ordered-drop zero spans h = h
are_ordered-drop (suc n) [] h = refl
are_ordered-drop (suc n) (a ∷ spans) h = are_ordered-drop n spans (and_right (all_come_after a spans) (are_ordered spans) (and_right (nat_le a.first a.last) _ h))
