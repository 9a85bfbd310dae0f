-- What the moves of a join do to what is left of its parts, and what they keep.
use Rattle.std.specs.Prelude.{◌≡◌, ◌⊎◌, ℕ, zero, suc, ◌+◌, ◌-◌, ◌*◌, ◌^◌, ◌≤◌, min, max, Bool, true, false, cond, not, ◌&&◌, ◌||◌, nat_le, nat_lt, eqb, List, [], ◌∷◌, map, length, Option, Some, None}
use Rattle.sq_cursor.specs.declared.span.Span.{Span}
use Rattle.sq_cursor.specs.Spans.{passage_of, is_passage_before, comes_after, spans_from}
use Rattle.sq_near.specs.Covers.{covers}
use Rattle.sq_near.specs.Streams.{spans_beyond, cover_span}
use Rattle.sq_near.specs.declared.cover.Cover.{Cover}
use Rattle.sq_model.proofs.Members.{IsIn}

-- ---- where the parts stand

abbrev pub later_passage : Option (ℕ × ℕ) → ℕ × ℕ → ℕ × ℕ
later_passage None q = q
later_passage (Some p) q = cond (is_passage_before p q) q p

-- the last of p and the passages of the first spans, and nothing where a list is empty
abbrev pub furthest_from : Option (ℕ × ℕ) → List (List Span) → Option (ℕ × ℕ)
furthest_from o [] = o
furthest_from o ([] ∷ lists) = None
furthest_from o ((s ∷ spans) ∷ lists) = furthest_from (Some (later_passage o (passage_of s))) lists

abbrev pub is_here : Option (ℕ × ℕ) → ℕ × ℕ → Bool
is_here None p = false
is_here (Some q) p = eqb q.0 p.0 && eqb q.1 p.1

-- from the beginning of the one that begins first to the end of the one that ends last
abbrev pub hull : Span → Span → Span
hull a s = record { row = a.row; part = a.part; first = min a.first s.first; last = max a.last s.last }

abbrev pub hull_with : Option Span → Span → Span
hull_with None s = s
hull_with (Some a) s = hull a s

-- the cover of a and the first spans, and nothing where a list is empty
abbrev pub hull_from : Option Span → List (List Span) → Option Span
hull_from o [] = o
hull_from o ([] ∷ lists) = None
hull_from o ((s ∷ spans) ∷ lists) = hull_from (Some (hull_with o s)) lists

abbrev pub first_of : List Span → Option Span
first_of [] = None
first_of (s ∷ spans) = Some s

-- a ends before b, or with it and begins later
abbrev pub is_sooner : Span → Span → Bool
is_sooner a b =
    nat_lt a.row b.row || (eqb a.row b.row && (nat_lt a.part b.part || (eqb a.part b.part && (nat_lt a.last b.last || (eqb a.last b.last && nat_lt b.first a.first)))))

abbrev pub sooner : Span → Span → Span
sooner a b = cond (is_sooner b a) b a

abbrev pub sooner_of : Option Span → Option Span → Option Span
sooner_of a None = a
sooner_of None (Some b) = Some b
sooner_of (Some a) (Some b) = Some (sooner a b)

-- the soonest of o and the first spans
abbrev pub soonest_from : Option Span → List (List Span) → Option Span
soonest_from o [] = o
soonest_from o (l ∷ lists) = soonest_from (sooner_of o (first_of l)) lists

-- ---- moves

abbrev pub behind_end : ℕ × ℕ → Option (ℕ × ℕ) → List Span → List Span
behind_end p None m = m
behind_end p (Some end) m = spans_beyond p end.1 m

-- of the second list what begins behind the end of the first span of the first list, and later passages
abbrev pub behind : ℕ × ℕ → List Span → List Span → List Span
behind p [] m = m
behind p (s ∷ spans) m = spans_beyond p s.last m

-- the first n lists but the first, each behind the beginning of the one before it
abbrev pub strung : ℕ × ℕ → ℕ → List (List Span) → List (List Span)
strung p zero lists = lists
strung p (suc n) [] = []
strung p (suc n) (l ∷ []) = l ∷ []
strung p (suc n) (l ∷ m ∷ lists) = l ∷ strung p n (behind p l m ∷ lists)

abbrev pub settled : Bool → ℕ × ℕ → List (List Span) → List (List Span)
settled ordered p lists = cond ordered (strung p (length lists - 1) (map (spans_from p) lists)) (map (spans_from p) lists)

-- ---- what they keep

-- of each list, the other has some of the spans
abbrev pub AreSome : List (List Span) → List (List Span) → Type 0
AreSome [] [] = Unit {0}
AreSome [] (l ∷ lists) = ⊥
AreSome (k ∷ fews) [] = ⊥
AreSome (k ∷ fews) (l ∷ lists) = ((s : Span) → IsIn s k → IsIn s l) × AreSome fews lists

-- nothing that a cover needs was passed over
pub record Keeps (width : ℕ) (ordered : Bool) (few lists : List (List Span)) : Type 0 where
  pub some : AreSome few lists
  pub all : (s : Span) → IsIn s (covers width ordered lists) → IsIn s (covers width ordered few)

-- one of the lists has it
abbrev pub IsInOne : Span → List (List Span) → Type 0
IsInOne s [] = ⊥
IsInOne s (l ∷ lists) = IsIn s l ⊎ IsInOne s lists

-- c is the cover of the first spans: no cover begins or ends before it
pub record IsLeading (width : ℕ) (ordered : Bool) (lists : List (List Span)) (c : Span) : Type 0 where
  pub proper : nat_le c.first c.last ≡ true
  pub leads : (s : Span) → IsIn s (covers width ordered lists) →
      (is_passage_before (passage_of c) (passage_of s) ≡ true) ⊎ ((s.row ≡ c.row) × (s.part ≡ c.part) × (c.first ≤ s.first) × (c.last ≤ s.last))
  pub is : c.last + 1 ≤ c.first + width → IsIn c (covers width ordered lists)
  pub begins : (x : Span) × IsInOne x lists × (x.row ≡ c.row) × (x.part ≡ c.part) × (x.first ≡ c.first)

abbrev pub LeadsNext : ℕ → Bool → List (List Span) → Option Span → Type 0
LeadsNext width ordered lists None = (s : Span) → IsIn s (covers width ordered lists) → ⊥
LeadsNext width ordered lists (Some c) = IsLeading width ordered lists c

-- ---- what is found

abbrev pub ends_like : Option Span → Span → Bool
ends_like None c = false
ends_like (Some n) c = eqb n.row c.row && (eqb n.part c.part && eqb n.last c.last)

abbrev pub is_after : Option Cover → Span → Bool
is_after None s = true
is_after (Some c) s = comes_after (cover_span c) s

-- c is a least cover, and the next to be found
abbrev pub is_given : ℕ → Option Cover → Option Span → Span → Bool
is_given width after next c = is_after after c && (not (ends_like next c) && nat_le (c.last + 1) (c.first + width))

-- ---- measures

abbrev pub passage_number : ℕ × ℕ → ℕ
passage_number p = p.0 * 2 ^ 32 + p.1

abbrev pub passages_ahead : Option (ℕ × ℕ) → ℕ
passages_ahead None = 0
passages_ahead (Some p) = 2 ^ 64 - passage_number p

abbrev pub places_ahead : Option Cover → ℕ
places_ahead None = 0
places_ahead (Some c) = 2 ^ 96 - (passage_number (c.row, c.part) * 2 ^ 32 + c.first)
