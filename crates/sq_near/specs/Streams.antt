-- What is left of a stream.
use Rattle.std.specs.Prelude.{◌≡◌, ℕ, ◌+◌, List, [], ◌∷◌, Option, Some, None, map, sum, sum_by, filter, max, nat_lt, nat_le, Bool, true, false, cond, ◌&&◌, ◌||◌, eqb, refl}
use Rattle.std.proofs.Common.{subst, sym, ◌∙◌}
use Rattle.std.proofs.lemmas.List.Sums.{sum-map}
use Rattle.sq_cursor.specs.declared.span.Span.{Span}
use Rattle.sq_cursor.specs.Spans.{passage_of, is_passage_before, comes_after, all_come_after, are_ordered}
use Rattle.sq_near.specs.Least.{ordered_least}
use Rattle.sq_model.specs.Lists.{joined}
use Rattle.sq_near.specs.Covers.{covers, joined_spans, merged_spans}
use Rattle.sq_near.specs.declared.cover.Cover.{Cover}
use Rattle.sq_near.specs.declared.stream.Stream.{Stream}
use Rattle.sq_near.specs.declared.stream.Stream.TheOpen.{Stream-F, Merged-F, Joined-F}
use Rattle.sq_near.specs.declared.stream.Stream.TheFolds.{fold-Stream, fold-Merged, fold-Joined, fold_out-Stream, fold_out-Merged, fold_out-Joined, map-Stream}
use Rattle.sq_near.specs.declared.stream.Stream.TheViews.{out-Stream}
use Rattle.sq_near.specs.declared.stream.Merged.{Merged}
use Rattle.sq_near.specs.declared.stream.Joined.{Joined}

abbrev pub cover_span : Cover → Span
cover_span c = record { row = c.row; part = c.part; first = c.first; last = c.last }

-- behind a place of a passage: in a later passage, or in the same one with a first token behind the place
abbrev pub is_beyond : ℕ × ℕ → ℕ → Span → Bool
is_beyond passage place s = is_passage_before passage (passage_of s) || (eqb s.row passage.0 && (eqb s.part passage.1 && nat_lt place s.first))

abbrev pub spans_beyond : ℕ × ℕ → ℕ → List Span → List Span
spans_beyond passage place spans = filter (is_beyond passage place) spans

-- what was found, and of the others those that come after it
abbrev pub found_left : Option Cover → List Span → List Span
found_left None spans = []
found_left (Some c) spans = cover_span c ∷ filter (comes_after (cover_span c)) spans

abbrev pub left_of_stream : {C : Type 0} → (C → List Span) → Stream-F C (List Span) (List Span) (List Span) → List Span
left_of_stream left (Stream-F.Leaf c) = left c
left_of_stream left (Stream-F.Joined spans) = spans
left_of_stream left (Stream-F.Merged spans) = spans

abbrev pub left_of_joined : {C : Type 0} → Joined-F C (List Span) (List Span) (List Span) → List Span
left_of_joined j = found_left j.found (joined_spans j.width j.ordered j.parts.items)

abbrev pub left_of_merged : {C : Type 0} → Merged-F C (List Span) (List Span) (List Span) → List Span
left_of_merged m = found_left m.found (merged_spans m.parts.items)

abbrev pub stream_left : {C : Type 0} → (C → List Span) → Stream C → List Span
stream_left {C} left = fold-Stream C (List Span) (List Span) (List Span) (left_of_stream left) left_of_joined left_of_merged

abbrev pub joined_left : {C : Type 0} → (C → List Span) → Joined C → List Span
joined_left {C} left = fold-Joined C (List Span) (List Span) (List Span) (left_of_stream left) left_of_joined left_of_merged

abbrev pub merged_left : {C : Type 0} → (C → List Span) → Merged C → List Span
merged_left {C} left = fold-Merged C (List Span) (List Span) (List Span) (left_of_stream left) left_of_joined left_of_merged

abbrev pub rest_of_stream : {C : Type 0} → (C → ℕ) → Stream-F C ℕ ℕ ℕ → ℕ
rest_of_stream rest (Stream-F.Leaf c) = rest c
rest_of_stream rest (Stream-F.Joined n) = n
rest_of_stream rest (Stream-F.Merged n) = n

abbrev pub rest_of_joined : {C : Type 0} → Joined-F C ℕ ℕ ℕ → ℕ
rest_of_joined j = sum j.parts.items

abbrev pub rest_of_merged : {C : Type 0} → Merged-F C ℕ ℕ ℕ → ℕ
rest_of_merged m = sum m.parts.items

-- the sum of the rests of the leaves
abbrev pub stream_rest : {C : Type 0} → (C → ℕ) → Stream C → ℕ
stream_rest {C} rest = fold-Stream C ℕ ℕ ℕ (rest_of_stream rest) rest_of_joined rest_of_merged

abbrev pub joined_rest : {C : Type 0} → (C → ℕ) → Joined C → ℕ
joined_rest {C} rest = fold-Joined C ℕ ℕ ℕ (rest_of_stream rest) rest_of_joined rest_of_merged

abbrev pub merged_rest : {C : Type 0} → (C → ℕ) → Merged C → ℕ
merged_rest {C} rest = fold-Merged C ℕ ℕ ℕ (rest_of_stream rest) rest_of_joined rest_of_merged

abbrev pub highest : List ℕ → ℕ
highest [] = 0
highest (n ∷ ns) = max n (highest ns)

abbrev pub stream_depth : {C : Type 0} → Stream C → ℕ
stream_depth {C} = fold-Stream C ℕ ℕ ℕ (rest_of_stream (λ _. 0)) (λ j. highest j.parts.items + 1) (λ m. highest m.parts.items + 1)

abbrev pub joined_depth : {C : Type 0} → Joined C → ℕ
joined_depth {C} = fold-Joined C ℕ ℕ ℕ (rest_of_stream (λ _. 0)) (λ j. highest j.parts.items + 1) (λ m. highest m.parts.items + 1)

abbrev pub merged_depth : {C : Type 0} → Merged C → ℕ
merged_depth {C} = fold-Merged C ℕ ℕ ℕ (rest_of_stream (λ _. 0)) (λ j. highest j.parts.items + 1) (λ m. highest m.parts.items + 1)

pub joined_left-parts : {C : Type 0} (left : C → List Span) (j : Joined C) → joined_left left j ≡ found_left j.found (joined_spans j.width j.ordered (map (stream_left left) j.parts.items))
joined_left-parts {C} left j = fold_out-Joined C (List Span) (List Span) (List Span) (left_of_stream left) left_of_joined left_of_merged j

pub merged_left-parts : {C : Type 0} (left : C → List Span) (m : Merged C) → merged_left left m ≡ found_left m.found (merged_spans (map (stream_left left) m.parts.items))
merged_left-parts {C} left m = fold_out-Merged C (List Span) (List Span) (List Span) (left_of_stream left) left_of_joined left_of_merged m

pub joined_rest-parts : {C : Type 0} (rest : C → ℕ) (j : Joined C) → joined_rest rest j ≡ sum_by (stream_rest rest) j.parts.items
joined_rest-parts {C} rest j = fold_out-Joined C ℕ ℕ ℕ (rest_of_stream rest) rest_of_joined rest_of_merged j ∙ sum-map (stream_rest rest) j.parts.items

pub merged_rest-parts : {C : Type 0} (rest : C → ℕ) (m : Merged C) → merged_rest rest m ≡ sum_by (stream_rest rest) m.parts.items
merged_rest-parts {C} rest m = fold_out-Merged C ℕ ℕ ℕ (rest_of_stream rest) rest_of_joined rest_of_merged m ∙ sum-map (stream_rest rest) m.parts.items

and_right : (a b : Bool) → a && b ≡ true → b ≡ true
and_right true b e = e
and_right false true e = refl
and_right false false e = e

and_both : (a b : Bool) → a ≡ true → b ≡ true → a && b ≡ true
and_both true true e f = refl
and_both true false e f = f
and_both false b e f = e

and_left : (a b : Bool) → a && b ≡ true → a ≡ true
and_left true b e = refl
and_left false true e = e
and_left false false e = e

after_filter : (p : Span → Bool) (a : Span) (spans : List Span) → all_come_after a spans ≡ true → all_come_after a (filter p spans) ≡ true
after_filter p a [] h = refl
after_filter p a (b ∷ spans) h = at (p b) (after_filter p a spans (and_right (comes_after a b) _ h))
  where
    at : (t : Bool) → all_come_after a (filter p spans) ≡ true → all_come_after a (cond t (b ∷ filter p spans) (filter p spans)) ≡ true
    at true more = and_both (comes_after a b) _ (and_left _ _ h) more
    at false more = more

pub ordered_filter : (p : Span → Bool) (spans : List Span) → are_ordered spans ≡ true → are_ordered (filter p spans) ≡ true
ordered_filter p [] h = refl
ordered_filter p (a ∷ spans) h = at (p a) (ordered_filter p spans (and_right _ _ (and_right (nat_le a.first a.last) _ h)))
  where
    at : (t : Bool) → are_ordered (filter p spans) ≡ true → are_ordered (cond t (a ∷ filter p spans) (filter p spans)) ≡ true
    at true more =
        and_both (nat_le a.first a.last) _ (and_left _ _ h)
        (and_both (all_come_after a (filter p spans)) _ (after_filter p a spans (and_left _ (are_ordered spans) (and_right (nat_le a.first a.last) _ h))) more)
    at false more = more

all_after_filter : (a : Span) (spans : List Span) → all_come_after a (filter (comes_after a) spans) ≡ true
all_after_filter a [] = refl
all_after_filter a (b ∷ spans) = at (comes_after a b) refl (all_after_filter a spans)
  where
    at : (t : Bool) → comes_after a b ≡ t → all_come_after a (filter (comes_after a) spans) ≡ true →
        all_come_after a (cond t (b ∷ filter (comes_after a) spans) (filter (comes_after a) spans)) ≡ true
    at true e more = and_both (comes_after a b) _ e more
    at false e more = more

found_ordered : (found : Option Cover) (spans : List Span) → are_ordered spans ≡ true → are_ordered (found_left found spans) ≡ true
found_ordered None spans h = refl
found_ordered (Some c) spans h =
    and_both (nat_le c.first c.last) _ c.rises
    (and_both (all_come_after (cover_span c) (filter (comes_after (cover_span c)) spans)) _ (all_after_filter (cover_span c) spans)
    (ordered_filter (comes_after (cover_span c)) spans h))

pub joined_ordered : {C : Type 0} (left : C → List Span) (j : Joined C) → are_ordered (joined_left left j) ≡ true
joined_ordered left j =
    subst (λ spans. are_ordered spans ≡ true) (sym (joined_left-parts left j)) (found_ordered j.found (joined_spans j.width j.ordered (map (stream_left left) j.parts.items)) (ordered_least (covers j.width j.ordered (map (stream_left left) j.parts.items))))

pub merged_ordered : {C : Type 0} (left : C → List Span) (m : Merged C) → are_ordered (merged_left left m) ≡ true
merged_ordered left m =
    subst (λ spans. are_ordered spans ≡ true) (sym (merged_left-parts left m)) (found_ordered m.found (merged_spans (map (stream_left left) m.parts.items)) (ordered_least (joined (map (stream_left left) m.parts.items))))

pub stream_ordered : {C : Type 0} (left : C → List Span) → ((c : C) → are_ordered (left c) ≡ true) → (s : Stream C) → are_ordered (stream_left left s) ≡ true
stream_ordered {C} left ordered s =
    subst (λ spans. are_ordered spans ≡ true) (sym (fold_out-Stream C (List Span) (List Span) (List Span) (left_of_stream left) left_of_joined left_of_merged s)) (at (out-Stream C s))
  where
    at : (x : Stream-F C (Stream C) (Joined C) (Merged C)) →
        are_ordered (left_of_stream left (map-Stream C (Stream C) (Joined C) (Merged C) (List Span) (List Span) (List Span) (stream_left left) (joined_left left) (merged_left left) x)) ≡ true
    at (Stream-F.Leaf c) = ordered c
    at (Stream-F.Joined j) = joined_ordered left j
    at (Stream-F.Merged m) = merged_ordered left m
