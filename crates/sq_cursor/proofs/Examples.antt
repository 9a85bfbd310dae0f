-- Worked examples of the definitions: each side computes to the other.
use Rattle.std.proofs.Common.{◌≡◌, ℕ, true, false, [], ◌∷◌, Some, refl}
use Rattle.sq_cursor.specs.declared.span.Span.{Span}
use Rattle.sq_cursor.specs.Entries.{entries_behind, first_count}
use Rattle.sq_cursor.specs.Rows.{rows_from, common_rows, other_rows, union_of}
use Rattle.sq_cursor.specs.Spans.{are_ordered, first_passage, spans_from}

union_of_three : union_of ((1 ∷ 4 ∷ 9 ∷ []) ∷ [] ∷ (2 ∷ 4 ∷ []) ∷ []) ≡ 1 ∷ 2 ∷ 4 ∷ 9 ∷ []
union_of_three = refl

rows_of_both : common_rows (1 ∷ 4 ∷ 9 ∷ []) (2 ∷ 4 ∷ 9 ∷ []) ≡ 4 ∷ 9 ∷ []
rows_of_both = refl

rows_of_one_alone : other_rows (1 ∷ 4 ∷ 9 ∷ []) (2 ∷ 4 ∷ []) ≡ 1 ∷ 9 ∷ []
rows_of_one_alone = refl

rows_from_a_row : rows_from 4 (1 ∷ 4 ∷ 9 ∷ []) ≡ 4 ∷ 9 ∷ []
rows_from_a_row = refl

one_step_to_the_first : first_count {X = ℕ} (1 ∷ 4 ∷ 9 ∷ []) ≡ 1
one_step_to_the_first = refl

two_behind_the_first : entries_behind {X = ℕ} (1 ∷ 4 ∷ 9 ∷ []) ≡ 2
two_behind_the_first = refl

abbrev at : ℕ → ℕ → ℕ → ℕ → Span
at row part first last = record { row = row; part = part; first = first; last = last }

ends_rise_in_a_passage : are_ordered (at 1 2000 4 4 ∷ at 3 1000 7 9 ∷ at 3 1000 8 11 ∷ []) ≡ true
ends_rise_in_a_passage = refl

a_later_passage_begins_anew : are_ordered (at 3 1000 7 9 ∷ at 3 1001 0 1 ∷ []) ≡ true
a_later_passage_begins_anew = refl

lasts_rise_strictly : are_ordered (at 3 1000 7 9 ∷ at 3 1000 8 9 ∷ []) ≡ false
lasts_rise_strictly = refl

passages_from_one_on : first_passage (spans_from (3, 1001) (at 1 2000 4 4 ∷ at 3 1000 7 9 ∷ at 3 2000 0 1 ∷ [])) ≡ Some (3, 2000)
passages_from_one_on = refl
