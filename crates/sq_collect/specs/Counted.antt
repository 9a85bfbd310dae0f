-- Counts of numbers between marks.
use Rattle.std.specs.Prelude.{ℕ, ◌+◌, ◌-◌, ◌^◌, ◌==◌, nat_lt, nat_le, min, ℤ, int_le, Bool, true, false, if◌then◌else◌, List, [], ◌∷◌, ◌++◌, length, map, filter, slice_index_or, slice_set, Option, Some, None}
use Rattle.std.specs.List.{list_any, list_all}
use Rattle.sq_response.specs.declared.response.Entry.{Entry}
use Rattle.sq_response.specs.declared.response.Entry.TheVariants.{Single, Bucket}
use Rattle.sq_ranking.specs.Ranking.{values}
use Rattle.sq_postings.specs.Indexed.{Indexed, values_in}

abbrev pub number_of : ℕ × ℤ → ℤ
number_of pair = pair.1

abbrev pub is_in_row : ℕ → ℕ × ℤ → Bool
is_in_row row pair = pair.0 == row

-- the numbers of a row among pairs of a row and a number
abbrev pub numbers_at : ℕ → List (ℕ × ℤ) → List ℤ
numbers_at row pairs = map number_of (filter (is_in_row row) pairs)

-- the numbers that an index has for a row
abbrev pub numbers_in_row : Indexed → ℕ → ℕ → List ℤ
numbers_in_row index property row = numbers_at row (values_in index property)

-- no pair is of a lower row
abbrev pub are_from : ℕ → List (ℕ × ℤ) → Bool
are_from row pairs = list_all (λ pair. nat_le row pair.0) pairs

-- the bounds that are counted between: those asked for, or without any each number that there is
abbrev pub marks_of : List ℤ → List ℤ → List ℤ
marks_of [] numbers = values numbers
marks_of (bound ∷ bounds) numbers = bound ∷ bounds

-- how many marks a number has reached, of marks that rise
abbrev pub place_of : List ℤ → ℤ → ℕ
place_of [] n = 0
place_of (mark ∷ marks) n = if int_le mark n then place_of marks n + 1 else 0

abbrev pub is_placed : List ℤ → ℕ → ℤ → Bool
is_placed marks place n = place_of marks n == place

-- how many of the hits have a number at a place
abbrev pub count_at : List ℤ → List (List ℤ) → ℕ → ℕ
count_at marks hits place = length (filter (list_any (is_placed marks place)) hits)

abbrev pub once : Bool → ℕ
once true = 1
once false = 0

-- the counts with one more at a place, where the places below next are counted
abbrev pub counted : ℕ → ℕ → List ℕ → List ℕ
counted place next counts = if nat_lt place next then counts else slice_set counts place (min (slice_index_or counts place 0 + 1) (2 ^ 64 - 1))

-- the places below it are counted then
abbrev pub next_place : ℕ → ℕ → ℕ
next_place place next = if nat_lt place next then next else place + 1

-- ---- entries by the counts

-- those of marks of which the first has the number i
abbrev pub counted_buckets : (ℕ → ℕ) → ℕ → Option ℤ → List ℤ → List Entry
counted_buckets count i from [] = Bucket from None (count i) ∷ []
counted_buckets count i from (mark ∷ marks) = Bucket from (Some mark) (count i) ∷ counted_buckets count (i + 1) (Some mark) marks

-- none where the count is 0
abbrev pub single_of : ℤ → ℕ → List Entry
single_of value count = if count == 0 then [] else Single value count ∷ []

-- those of marks of which the first has the number i
abbrev pub counted_singles : (ℕ → ℕ) → ℕ → List ℤ → List Entry
counted_singles count i [] = []
counted_singles count i (mark ∷ marks) = single_of mark (count (i + 1)) ++ counted_singles count (i + 1) marks

-- the count at a place, and 0 past the end
abbrev pub count_in : List ℕ → ℕ → ℕ
count_in counts place = slice_index_or counts place 0
