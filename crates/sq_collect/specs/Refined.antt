-- What a refiner knows of the rows that came.
use Rattle.std.specs.Prelude.{◌≡◌, ℕ, ◌==◌, ◌≤◌, ℤ, true, List, [], ◌∷◌, ◌++◌, length, map, slice_index_or}
use Rattle.sq_model.specs.Valid.{are_rising}
use Rattle.sq_cursor.specs.Entries.{entries_behind}
use Rattle.sq_postings.specs.Indexed.{Indexed, values_in}
use Rattle.sq_postings.specs.Left.{pairs_from}
use Rattle.sq_collect.specs.declared.refiner.Refiner.{Refiner}
use Rattle.sq_collect.specs.Counted.{number_of, numbers_in_row, marks_of, count_at}

-- A count for each place between the marks, and the pairs of the rows that are yet to come.
pub record IsRefinerOf (index : Indexed) (property : ℕ) (bounds : List ℤ) (refiner : Refiner) (rows : List ℕ) : Type 0 where
  pub bare : refiner.bare ≡ (length bounds == 0)
  pub marked : refiner.marks.items ≡ marks_of bounds (map number_of (values_in index property))
  pub counted : (place : ℕ) → place ≤ length refiner.marks.items → slice_index_or refiner.counts.items place 0 ≡ count_at refiner.marks.items (map (numbers_in_row index property) rows) place
  pub later : (row : ℕ) → are_rising (rows ++ row ∷ []) ≡ true → pairs_from row refiner.cursor ≡ pairs_from row (values_in index property)

-- how many steps the rows that are yet to come can take
abbrev pub refiner_rest : Refiner → ℕ
refiner_rest refiner = entries_behind refiner.cursor
