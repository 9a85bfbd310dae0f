-- The numbers of a corpus by property.
use Rattle.std.specs.Prelude.{ℕ, ℤ, List, map}
use Rattle.std.specs.List.{range_with_len}
use Rattle.sq_model.specs.declared.corpus.Item.{Item}
use Rattle.sq_postings.specs.Occurrences.{numbers_from}

abbrev pub numbers_of_property : List Item → ℕ → List (ℕ × ℤ)
numbers_of_property items property = numbers_from 0 property items

-- for each of so many properties
abbrev pub numbers_by_property : ℕ → List Item → List (List (ℕ × ℤ))
numbers_by_property properties items = map (numbers_of_property items) (range_with_len 0 properties)
