-- The lengths of passages, as an index keeps them.
use Rattle.std.specs.Prelude.{ℕ, ◌+◌, List, [], ◌∷◌, ◌++◌, length}
use Rattle.sq_model.specs.Passages.{Passage, passages}
use Rattle.sq_model.specs.declared.corpus.Item.{Item}
use Rattle.sq_postings.specs.declared.parts.Length.{Length}

-- those of the passages of one property of an item, of which the first has this ordinal
abbrev pub passage_lengths : ℕ → ℕ → List Passage → List Length
passage_lengths row ordinal [] = []
passage_lengths row ordinal (passage ∷ more) = record { row = row; ordinal = ordinal; tokens = length passage } ∷ passage_lengths row (ordinal + 1) more

-- those of one property of items, of which the first has this row
abbrev pub lengths_from : ℕ → ℕ → List Item → List Length
lengths_from row property [] = []
lengths_from row property (item ∷ items) = passage_lengths row 0 (passages item.values property) ++ lengths_from (row + 1) property items
