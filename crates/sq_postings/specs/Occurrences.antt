-- Where the tokens and numbers of a corpus stand.
use Rattle.std.specs.Prelude.{ℕ, ◌+◌, ◌/◌, ◌%◌, ℤ, int_lt, Bool, if◌then◌else◌, List, [], ◌∷◌, ◌++◌, map, slice_index_or}
use Rattle.std.specs.Str.{bytes_eq}
use Rattle.sq_base.specs.Sorting.{in_order}
use Rattle.sq_base.specs.Limits.{most_values}
use Rattle.sq_tokens.specs.Token.{token_text}
use Rattle.sq_model.specs.Passages.{Passage, passages, numbers}
use Rattle.sq_model.specs.declared.corpus.Value.{Value}
use Rattle.sq_model.specs.declared.corpus.Item.{Item}
use Rattle.sq_coded.specs.declared.posting.Posting.{Posting}

-- the places of a token among tokens of which the first has the number i
abbrev pub places_from : ℕ → List ℕ → Passage → List ℕ
places_from i wanted [] = []
places_from i wanted (token ∷ tokens) =
    if bytes_eq (token_text token) wanted then i ∷ places_from (i + 1) wanted tokens else places_from (i + 1) wanted tokens

abbrev pub posting : ℕ → ℕ → ℕ → Posting
posting row ordinal place = record { row = row; ordinal = ordinal; place = place }

-- those of the passages of one property of an item, of which the first has this ordinal
abbrev pub passage_postings : ℕ → ℕ → List ℕ → List Passage → List Posting
passage_postings row ordinal wanted [] = []
passage_postings row ordinal wanted (passage ∷ more) =
    map (posting row ordinal) (places_from 0 wanted passage) ++ passage_postings row (ordinal + 1) wanted more

-- the postings of a token in a property of items, of which the first has this row
abbrev pub postings_from : ℕ → ℕ → List ℕ → List Item → List Posting
postings_from row property wanted [] = []
postings_from row property wanted (item ∷ items) =
    passage_postings row 0 wanted (passages item.values property) ++ postings_from (row + 1) property wanted items

abbrev pub postings_of : List Item → ℕ → List ℕ → List Posting
postings_of items property wanted = postings_from 0 property wanted items

abbrev pub numbered : ℕ → ℤ → ℕ × ℤ
numbered row n = (row, n)

-- the numbers of a property of items, of which the first has this row: by row, and then by number
abbrev pub numbers_from : ℕ → ℕ → List Item → List (ℕ × ℤ)
numbers_from row property [] = []
numbers_from row property (item ∷ items) = map (numbered row) (in_order int_lt (numbers item.values property)) ++ numbers_from (row + 1) property items

-- the rows of the items that pass a test, of which the first has this row
abbrev pub rows_from : ℕ → (Item → Bool) → List Item → List ℕ
rows_from row passes [] = []
rows_from row passes (item ∷ items) = if passes item then row ∷ rows_from (row + 1) passes items else rows_from (row + 1) passes items

abbrev pub values_of : Item → List Value
values_of item = item.values

-- the values of the item in a row, and none past the end
abbrev pub values_at : List Item → ℕ → List Value
values_at items row = slice_index_or (map values_of items) row []

-- the passage of a row and a part, and no tokens where there is none
abbrev pub passage_at : List Item → ℕ → ℕ → Passage
passage_at items row part = slice_index_or (passages (values_at items row) (part / most_values)) (part % most_values) []
