-- What is left of the cursors of an index.
use Rattle.std.specs.Prelude.{◌≡◌, ℕ, ◌<◌, ℤ, true, nat_le, List, [], ◌∷◌, filter, ⊤}
use Rattle.std.specs.List.{list_all}
use Rattle.sq_schema.specs.Limits.{most_rows}
use Rattle.sq_cursor.specs.Spans.{are_ordered}
use Rattle.sq_coded.specs.Coded.{is_small}
use Rattle.sq_coded.specs.declared.posting.Posting.{Posting}
use Rattle.sq_postings.specs.Indexed.{spans_of}

-- the entries of a list of a property
pub record AreEntries (property : ℕ) (entries : List Posting) : Type 0 where
  pub few : property < most_rows
  pub small : list_all is_small entries ≡ true
  pub spans : are_ordered (spans_of property entries) ≡ true

abbrev pub HasPair : List (ℕ × ℤ) → Type 0
HasPair [] = ⊥
HasPair (pair ∷ pairs) = ⊤

abbrev pub without_first_pair : List (ℕ × ℤ) → List (ℕ × ℤ)
without_first_pair [] = []
without_first_pair (pair ∷ pairs) = pairs

-- the pairs whose row is not below row
abbrev pub pairs_from : ℕ → List (ℕ × ℤ) → List (ℕ × ℤ)
pairs_from row pairs = filter (λ pair. nat_le row pair.0) pairs
