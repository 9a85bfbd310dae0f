-- The terms and postings of the first properties.
use Rattle.std.specs.Prelude.{◌≡◌, ◌≢◌, ℕ, ◌<◌, true, List, [], length, map, slice_index_or}
use Rattle.std.specs.List.{All, AllPass, range_with_len}
use Rattle.sq_coded.specs.declared.posting.Posting.{Posting}
use Rattle.sq_model.specs.declared.corpus.Item.{Item}
use Rattle.sq_postings.specs.declared.parts.Length.{Length}
use Rattle.sq_postings.specs.declared.parts.Term.{Term}
use Rattle.sq_postings.specs.Kept.{is_term}
use Rattle.sq_postings.specs.Occurrences.{postings_of}
use Rattle.sq_postings.specs.Rising.{rises, term_before}
use Rattle.sq_build.specs.Lengths.{lengths_from}
use Rattle.sq_build.specs.Terms.{token_of}

-- the list of the term has the places of its token
abbrev pub HasPostings : List Item → List (List Posting) → Term → Type 0
HasPostings items lists term = slice_index_or lists term.list [] ≡ postings_of items term.property term.token

abbrev pub property_of : Term → ℕ
property_of term = term.property

-- a term of the property and the token is among the terms
abbrev pub HasTerm : List Term → ℕ → List ℕ → Type 0
HasTerm terms property token =
    (i : ℕ) × (i < length terms) × ((d : Term) → property_of (slice_index_or terms i d) ≡ property) × ((d : Term) → token_of (slice_index_or terms i d) ≡ token)

-- they are those of so many properties: in order, each with its list, and none is missing
pub record AreTerms (items : List Item) (properties : ℕ) (terms : List Term) (lists : List (List Posting)) : Type 0 where
  pub rise : rises term_before terms ≡ true
  pub stand : AllPass (is_term properties (length lists)) terms
  pub postings : All (HasPostings items lists) terms
  pub whole : (property : ℕ) (token : List ℕ) → property < properties → postings_of items property token ≢ [] → HasTerm terms property token

abbrev pub lengths_of_property : List Item → ℕ → List Length
lengths_of_property items property = lengths_from 0 property items

-- for each of so many properties
abbrev pub lengths_by_property : ℕ → List Item → List (List Length)
lengths_by_property properties items = map (lengths_of_property items) (range_with_len 0 properties)
