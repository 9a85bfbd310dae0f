-- The terms of a property.
use Rattle.std.specs.Prelude.{◌≡◌, ℕ, ◌<◌, Bool, List, length, String, string_bytes, Option, Some, slice_index_or}
use Rattle.std.specs.Global.{Global}
use Rattle.sq_postings.specs.Rising.{text_before}
use Rattle.sq_postings.specs.declared.parts.Term.{Term}

-- of a token and the number of its list
abbrev pub term_of : ℕ → String Global × ℕ → Term
term_of property entry = record { property = property; token = string_bytes entry.0; list = entry.1 }

abbrev pub by_token : Term → Term → Bool
by_token a b = text_before a.token b.token

-- the term is of the property, and names the list of its token
pub record IsTermOf (property : ℕ) (find : List ℕ → Option ℕ) (term : Term) : Type 0 where
  pub property_is : term.property ≡ property
  pub list_is : find term.token ≡ Some term.list

abbrev pub token_of : Term → List ℕ
token_of term = term.token

-- a term of the token is among the terms
abbrev pub HasToken : List Term → List ℕ → Type 0
HasToken terms token = (i : ℕ) × (i < length terms) × ((d : Term) → token_of (slice_index_or terms i d) ≡ token)
