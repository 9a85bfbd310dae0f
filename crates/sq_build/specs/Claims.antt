-- The rows of claims, while they are gathered.
use Rattle.std.specs.Prelude.{ℕ, ◌-◌, nat_lt, Bool, ◌&&◌, ◌==◌, if◌then◌else◌, List, [], ◌∷◌, ◌++◌, length, slice_index_or, Option, Some, None, String, string_bytes}
use Rattle.std.specs.Global.{Global}
use Rattle.std.specs.List.{list_any}
use Rattle.std.specs.Str.{bytes_eq}
use Rattle.sq_model.specs.declared.corpus.Item.{Item}
use Rattle.sq_postings.specs.declared.parts.Claim.{Claim}

-- the last of the rows is this one
abbrev pub ends_with : List ℕ → ℕ → Bool
ends_with rows row = nat_lt 0 (length rows) && (slice_index_or rows (length rows - 1) 0 == row)

-- the rows with one behind them, unless it is their last
abbrev pub with_row : List ℕ → ℕ → List ℕ
with_row rows row = if ends_with rows row then rows else rows ++ row ∷ []

-- the rows of a claim, and none where it has none
abbrev pub rows_under : Option (List ℕ) → List ℕ
rows_under None = []
rows_under (Some rows) = rows

-- the item's claims that deny, or those that admit
abbrev pub claims_of : Bool → Item → List (List ℕ)
claims_of denied item = if denied then item.deny else item.allow

abbrev pub has_claim : Bool → List ℕ → Item → Bool
has_claim denied claim item = list_any (bytes_eq claim) (claims_of denied item)

-- of a claim and its rows
abbrev pub claim_of : String Global × List ℕ → Claim
claim_of entry = record { claim = string_bytes entry.0; rows = entry.1 }

abbrev pub name_of : Claim → List ℕ
name_of claim = claim.claim
