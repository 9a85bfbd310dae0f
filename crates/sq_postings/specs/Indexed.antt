-- What contracts see of an index.
use Rattle.std.specs.Prelude.{◌≡◌, ℕ, ◌+◌, ◌*◌, ◌/◌, ◌%◌, ◌<◌, ◌≤◌, ℤ, pos, Bool, true, false, ◌&&◌, ◌==◌, nat_eq, if◌then◌else◌, List, [], ◌∷◌, length, map, filter, flat_map, slice_index_or, Option, Some, None}
use Rattle.std.specs.Str.{bytes_eq}
use Rattle.sq_base.specs.Limits.{most_values}
use Rattle.sq_schema.specs.declared.property.Kind.{Kind}
use Rattle.sq_tokens.specs.Pattern.{is_token_asked}
use Rattle.sq_cursor.specs.declared.span.Span.{Span}
use Rattle.sq_coded.specs.declared.posting.Posting.{Posting}
use Rattle.sq_postings.specs.declared.parts.Row.{Row}
use Rattle.sq_postings.specs.declared.parts.Shape.{Shape}
use Rattle.sq_postings.specs.declared.parts.Length.{Length}
use Rattle.sq_postings.specs.declared.parts.Claim.{Claim}
use Rattle.sq_postings.specs.declared.parts.Term.{Term}
use Rattle.sq_postings.specs.declared.parts.Parts.{Parts}

-- the places of one token in the passages of one property
pub record TermList : Type 0 where
  pub property : ℕ
  pub token : List ℕ
  pub postings : List Posting

-- lists rise by property and then token; values and lengths stand by property
pub record Indexed : Type 0 where
  pub shapes : List Shape
  pub rows : List Row
  pub lists : List TermList
  pub values : List (List (ℕ × ℤ))
  pub lengths : List (List Length)
  pub allow : List Claim
  pub deny : List Claim

-- ---- an index of its parts

abbrev pub list_of : List (List Posting) → Term → TermList
list_of lists term = record { property = term.property; token = term.token; postings = slice_index_or lists term.list [] }

abbrev pub indexed : Parts → Indexed
indexed parts = record {
  shapes = parts.shapes;
  rows = parts.rows;
  lists = map (list_of parts.lists) parts.terms;
  values = parts.values;
  lengths = parts.lengths;
  allow = parts.allow;
  deny = parts.deny;
}

-- ---- what is in an index

-- the row at a number, and zeros past the end
abbrev pub row_at : Indexed → ℕ → Row
row_at index row = slice_index_or index.rows row (record { number = 0; rank = pos 0 })

abbrev pub kind_in : Option Shape → Option Kind
kind_in None = None
kind_in (Some shape) = Some shape.kind

abbrev pub is_searchable_in : Option Shape → Bool
is_searchable_in None = false
is_searchable_in (Some shape) = shape.searchable

-- the list at a number, and an empty one past the end
abbrev pub list_at : Indexed → ℕ → TermList
list_at index list = slice_index_or index.lists list (record { property = 0; token = []; postings = [] })

-- a posting as a span of one token
abbrev pub span_of : ℕ → Posting → Span
span_of property e = record { row = e.row; part = property * most_values + e.ordinal; first = e.place; last = e.place }

abbrev pub spans_of : ℕ → List Posting → List Span
spans_of property entries = map (span_of property) entries

-- the span is in a passage of the property
abbrev pub is_of_property : ℕ → Span → Bool
is_of_property property span = span.part / most_values == property

abbrev pub spans_of_list : TermList → List Span
spans_of_list list = spans_of list.property list.postings

abbrev pub is_list_of : ℕ → List ℕ → Bool → TermList → Bool
is_list_of property wanted prefixed list = (list.property == property) && is_token_asked prefixed wanted list.token

-- the lists from `start` to before `end` are those of the token, and no others
pub record AreListsOf (index : Indexed) (property : ℕ) (wanted : List ℕ) (prefixed : Bool) (start end : ℕ) : Type 0 where
  pub ordered : start ≤ end
  pub within : end ≤ length index.lists
  pub inside : (list : ℕ) → start ≤ list → list < end → is_list_of property wanted prefixed (list_at index list) ≡ true
  pub outside : (list : ℕ) → list < length index.lists → is_list_of property wanted prefixed (list_at index list) ≡ true → (start ≤ list) × (list < end)

-- the pairs of a property by row and number, and none where there is no such property
abbrev pub values_in : Indexed → ℕ → List (ℕ × ℤ)
values_in index property = slice_index_or index.values property []

-- the rows whose list has the claim
abbrev pub rows_with : List ℕ → List Claim → List ℕ
rows_with claim lists = flat_map (λ list. list.rows) (filter (λ list. bytes_eq list.claim claim) lists)

-- the lists of the claims that admit, or of those that deny
abbrev pub claims_in : Indexed → Bool → List Claim
claims_in index denied = if denied then index.deny else index.allow

-- how many tokens the passage of a row and an ordinal has, by the table, and 0 where it isn't there
abbrev pub length_in : List Length → ℕ → ℕ → ℕ
length_in [] row ordinal = 0
length_in (entry ∷ table) row ordinal = if (entry.row == row) && (entry.ordinal == ordinal) then entry.tokens else length_in table row ordinal

-- how many tokens the passage of a row and a part has: the part is the property, times the most values that it has, and the ordinal
abbrev pub length_of : Indexed → ℕ → ℕ → ℕ
length_of index row part = length_in (slice_index_or index.lengths (part / most_values) []) row (part % most_values)
