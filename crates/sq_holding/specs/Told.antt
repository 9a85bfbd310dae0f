-- The corpus that is read off what is held.
use Rattle.std.specs.Prelude.{ℕ, ◌+◌, ℤ, pos, Bool, nat_eq, List, [], ◌∷◌, map, filter, flat_map, length, codes, slice_get, Option, Some, None, Result, Ok, Err}
use Rattle.std.specs.List.{list_any, range_with_len}
use Rattle.std.specs.Option.{unwrap_or}
use Rattle.std.specs.Str.{bytes_eq}
use Rattle.sq_schema.specs.declared.interval.Interval.{Interval}
use Rattle.sq_schema.specs.declared.property.Kind.{Kind}
use Rattle.sq_schema.specs.declared.property.Kind.TheVariants.{Text, Integer, DateTime, YesNo}
use Rattle.sq_schema.specs.declared.property.Property.{Property}
use Rattle.sq_schema.specs.declared.values.NumberFault.{NumberFault}
use Rattle.sq_schema.specs.Dates.{interval_of}
use Rattle.sq_schema.specs.Values.{number_of}
use Rattle.sq_model.specs.declared.corpus.Content.{Content}
use Rattle.sq_model.specs.declared.corpus.Content.TheVariants.{Words, Number, Moment, Flag}
use Rattle.sq_model.specs.declared.corpus.Value.{Value}
use Rattle.sq_model.specs.declared.corpus.Item.{Item}
use Rattle.sq_model.specs.declared.corpus.Corpus.{Corpus}
use Rattle.sq_postings.specs.declared.parts.Claim.{Claim}
use Rattle.sq_postings.specs.declared.parts.Row.{Row}
use Rattle.sq_stored.specs.Stored.{url_at, values_at}
use Rattle.sq_holding.specs.Held.{Held}

-- the number that a text was read as, and 0 where it is none
abbrev pub number_read : Result ℤ NumberFault → ℤ
number_read (Ok n) = n
number_read (Err fault) = pos 0

-- the first moment of a date, and 0 where the text is none
abbrev pub moment_read : Option Interval → ℤ
moment_read None = pos 0
moment_read (Some interval) = interval.first

-- the content of a kind that is shown as a text
abbrev pub content_of_kind : Kind → List ℕ → Content
content_of_kind Text text = Words text
content_of_kind Integer text = Number (number_read (number_of text))
content_of_kind DateTime text = Moment (moment_read (interval_of text))
content_of_kind YesNo text = Flag (bytes_eq text (codes "true"))

abbrev pub content_under : Option Property → List ℕ → Content
content_under None text = Words text
content_under (Some row) text = content_of_kind row.kind text

abbrev pub value_told : List Property → ℕ → List ℕ → Value
value_told schema property text = record { property = property; content = content_under (slice_get schema property) text }

-- the values of a property in a row, by the texts that are stored
abbrev pub values_of_property : Held → ℕ → ℕ → List Value
values_of_property held row property = map (value_told held.schema property) (values_at held.stored row property)

-- the values of a row, property by property
abbrev pub values_told : Held → ℕ → List Value
values_told held row = flat_map (values_of_property held row) (range_with_len 0 (length held.schema))

abbrev pub has_row : ℕ → Claim → Bool
has_row row claim = list_any (nat_eq row) claim.rows

abbrev pub claim_text : Claim → List ℕ
claim_text claim = claim.claim

-- the claims that have a row
abbrev pub claims_told : List Claim → ℕ → List (List ℕ)
claims_told claims row = map claim_text (filter (has_row row) claims)

abbrev pub item_told : Held → ℕ → Row → Item
item_told held row entry = record {
  number = entry.number;
  rank = entry.rank;
  url = unwrap_or (url_at held.stored row) [];
  allow = claims_told held.index.allow row;
  deny = claims_told held.index.deny row;
  values = values_told held row;
}

-- the items of these rows, of which the first has this number
abbrev pub items_told : Held → ℕ → List Row → List Item
items_told held row [] = []
items_told held row (entry ∷ rows) = item_told held row entry ∷ items_told held (row + 1) rows

abbrev pub told : Held → Corpus
told held = record { schema = held.schema; callers = held.callers; items = items_told held 0 held.index.rows }
