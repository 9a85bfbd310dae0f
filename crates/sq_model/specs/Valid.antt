-- Which corpora are valid: the rules of the corpus text, and bounds on the lengths of texts. All texts are UTF-8.
use Rattle.std.specs.Prelude.{◌≡◌, ℕ, ◌+◌, ◌≤◌, nat_le, nat_lt, Bool, true, false, not, ◌&&◌, ◌||◌, ◌==◌, List, [], ◌∷◌, map, filter, length, chars, slice_get, Option, Some, None, sum_by}
use Rattle.std.specs.List.{list_all, list_any}
use Rattle.std.specs.Str.{bytes_eq, is_utf8}
use Rattle.std.specs.Char.{is_control}
use Rattle.sq_base.specs.Xml.{is_xml_text}
use Rattle.sq_base.specs.Limits.{most_corpus_bytes, most_values, most_items}
use Rattle.sq_schema.specs.declared.property.Kind.{Kind}
use Rattle.sq_schema.specs.declared.property.Kind.TheVariants.{Text, Integer, DateTime, YesNo}
use Rattle.sq_schema.specs.declared.property.Property.{Property}
use Rattle.sq_schema.specs.Bounds.{is_integer_value, is_moment_value}
pub use Rattle.sq_schema.specs.Bounds.{is_from_to}
use Rattle.sq_schema.specs.Properties.{IsSchema}
use Rattle.sq_model.specs.Limits.{most_name_bytes, most_claims, most_callers, most_item_bytes, greatest_item_number, least_rank, greatest_rank}
use Rattle.sq_model.specs.declared.corpus.Content.{Content}
use Rattle.sq_model.specs.declared.corpus.Content.TheVariants.{Words, Number, Moment, Flag}
use Rattle.sq_model.specs.declared.corpus.Value.{Value}
use Rattle.sq_model.specs.declared.corpus.Item.{Item}
use Rattle.sq_model.specs.declared.corpus.Caller.{Caller}
use Rattle.sq_model.specs.declared.corpus.Corpus.{Corpus}

-- a caller's name or a claim: XML characters, without control characters
abbrev pub is_name : List ℕ → Bool
is_name name =
    is_utf8 name && nat_le 1 (length name) && nat_le (length name) most_name_bytes && is_xml_text name
    && list_all (λ c. not (is_control c)) (chars name)

-- a url or a value of a text property
abbrev pub is_text : List ℕ → Bool
is_text text = is_utf8 text && is_xml_text text && nat_lt (length text) most_corpus_bytes

abbrev pub is_caller : Caller → Bool
is_caller caller = is_name caller.name && list_all is_name caller.claims

-- an access list
abbrev pub is_claim_list : List (List ℕ) → Bool
is_claim_list claims = nat_le (length claims) most_claims && list_all is_name claims

-- a content of the kind; numbers are of 64 bits signed, moments of the years 0001 to 9999
abbrev pub has_kind : Kind → Content → Bool
has_kind Text (Words text) = is_text text
has_kind Integer (Number n) = is_integer_value n
has_kind DateTime (Moment n) = is_moment_value n
has_kind YesNo (Flag b) = true
has_kind kind content = false

abbrev pub is_content_of : Option Property → Content → Bool
is_content_of None content = false
is_content_of (Some row) content = has_kind row.kind content

-- a value of a property of the schema, of its kind
abbrev pub is_value : List Property → Value → Bool
is_value schema value = is_content_of (slice_get schema value.property) value.content

-- how many values of the property there are
abbrev pub count_of : List Value → ℕ → ℕ
count_of values property = length (filter (λ value. value.property == property) values)

-- few values of each property, and at most one where it isn't multi
abbrev pub has_few : List Value → ℕ → List Property → Bool
has_few values at [] = true
has_few values at (row ∷ rows) =
    nat_le (count_of values at) most_values && (row.multi || nat_le (count_of values at) 1) && has_few values (at + 1) rows

abbrev pub is_item : List Property → Item → Bool
is_item schema item =
    nat_le 1 item.number && nat_le item.number greatest_item_number
    && is_from_to least_rank greatest_rank item.rank
    && is_text item.url && is_claim_list item.allow && is_claim_list item.deny
    && list_all (is_value schema) item.values && has_few item.values 0 schema

-- each number is above the one before
abbrev pub are_rising : List ℕ → Bool
are_rising [] = true
are_rising (n ∷ []) = true
are_rising (n ∷ (next ∷ rest)) = nat_lt n next && are_rising (next ∷ rest)

-- no text stands twice
abbrev pub are_different : List (List ℕ) → Bool
are_different [] = true
are_different (text ∷ rest) = not (list_any (bytes_eq text) rest) && are_different rest

-- The texts are short enough to be read as tokens: the bound on a text, by itself.
abbrev pub is_short : Content → Bool
is_short (Words text) = nat_lt (length text) most_corpus_bytes
is_short (Number n) = true
is_short (Moment n) = true
is_short (Flag b) = true

abbrev pub has_short_texts : Item → Bool
has_short_texts item = list_all (λ value. is_short value.content) item.values

-- how many bytes the texts of an item have together
abbrev pub content_bytes : Content → ℕ
content_bytes (Words text) = length text
content_bytes content = 0

abbrev pub item_bytes : Item → ℕ
item_bytes item = length item.url + sum_by length item.allow + sum_by length item.deny + sum_by (λ value. content_bytes value.content) item.values

pub record IsValid (corpus : Corpus) : Type 0 where
  pub schema : IsSchema corpus.schema
  pub few_callers : length corpus.callers ≤ most_callers
  pub callers : list_all is_caller corpus.callers ≡ true
  pub names : are_different (map (λ caller. caller.name) corpus.callers) ≡ true
  pub few_items : length corpus.items ≤ most_items
  pub items : list_all (is_item corpus.schema) corpus.items ≡ true
  pub numbers : are_rising (map (λ item. item.number) corpus.items) ≡ true
  pub bytes : sum_by item_bytes corpus.items ≤ most_item_bytes
