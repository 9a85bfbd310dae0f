-- What a query sees of an item: the passages and numbers of its properties.
use Rattle.std.specs.Prelude.{ℕ, ◌+◌, Bool, false, ◌&&◌, if◌then◌else◌, ◌==◌, List, [], ◌∷◌, map, filter, filter_map, flat_map, Option, Some, None, ℤ, pos, int_le}
use Rattle.std.specs.List.{list_any}
use Rattle.sq_schema.specs.declared.property.Property.{Property}
use Rattle.sq_tokens.specs.Token.{Token, text_tokens}
use Rattle.sq_model.specs.declared.corpus.Content.{Content}
use Rattle.sq_model.specs.declared.corpus.Content.TheVariants.{Words, Number, Moment, Flag}
use Rattle.sq_model.specs.declared.corpus.Value.{Value}

-- the tokens of one value of a text property
abbrev pub Passage : Type 0
Passage = List Token

abbrev pub passage_of : Content → Option Passage
passage_of (Words text) = Some (text_tokens text)
passage_of (Number n) = None
passage_of (Moment n) = None
passage_of (Flag b) = None

-- an integer, a moment, or 1 for yes and 0 for no
abbrev pub number_of : Content → Option ℤ
number_of (Words text) = None
number_of (Number n) = Some n
number_of (Moment n) = Some n
number_of (Flag b) = Some (if b then pos 1 else pos 0)

-- the contents of the values of a property, in order
abbrev pub contents : List Value → ℕ → List Content
contents values property = map (λ value. value.content) (filter (λ value. value.property == property) values)

-- the passages of a property, one for each of its texts, in order
abbrev pub passages : List Value → ℕ → List Passage
passages values property = filter_map passage_of (contents values property)

-- the numbers of a property, in order
abbrev pub numbers : List Value → ℕ → List ℤ
numbers values property = filter_map number_of (contents values property)

abbrev pub is_searchable : Option Property → Bool
is_searchable None = false
is_searchable (Some row) = row.searchable

-- the numbers of the searchable rows among these, of which the first has this number
abbrev pub searchable_from : ℕ → List Property → List ℕ
searchable_from at [] = []
searchable_from at (row ∷ rows) = if row.searchable then at ∷ searchable_from (at + 1) rows else searchable_from (at + 1) rows

-- the searchable properties, in the schema's order
abbrev pub searchable : List Property → List ℕ
searchable schema = searchable_from 0 schema

-- the passages of all searchable properties, in the schema's order
abbrev pub searchable_passages : List Property → List Value → List Passage
searchable_passages schema values = flat_map (passages values) (searchable schema)

-- one of the numbers is from first to last
abbrev pub some_within : ℤ → ℤ → List ℤ → Bool
some_within first last numbers = list_any (λ n. int_le first n && int_le n last) numbers
