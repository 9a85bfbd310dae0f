-- The answer to a request, made of its meaning and of what the caller sees, and of nothing else.
use Rattle.std.specs.Prelude.{ℕ, Bool, ◌==◌, if◌then◌else◌, List, [], ◌∷◌, map, filter, flat_map, length, position, slice_get, Option, Some, None, ℤ, ◌+ℤ◌, int_lt}
use Rattle.std.specs.List.{list_any}
use Rattle.sq_schema.specs.declared.property.Property.{Property}
use Rattle.sq_schema.specs.Properties.{has_name}
use Rattle.sq_model.specs.declared.corpus.Value.{Value}
use Rattle.sq_model.specs.declared.corpus.Content.{Content}
use Rattle.sq_model.specs.Access.{Seen}
use Rattle.sq_model.specs.Passages.{contents, numbers}
use Rattle.sq_model.specs.Shown.{shown_text}
use Rattle.sq_packet.specs.declared.request.Direction.{Direction}
use Rattle.sq_packet.specs.declared.request.Direction.TheVariants.{Ascending, Descending}
use Rattle.sq_packet.specs.declared.request.Request.{Request}
use Rattle.sq_packet.specs.declared.request.RefinerSpec.{RefinerSpec}
use Rattle.sq_response.specs.declared.response.Found.{Found}
use Rattle.sq_response.specs.declared.response.Hit.{Hit}
use Rattle.sq_response.specs.declared.response.Refined.{Refined}
use Rattle.sq_response.specs.declared.response.Shown.{Shown}
use Rattle.sq_ranking.specs.Ranking.{Ranked, page_by, entries}

-- what a query holds of, and the boost that it gives, by an item's values
pub record Meaning : Type 0 where
  pub holds : List Value → Bool
  pub boost : List Value → ℤ

-- what a sort goes by: the score, or the property of a row of the schema
pub data SortKey : Type 0 where
  Score : SortKey
  Of : ℕ → SortKey

abbrev pub greatest : ℤ → List ℤ → ℤ
greatest n [] = n
greatest n (m ∷ ms) = if int_lt n m then greatest m ms else greatest n ms

abbrev pub least : ℤ → List ℤ → ℤ
least n [] = n
least n (m ∷ ms) = if int_lt m n then least m ms else least n ms

-- the least of the numbers for Ascending, the greatest for Descending
abbrev pub key_among : Direction → List ℤ → Option ℤ
key_among direction [] = None
key_among Ascending (n ∷ ns) = Some (least n ns)
key_among Descending (n ∷ ns) = Some (greatest n ns)

abbrev pub key_of : ℤ → List Value → SortKey × Direction → Option ℤ
key_of score values (Score, direction) = Some score
key_of score values (Of property, direction) = key_among direction (numbers values property)

abbrev pub shown : List ℕ → Content → Shown
shown name content = record { name = name; text = shown_text content }

-- the rows of the properties asked for, each once, at its first place; an unknown name asks for none
abbrev pub rows_of : List Property → List (List ℕ) → List ℕ → List ℕ
rows_of schema [] before = []
rows_of schema (name ∷ names) before = elim (position (has_name name) schema) [
  | None ↦ rows_of schema names before
  | Some row ↦ if list_any (λ other. other == row) before then rows_of schema names before else row ∷ rows_of schema names (row ∷ before)
]

-- the name of a row, as the schema spells it
abbrev pub name_of : List Property → ℕ → List ℕ
name_of schema row = elim (slice_get schema row) [ None ↦ [] | Some property ↦ property.name ]

-- the values of an item that are shown: in the order of the rows, and of each row in the item's order
abbrev pub shown_values : List Property → List ℕ → List Value → List Shown
shown_values schema rows values = flat_map (λ row. map (shown (name_of schema row)) (contents values row)) rows

-- the counts of a refiner over the hits
abbrev pub refined : List Property → List Seen → RefinerSpec → Refined
refined schema found refiner = elim (position (has_name refiner.name) schema) [
  | None ↦ record { name = refiner.name; entries = [] }
  | Some row ↦ record { name = name_of schema row; entries = entries refiner.bounds (map (λ item. numbers item.values row) found) }
]

-- an item's score: its rank and the boost that the query gives it
abbrev pub score_of : Meaning → Seen → ℤ
score_of meaning item = item.rank +ℤ meaning.boost item.values

abbrev pub ranked : Meaning → List (SortKey × Direction) → Seen → Ranked
ranked meaning sorts item = record {
  number = item.number;
  score = score_of meaning item;
  keys = map (key_of (score_of meaning item) item.values) sorts;
}

abbrev pub hit_of : List Property → Meaning → List (List ℕ) → Seen → Hit
hit_of schema meaning properties item = record {
  number = item.number;
  score = score_of meaning item;
  url = item.url;
  values = shown_values schema (rows_of schema properties []) item.values;
}

-- the items that the caller sees and that the query holds of
abbrev pub hits : Meaning → List Seen → List Seen
hits meaning view = filter (λ item. meaning.holds item.values) view

-- the page of the hits, their total, and the counts of each refiner over all of them
abbrev pub found_of : List Property → Meaning → List (SortKey × Direction) → Request → List Seen → Found
found_of schema meaning sorts request found = record {
  start = request.start;
  total = length found;
  hits = map (hit_of schema meaning request.properties) (page_by (ranked meaning sorts) (map (λ sort. sort.1) sorts) request.start request.count found);
  refiners = map (refined schema found) request.refiners;
}
