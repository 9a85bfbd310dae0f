-- What is stored of the items of a corpus.
use Rattle.std.specs.Prelude.{ℕ, List, [], map, length, slice_get, slice_index_or, Option}
use Rattle.std.specs.List.{range_with_len}
use Rattle.std.specs.Option.{option_map}
use Rattle.sq_schema.specs.declared.property.Property.{Property}
use Rattle.sq_model.specs.declared.corpus.Item.{Item}
use Rattle.sq_stored.specs.Shown.{shown_values}

-- an item's url, and the shown texts of its values by property
pub record StoredItem : Type 0 where
  pub url : List ℕ
  pub values : List (List (List ℕ))

-- of an item under a schema of so many properties
abbrev pub stored_item : ℕ → Item → StoredItem
stored_item properties item = record { url = item.url; values = map (shown_values item.values) (range_with_len 0 properties) }

abbrev pub stored_items : List Property → List Item → List StoredItem
stored_items schema items = map (stored_item (length schema)) items

abbrev pub values_of : StoredItem → List (List (List ℕ))
values_of item = item.values

abbrev pub url_of : StoredItem → List ℕ
url_of item = item.url

-- the url of a row, if there is one
abbrev pub url_at : List StoredItem → ℕ → Option (List ℕ)
url_at items row = option_map url_of (slice_get items row)

-- the shown texts of the values of a property in a row, and none where there is no such row or property
abbrev pub values_at : List StoredItem → ℕ → ℕ → List (List ℕ)
values_at items row property = slice_index_or (slice_index_or (map values_of items) row []) property []
