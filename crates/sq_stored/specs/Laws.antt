-- Laws of the definitions, which callers may use.
use Rattle.std.specs.Prelude.{◌≡◌, ℕ, ◌<◌, List, length, slice_get, Some}
use Rattle.std.specs.Option.{option_map}
use Rattle.sq_schema.specs.declared.property.Property.{Property}
use Rattle.sq_model.specs.declared.corpus.Item.{Item}
use Rattle.sq_stored.specs.Shown.{shown_values}
use Rattle.sq_stored.specs.Stored.{stored_items, url_at, values_at}

-- the stored values of a row and a property of the schema are the shown values of its item
abbrev pub ValuesStand : Type 0
ValuesStand = (schema : List Property) (items : List Item) (row property : ℕ) (item : Item) → slice_get items row ≡ Some item → property < length schema
    → values_at (stored_items schema items) row property ≡ shown_values item.values property

-- the stored url of a row is that of its item
abbrev pub UrlsStand : Type 0
UrlsStand = (schema : List Property) (items : List Item) (row : ℕ) → url_at (stored_items schema items) row ≡ option_map (λ item. item.url) (slice_get items row)
