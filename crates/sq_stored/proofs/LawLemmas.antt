-- What is stored of the items of a corpus, row by row.
use Rattle.std.proofs.Common.{◌≡◌, ℕ, ◌+◌, ◌<◌, List, [], ◌∷◌, length, map, get_or, refl, ap, ◌∙◌, arith, slice_get, Some, zero, suc}
use Rattle.std.specs.List.{range_with_len}
use Rattle.std.specs.Option.{option_map}
use Rattle.std.proofs.lemmas.List.FromFn.{get_or-map-range_with_len}
use Rattle.std.proofs.lemmas.Option.{same_Some}
use Rattle.sq_schema.specs.declared.property.Property.{Property}
use Rattle.sq_model.specs.declared.corpus.Item.{Item}
use Rattle.sq_stored.specs.Shown.{shown_values}
use Rattle.sq_stored.specs.Stored.{stored_item, stored_items, values_of, url_at, values_at}

stored_at : (properties : ℕ) (items : List Item) (row : ℕ) (item : Item) → slice_get items row ≡ Some item
    → get_or (map values_of (map (stored_item properties) items)) row [] ≡ map (shown_values item.values) (range_with_len 0 properties)
stored_at properties [] row item at = absurd (cc)
stored_at properties (x ∷ items) zero item at = ap (λ y. map (shown_values y.values) (range_with_len 0 properties)) (same_Some x item at)
stored_at properties (x ∷ items) (suc row) item at = stored_at properties items row item at

pub values_stand : (schema : List Property) (items : List Item) (row property : ℕ) (item : Item) → slice_get items row ≡ Some item → property < length schema
    → values_at (stored_items schema items) row property ≡ shown_values item.values property
values_stand schema items row property item at l =
    let e : 0 + property ≡ property = omega arith in
    ap (λ values. get_or values property []) (stored_at (length schema) items row item at)
    ∙ get_or-map-range_with_len (shown_values item.values) 0 (length schema) property property [] l e

urls_at : (properties : ℕ) (items : List Item) (row : ℕ)
    → url_at (map (stored_item properties) items) row ≡ option_map (λ item. item.url) (slice_get items row)
urls_at properties [] row = refl
urls_at properties (x ∷ items) zero = refl
urls_at properties (x ∷ items) (suc row) = urls_at properties items row

pub urls_stand : (schema : List Property) (items : List Item) (row : ℕ) → url_at (stored_items schema items) row ≡ option_map (λ item. item.url) (slice_get items row)
urls_stand schema items row = urls_at (length schema) items row
