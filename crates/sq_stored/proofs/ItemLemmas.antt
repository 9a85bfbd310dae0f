-- The values of a valid corpus's items are those of its schema.
use Rattle.std.proofs.Common.{◌≡◌, ℕ, ◌<◌, Bool, true, false, ◌&&◌, List, length, get_or, refl, sym, subst}
use Rattle.std.specs.List.{list_all}
use Rattle.std.proofs.lemmas.List.Sums.{AllPass-from_list_all}
use Rattle.sq_schema.specs.declared.property.Property.{Property}
use Rattle.sq_model.specs.declared.corpus.Item.{Item}
use Rattle.sq_model.specs.Valid.{is_item, is_value}

both : (a b : Bool) → (a && b) ≡ true → (a ≡ true) × (b ≡ true)
both true b h = (refl, h)
both false b h = absurd (cc)

values_fit : (schema : List Property) (item : Item) → is_item schema item ≡ true → list_all (is_value schema) item.values ≡ true
values_fit schema item h = (both _ _ (both _ _ h).0).1

pub item_fits : (schema : List Property) (items : List Item) (i : ℕ) (item : Item) → list_all (is_item schema) items ≡ true → i < length items → item ≡ get_or items i item
    → list_all (is_value schema) item.values ≡ true
item_fits schema items i item h l is =
    values_fit schema item (subst (λ x. is_item schema x ≡ true) (sym is) (AllPass-from_list_all (is_item schema) items h i item l))
