-- The corpus that is told is alike to the one that is held.
use Rattle.std.proofs.Common.{◌≡◌, ℕ, ◌+◌, ◌<◌, ◌≤◌, true, List, [], ◌∷◌, map, length, refl, sym, ap, subst, ◌∙◌, arith, ◌⊎◌, inl, inr, Some, zero, suc, slice_get}
use Rattle.std.specs.Prelude.{nat_eq}
use Rattle.std.specs.List.{list_all, list_any}
use Rattle.std.specs.Option.{option_map, unwrap_or}
use Rattle.std.proofs.lemmas.Bool.{cases_lt}
use Rattle.std.proofs.lemmas.Option.{same_Some}
use Rattle.sq_schema.specs.Laws.{NumbersReadBack, MomentsReadBack, MomentsAreWritten}
use Rattle.sq_schema.specs.declared.property.Property.{Property}
use Rattle.sq_model.specs.declared.corpus.Item.{Item}
use Rattle.sq_model.specs.declared.corpus.Corpus.{Corpus}
use Rattle.sq_model.specs.Access.{allows, denies}
use Rattle.sq_model.specs.Alike.{ItemsAlike, EachAlike, Alike}
use Rattle.sq_model.specs.Passages.{contents}
use Rattle.sq_model.specs.Valid.{is_value, is_item}
use Rattle.sq_postings.specs.declared.parts.Row.{Row}
use Rattle.sq_postings.specs.StandsFor.{row_of}
use Rattle.sq_stored.specs.Laws.{ValuesStand, UrlsStand}
use Rattle.sq_stored.specs.Stored.{url_at, values_at}
use Rattle.sq_holding.specs.Held.{Held}
use Rattle.sq_holding.specs.Holds.{Holds}
use Rattle.sq_holding.specs.Laws.{ToldHasRows}
use Rattle.sq_holding.specs.Told.{content_under, values_told, item_told, items_told, told}
use Rattle.sq_holding.proofs.ClaimLemmas.{told_by_rows, row_passes}
use Rattle.sq_holding.proofs.ContentLemmas.{left_true, right_true, contents_back, none_past, none_below, contents_told}

item_in : (schema : List Property) (items : List Item) (row : ℕ) (item : Item) → list_all (is_item schema) items ≡ true → slice_get items row ≡ Some item
    → is_item schema item ≡ true
item_in schema [] row item h at = absurd (cc)
item_in schema (x ∷ items) zero item h at = ap (is_item schema) (sym (same_Some x item at)) ∙ left_true (is_item schema x) (list_all (is_item schema) items) h
item_in schema (x ∷ items) (suc row) item h at = item_in schema items row item (right_true (is_item schema x) (list_all (is_item schema) items) h) at

values_in : (schema : List Property) (item : Item) → is_item schema item ≡ true → list_all (is_value schema) item.values ≡ true
values_in schema item h = first_of (search h, grind (arith, h))

module _ (numbers : NumbersReadBack) (moments : MomentsReadBack) (written : MomentsAreWritten) (values_stand : ValuesStand) (urls_stand : UrlsStand)
    (held : Held) (corpus : Corpus) (holds : Holds held corpus) where
  module _ (row : ℕ) (item : Item) (at : slice_get corpus.items row ≡ Some item) where
    url_is : unwrap_or (url_at held.stored row) [] ≡ item.url
    url_is =
        ap (λ o. unwrap_or o [])
        (ap (λ stored. url_at stored row) holds.stored ∙ urls_stand corpus.schema corpus.items row ∙ ap (option_map (λ i. i.url)) at)

    valid : list_all (is_value held.schema) item.values ≡ true
    valid =
        subst (λ schema. list_all (is_value schema) item.values ≡ true) (sym holds.schema)
        (values_in corpus.schema item (item_in corpus.schema corpus.items row item holds.valid.items at))

    contents_are : (property : ℕ) → contents (values_told held row) property ≡ contents item.values property
    contents_are property = by_place (cases_lt property (length held.schema))
      where
        inside : property < length held.schema → contents (values_told held row) property ≡ contents item.values property
        inside l =
            contents_told held.schema (values_at held.stored row) property 0 (length held.schema) (omega arith) (omega (arith, l))
            ∙ ap (map (content_under (slice_get held.schema property)))
            (ap (λ stored. values_at stored row property) holds.stored
            ∙ values_stand corpus.schema corpus.items row property item at (subst (λ schema. property < length schema) holds.schema l))
            ∙ contents_back numbers moments written held.schema property item.values valid

        by_place : (property < length held.schema) ⊎ (length held.schema ≤ property) → contents (values_told held row) property ≡ contents item.values property
        by_place (inl l) = inside l
        by_place (inr past) =
            none_below held.schema (values_at held.stored row) property 0 (length held.schema) (omega (arith, past))
            ∙ sym (none_past held.schema property item.values past valid)

    item_is_alike : ItemsAlike (item_told held row (row_of item)) item
    item_is_alike = record {
      number = refl;
      rank = refl;
      url = url_is;
      allowed = λ claim. told_by_rows row claim held.index.allow ∙ ap (list_any (nat_eq row)) (holds.index.allow claim)
          ∙ row_passes (allows claim) row 0 row corpus.items item (omega arith) at;
      denied = λ claim. told_by_rows row claim held.index.deny ∙ ap (list_any (nat_eq row)) (holds.index.deny claim)
          ∙ row_passes (denies claim) row 0 row corpus.items item (omega arith) at;
      contents_of = contents_are;
    }

  items_are_alike : (row : ℕ) (items : List Item)
      → ((i at : ℕ) (item : Item) → row + i ≡ at → slice_get items i ≡ Some item → slice_get corpus.items at ≡ Some item)
      → EachAlike (items_told held row (map row_of items)) items
  items_are_alike row [] stand = tt
  items_are_alike row (item ∷ items) stand = (
    item_is_alike row item (stand 0 row item (omega arith) refl),
    items_are_alike (row + 1) items (λ i at other e is. stand (suc i) at other (omega (arith, e)) is),
  )

  pub is_alike : Alike (told held) corpus
  is_alike = record {
    schema = holds.schema;
    callers = holds.callers;
    items = subst (λ rows. EachAlike (items_told held 0 rows) corpus.items) (sym holds.index.rows)
        (items_are_alike 0 corpus.items (λ i at item e is. subst (λ n. slice_get corpus.items n ≡ Some item) (omega (arith, e)) is));
  }

items_for_rows : (held : Held) (row : ℕ) (rows : List Row) → length (items_told held row rows) ≡ length rows
items_for_rows held row [] = refl
items_for_rows held row (entry ∷ rows) = ap suc (items_for_rows held (row + 1) rows)

pub told_has_rows : ToldHasRows
told_has_rows held = items_for_rows held 0 held.index.rows
