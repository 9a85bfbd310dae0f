-- The items of a page as they are listed, by what is held.
use Rattle.std.specs.Prelude.{ℕ, ◌+◌, List, map, flat_map, length, sum_by, Option, option_map}
use Rattle.sq_schema.specs.declared.property.Property.{Property}
use Rattle.sq_response.specs.declared.response.Hit.{Hit}
use Rattle.sq_response.specs.declared.response.Shown.{Shown}
use Rattle.sq_ranking.specs.declared.keys.RankedHit.{RankedHit}
use Rattle.sq_postings.specs.Indexed.{row_at}
use Rattle.sq_stored.specs.Stored.{StoredItem, url_at, values_at}
use Rattle.sq_engine.specs.Answer.{name_of}
use Rattle.sq_holding.specs.Held.{Held}

abbrev pub shown_as : List ℕ → List ℕ → Shown
shown_as name text = record { name = name; text = text }

-- the values of a property in a row
abbrev pub shown_of : List Property → List StoredItem → ℕ → ℕ → List Shown
shown_of schema stored row property = map (shown_as (name_of schema property)) (values_at stored row property)

-- the values of these properties in a row
abbrev pub shown_values : List Property → List StoredItem → List ℕ → ℕ → List Shown
shown_values schema stored properties row = flat_map (shown_of schema stored row) properties

-- a step for each property asked for and for each of its values
abbrev pub shown_cost : List StoredItem → List ℕ → ℕ → ℕ
shown_cost stored properties row = sum_by (λ property. 1 + length (values_at stored row property)) properties

-- a hit as it is listed
abbrev pub listed : Held → List ℕ → RankedHit → List ℕ → Hit
listed held properties ranked url = record {
  number = (row_at held.index ranked.number).number;
  score = ranked.score;
  url = url;
  values = shown_values held.schema held.stored properties ranked.number;
}

-- the hit of a row where there is an item
abbrev pub listed_by : Held → List ℕ → RankedHit → Option Hit
listed_by held properties ranked = option_map (listed held properties ranked) (url_at held.stored ranked.number)

abbrev pub listed_cost : Held → List ℕ → RankedHit → ℕ
listed_cost held properties ranked = shown_cost held.stored properties ranked.number
