-- What is found of a corpus by what is held of it is what is said of the items.
use Rattle.std.proofs.Common.{◌≡◌, ℕ, zero, suc, ◌+◌, ◌*◌, ◌<◌, ◌≤◌, ℤ, pos, Bool, true, false, cond, List, [], ◌∷◌, ◌++◌, map, filter, take, length, Option, Some, None, refl, sym, ap, ap₂, ◌∙◌, arith}
use Rattle.std.specs.Prelude.{◌&&◌, ◌+ℤ◌, position, ◌==◌, nat_lt, int_lt, slice_get, slice_index_or, sum_by}
use Rattle.std.specs.List.{list_all, list_any, filter_map, cons_option}
use Rattle.std.specs.Option.{option_map}
use Rattle.std.proofs.lemmas.Bool.Decides.{nat_tests}
use Rattle.std.proofs.lemmas.Simd.{map-map}
use Rattle.std.proofs.lemmas.List.{length-map}
use Rattle.std.proofs.lemmas.List.Sums.{sum_by-cons}
use Rattle.sq_base.specs.Sorting.{in_order}
use Rattle.sq_schema.specs.declared.property.Property.{Property}
use Rattle.sq_schema.specs.Properties.{has_name}
use Rattle.sq_model.specs.declared.corpus.Corpus.{Corpus}
use Rattle.sq_model.specs.declared.corpus.Item.{Item}
use Rattle.sq_model.specs.declared.corpus.Value.{Value}
use Rattle.sq_model.specs.declared.fql.FTree.{FTree}
use Rattle.sq_model.specs.Access.{Seen, seen, admits, view}
use Rattle.sq_model.specs.Cost.{number_count}
use Rattle.sq_model.specs.Fql as fql
use Rattle.sq_model.specs.Passages.{contents, numbers}
use Rattle.sq_model.specs.Shown.{shown_text}
use Rattle.sq_model.specs.Valid.{is_item, are_rising, IsValid}
use Rattle.sq_packet.specs.declared.request.RefinerSpec.{RefinerSpec}
use Rattle.sq_packet.specs.declared.request.Request.{Request}
use Rattle.sq_packet.specs.declared.request.Direction.{Direction}
use Rattle.sq_response.specs.declared.response.Hit.{Hit}
use Rattle.sq_response.specs.declared.response.Entry.{Entry}
use Rattle.sq_response.specs.declared.response.Refined.{Refined}
use Rattle.sq_response.specs.declared.response.Shown.{Shown}
use Rattle.sq_ranking.specs.declared.keys.RankedHit.{RankedHit}
use Rattle.sq_ranking.specs.Keys.{ranked_hit, keys_of}
use Rattle.sq_ranking.specs.Laws.{OrderAlike}
use Rattle.sq_ranking.proofs.PageLemmas.{alike_orders, pages_seen}
use Rattle.sq_ranking.specs.Ranking.{Ranked, page_by, entries}
use Rattle.sq_postings.specs.Indexed.{Indexed, row_at, values_in}
use Rattle.sq_postings.specs.Occurrences as occurrences
use Rattle.sq_postings.specs.StandsFor.{StandsFor, row_of as row_entry}
use Rattle.sq_postings.specs.declared.parts.Row.{Row}
use Rattle.sq_stored.specs.Laws.{ValuesStand, UrlsStand}
use Rattle.sq_stored.specs.Stored as stored
use Rattle.sq_eval.specs.Meaning as plan
use Rattle.sq_collect.specs.Laws.{ColumnsCountAsNumbers}
use Rattle.sq_collect.specs.Counted.{numbers_at, numbers_in_row}
use Rattle.sq_holding.specs.Held.{Held, held_of}
use Rattle.sq_engine.specs.Answer as answer
use Rattle.sq_engine.specs.Answer.{Meaning, hits, score_of}
use Rattle.sq_engine.specs.Price as price
use Rattle.sq_engine.specs.Price.{meaning_by_tree}
use Rattle.sq_service.specs.declared.sorts.Sort.{Sort}
use Rattle.sq_service.specs.declared.sorts.Key.{Key}
use Rattle.sq_service.specs.declared.sorts.Key.TheVariants as keys
use Rattle.sq_service.specs.Sorts.{key as sort_key, sort_of, is_within, is_key_within}
use Rattle.sq_service.specs.Keys.{key_by, keys_by, key_in_row, sort_cost, sources_cost, property_cost}
use Rattle.sq_service.specs.Listed as listing
use Rattle.sq_service.specs.Refining.{refined_by, refiner_cost}
use Rattle.sq_service.specs.Found as found
use Rattle.sq_service.proofs.Placed.{Placed, StandFrom, placed, all_placed, behind_row, at_row, both, rows_rise, numbers_are, kept_rise, stand_all, values_fit}
use Rattle.sq_service.proofs.SeenLemmas as walked
use Rattle.sq_service.proofs.SortLemmas.{key_in, keys_in, alike_keys}
use Rattle.sq_service.proofs.KeyLemmas.{key_of_order, row_numbers, all_numbers}
use Rattle.sq_service.proofs.PropertyLemmas.{position_within}

lt_is : (a b : ℕ) → nat_lt a b ≡ true → a < b
lt_is a b e = grind (arith, nat_tests, e)

lt_true : (a b : ℕ) → a < b → nat_lt a b ≡ true
lt_true a b l = grind (arith, nat_tests, l)

sum_seen : {X Y : Type 0} (f : Y → ℕ) (seen : X → Y) (g : X → ℕ) → ((x : X) → f (seen x) ≡ g x) → (xs : List X) → sum_by f (map seen xs) ≡ sum_by g xs
sum_seen f seen g same [] = refl
sum_seen f seen g same (x ∷ xs) =
    sum_by-cons f (seen x) (map seen xs) ∙ ap₂ (λ (a b : ℕ). a + b) (same x) (sum_seen f seen g same xs) ∙ sym (sum_by-cons g x xs)

in_row : {B : Type 0} (all : List Item) (row : ℕ) (item : Item) → slice_get all row ≡ Some item → (f : Item → B) (d : B) → slice_index_or (map f all) row d ≡ f item
in_row [] row item here f d = absurd (cc)
in_row (one ∷ all) zero item here f d = let same : one ≡ item = cc in ap f same
in_row (one ∷ all) (suc row) item here f d = in_row all row item here f d

-- the rows of the properties asked for are of the schema
module _ (schema : List Property) where
  abbrev are_properties : List ℕ → Bool
  are_properties rows = list_all (λ row. nat_lt row (length schema)) rows

  rows_after : (names : List (List ℕ)) (before : List ℕ) → ((more : List ℕ) → are_properties (answer.rows_of schema names more) ≡ true)
      → (row : Option ℕ) → ((one : ℕ) → row ≡ Some one → one < length schema)
      → are_properties (elim row [
        | None ↦ answer.rows_of schema names before
        | Some one ↦ cond (list_any (λ other. other == one) before) (answer.rows_of schema names before) (one ∷ answer.rows_of schema names (one ∷ before))
      ]) ≡ true
  rows_after names before rest None within = rest before
  rows_after names before rest (Some one) within = one_more (list_any (λ other. other == one) before)
    where
      one_more : (b : Bool) → are_properties (cond b (answer.rows_of schema names before) (one ∷ answer.rows_of schema names (one ∷ before))) ≡ true
      one_more true = rest before
      one_more false = rw (lt_true one (length schema) (within one refl)) (rest (one ∷ before))

  pub rows_within : (names : List (List ℕ)) (before : List ℕ) → are_properties (answer.rows_of schema names before) ≡ true
  rows_within [] before = refl
  rows_within (name ∷ names) before =
      rows_after names before (rows_within names) (position (has_name name) schema) (λ one at. position_within (has_name name) schema one at)

-- ---- of a valid corpus and the index that stands for it

module _ (corpus : Corpus) (valid : IsValid corpus) (index : Indexed) (stands : StandsFor index corpus) where
  abbrev pub schema : List Property
  schema = corpus.schema

  abbrev pub items : List Item
  items = corpus.items

  abbrev pub One : Type 0
  One = Placed corpus.schema corpus.items

  abbrev pub seen_at : One → Seen
  seen_at = walked.seen_at corpus.schema corpus.items

  -- what stands in the row of an item

  values_again : (p : One) → occurrences.values_at items p.row ≡ p.item.values
  values_again p = in_row items p.row p.item p.here occurrences.values_of []

  entry_again : (p : One) → row_at index p.row ≡ row_entry p.item
  entry_again p =
      ap (λ rows. slice_index_or rows p.row (record { number = 0; rank = pos 0 })) stands.rows
      ∙ in_row items p.row p.item p.here row_entry (record { number = 0; rank = pos 0 })

  numbers_again : (property : ℕ) → property < length schema → (p : One) → numbers_in_row index property p.row ≡ in_order int_lt (numbers p.item.values property)
  numbers_again property within p =
      let at : 0 + p.row ≡ p.row = omega arith in
      ap (numbers_at p.row) (stands.values property within)
      ∙ ap (λ row. numbers_at row (occurrences.numbers_from 0 property items)) (sym at)
      ∙ row_numbers items 0 property p.row p.item p.here

  number_count_again : (property : ℕ) → property < length schema → length (values_in index property) ≡ number_count items property
  number_count_again property within = ap length (stands.values property within) ∙ all_numbers items 0 property

  -- ---- the keys

  abbrev IsWithinAt : Option Sort → Type 0
  IsWithinAt None = Unit {0}
  IsWithinAt (Some sort) = is_within schema sort ≡ true

  within_at : (sorts : List Sort) → list_all (is_within schema) sorts ≡ true → (i : ℕ) → IsWithinAt (slice_get sorts i)
  within_at [] within i = tt
  within_at (sort ∷ sorts) within zero = (both (is_within schema sort) (list_all (is_within schema) sorts) within).0
  within_at (sort ∷ sorts) within (suc i) = within_at sorts (both (is_within schema sort) (list_all (is_within schema) sorts) within).1 i

  by_key : (p : One) (score : ℤ) (key : Key) (direction : Direction) → is_key_within schema key ≡ true
      → elim key [ keys.Score ↦ Some score | keys.Property property ↦ key_in_row index property direction p.row ] ≡ answer.key_of score p.item.values (sort_key key, direction)
  by_key p score keys.Score direction within = refl
  by_key p score (keys.Property property) direction within =
      ap (answer.key_among direction) (numbers_again property (lt_is property (length schema) within) p) ∙ key_of_order direction (numbers p.item.values property)

  key_again : (p : One) (score : ℤ) (sort : Option Sort) → IsWithinAt sort → key_by index sort p.row score ≡ key_in score p.item.values sort
  key_again p score None within = refl
  key_again p score (Some sort) within = by_key p score sort.key sort.direction within

  keys_again : (sorts : List Sort) → list_all (is_within schema) sorts ≡ true → (p : One) (score : ℤ) → keys_by index sorts p.row score ≡ keys_in score p.item.values sorts
  keys_again sorts within p score = λ i. record {
    first = key_again p score (slice_get sorts 0) (within_at sorts within 0) i;
    second = key_again p score (slice_get sorts 1) (within_at sorts within 1) i;
    third = key_again p score (slice_get sorts 2) (within_at sorts within 2) i;
    fourth = key_again p score (slice_get sorts 3) (within_at sorts within 3) i;
  }

  -- what they cost

  key_cost : (key : Key) (direction : Direction) → is_key_within schema key ≡ true
      → elim key [ keys.Score ↦ 0 | keys.Property property ↦ property_cost index property ] ≡ price.sort_price corpus (sort_key key, direction)
  key_cost keys.Score direction within = refl
  key_cost (keys.Property property) direction within = ap (λ n. 1 + 2 * n) (number_count_again property (lt_is property (length schema) within))

  sort_cost_again : (sort : Sort) → is_within schema sort ≡ true → sort_cost index sort ≡ price.sort_price corpus (sort_of sort)
  sort_cost_again sort within = key_cost sort.key sort.direction within

  all_sort_costs : (sorts : List Sort) → list_all (is_within schema) sorts ≡ true → sum_by (sort_cost index) sorts ≡ sum_by (price.sort_price corpus) (map sort_of sorts)
  all_sort_costs [] within = refl
  all_sort_costs (sort ∷ sorts) within =
      sum_by-cons (sort_cost index) sort sorts
      ∙ ap₂ (λ (a b : ℕ). a + b) (sort_cost_again sort (both (is_within schema sort) (list_all (is_within schema) sorts) within).0)
      (all_sort_costs sorts (both (is_within schema sort) (list_all (is_within schema) sorts) within).1)
      ∙ sym (sum_by-cons (price.sort_price corpus) (sort_of sort) (map sort_of sorts))

  four_costs : (sorts : List Sort) → length sorts ≤ 4 → sources_cost index sorts ≡ sum_by (sort_cost index) sorts
  four_costs [] few = refl
  four_costs (a ∷ []) few = omega (arith, sum_by-cons (sort_cost index) a [])
  four_costs (a ∷ (b ∷ [])) few = omega (arith, sum_by-cons (sort_cost index) a (b ∷ []), sum_by-cons (sort_cost index) b [])
  four_costs (a ∷ (b ∷ (c ∷ []))) few =
      omega (arith, sum_by-cons (sort_cost index) a (b ∷ (c ∷ [])), sum_by-cons (sort_cost index) b (c ∷ []), sum_by-cons (sort_cost index) c [])
  four_costs (a ∷ (b ∷ (c ∷ (d ∷ [])))) few =
      omega (arith, sum_by-cons (sort_cost index) a (b ∷ (c ∷ (d ∷ []))), sum_by-cons (sort_cost index) b (c ∷ (d ∷ [])), sum_by-cons (sort_cost index) c (d ∷ []), sum_by-cons (sort_cost index) d [])
  four_costs (a ∷ (b ∷ (c ∷ (d ∷ (e ∷ sorts))))) few = absurd (omega arith)

  pub sorts_cost_again : (sorts : List Sort) → length sorts ≤ 4 → list_all (is_within schema) sorts ≡ true → sources_cost index sorts ≡ sum_by (price.sort_price corpus) (map sort_of sorts)
  sorts_cost_again sorts few within = four_costs sorts few ∙ all_sort_costs sorts within

  abbrev twice : (ℕ → ℕ) → Option ℕ → ℕ
  twice count None = 0
  twice count (Some row) = 2 * count row

  refiner_cost_at : (row : Option ℕ) → ((one : ℕ) → row ≡ Some one → one < length schema)
      → twice (λ one. length (values_in index one)) row ≡ twice (number_count items) row
  refiner_cost_at None within = refl
  refiner_cost_at (Some one) within = ap (λ n. 2 * n) (number_count_again one (within one refl))

  pub refiners_cost_again : (refiners : List RefinerSpec) → sum_by (refiner_cost index schema) refiners ≡ sum_by (price.refiner_price corpus) refiners
  refiners_cost_again [] = refl
  refiners_cost_again (refiner ∷ refiners) =
      sum_by-cons (refiner_cost index schema) refiner refiners
      ∙ ap₂ (λ (a b : ℕ). a + b) (refiner_cost_at (position (has_name refiner.name) schema) (λ one at. position_within (has_name refiner.name) schema one at)) (refiners_cost_again refiners)
      ∙ sym (sum_by-cons (price.refiner_price corpus) refiner refiners)

  -- ---- the hits that a tree finds among the items that claims admit

  module _ (claims : List (List ℕ)) (tree : FTree) (sorts : List Sort) where
    abbrev pub the_meaning : Meaning
    the_meaning = meaning_by_tree schema tree

    abbrev pub is_hit : One → Bool
    is_hit = walked.is_hit corpus.schema corpus.items claims the_meaning

    abbrev pub kept : List One
    kept = walked.kept corpus.schema corpus.items claims the_meaning valid.items

    abbrev pub pair_at : One → ℕ × ℤ
    pair_at p = (p.row, fql.boost schema p.item.values tree)

    abbrev pub ranked_at : One → RankedHit
    ranked_at p = found.ranked_by index sorts (pair_at p)

    -- a row by what stands in it
    abbrev given : ℕ → List Value → Option (ℕ × ℤ)
    given row values = option_map (λ boost. (row, boost)) (cond (fql.holds schema values tree) (Some (fql.gain schema values tree)) None)

    one_pair : (row : ℕ) (boost gain : ℤ) (rest : List (ℕ × ℤ)) (b : Bool) → cond b gain (pos 0) ≡ boost
        → cons_option (option_map (λ boost. (row, boost)) (cond b (Some gain) None)) rest ≡ cond b ((row, boost) ∷ rest) rest
    one_pair row boost gain rest true is = ap (λ n. (row, n) ∷ rest) is
    one_pair row boost gain rest false is = refl

    chosen : (p : One) (ps : List One) (b : Bool) → cond b (pair_at p ∷ map pair_at ps) (map pair_at ps) ≡ map pair_at (cond b (p ∷ ps) ps)
    chosen p ps true = refl
    chosen p ps false = refl

    first_pair : (p : One) (rows : List ℕ) (ps : List One) → plan.hits corpus tree rows ≡ map pair_at ps → (a : Bool)
        → plan.hits corpus tree (cond a (p.row ∷ rows) rows) ≡ map pair_at (cond (a && the_meaning.holds p.item.values) (p ∷ ps) ps)
    first_pair p rows ps rest false = rest
    first_pair p rows ps rest true =
        ap₂ (λ (one : Option (ℕ × ℤ)) (more : List (ℕ × ℤ)). cons_option one more) (ap (given p.row) (values_again p)) rest
        ∙ one_pair p.row (fql.boost schema p.item.values tree) (fql.gain schema p.item.values tree) (map pair_at ps) (fql.holds schema p.item.values tree) refl
        ∙ chosen p ps (fql.holds schema p.item.values tree)

    pairs_behind : (rest : List Item) (row : ℕ) (stand : StandFrom items row rest) (fit : list_all (is_item schema) rest ≡ true)
        → plan.hits corpus tree (occurrences.rows_from row (admits claims) rest) ≡ map pair_at (filter is_hit (placed schema items rest row stand fit))
    pairs_behind [] row stand fit = refl
    pairs_behind (item ∷ rest) row stand fit =
        first_pair (record {
          row = row;
          item = item;
          here = at_row items rest row item stand;
          fits = values_fit schema item (both (is_item schema item) (list_all (is_item schema) rest) fit).0;
        }) (occurrences.rows_from (row + 1) (admits claims) rest) _
        (pairs_behind rest (row + 1) (behind_row items rest row item stand) (both (is_item schema item) (list_all (is_item schema) rest) fit).1) (admits claims item)

    pub pairs_are : plan.hits corpus tree (occurrences.rows_from 0 (admits claims) items) ≡ map pair_at kept
    pairs_are = pairs_behind items 0 (stand_all items) valid.items

    -- what is said of the view is said of them
    pub hits_are : hits the_meaning (view corpus claims) ≡ map seen_at kept
    hits_are = walked.hits_are corpus.schema corpus.items claims the_meaning valid.items

    -- the rows rise, and are those of items
    pub pairs_rise : are_rising (map found.row_of (map pair_at kept)) ≡ true
    pairs_rise =
        ap are_rising (map-map found.row_of pair_at kept)
        ∙ kept_rise (λ p. p.row) is_hit (all_placed schema items valid.items) (rows_rise schema items items 0 (stand_all items) valid.items)

    row_below : (all : List Item) (row : ℕ) (item : Item) → slice_get all row ≡ Some item → row < length all
    row_below [] row item here = absurd (cc)
    row_below (one ∷ all) zero item here = omega arith
    row_below (one ∷ all) (suc row) item here = omega (arith, row_below all row item here)

    all_within : (ps : List One) → found.are_within (length index.rows) (map pair_at ps) ≡ true
    all_within [] = refl
    all_within (p ∷ ps) =
        let rows : length index.rows ≡ length items = ap length stands.rows ∙ length-map items row_entry in
        let below : p.row < length index.rows = omega (arith, rows, row_below items p.row p.item p.here) in
        rw (lt_true p.row (length index.rows) below) (all_within ps)

    pub pairs_within : found.are_within (length index.rows) (map pair_at kept) ≡ true
    pairs_within = all_within kept

    -- ---- what is held of the corpus

    module _ (values_stand : ValuesStand) (urls_stand : UrlsStand) (counted : ColumnsCountAsNumbers) (few : length sorts ≤ 4) (within : list_all (is_within schema) sorts ≡ true) where
      abbrev pub stored_here : List stored.StoredItem
      stored_here = stored.stored_items schema items

      abbrev pub held : Held
      held = held_of schema corpus.callers index stored_here

      -- the values of an item that are shown

      stored_again : (p : One) (property : ℕ) → property < length schema → stored.values_at stored_here p.row property ≡ map shown_text (contents p.item.values property)
      stored_again p property there = values_stand schema items p.row property p.item p.here there

      shown_again : (p : One) (properties : List ℕ) → list_all (λ row. nat_lt row (length schema)) properties ≡ true
          → listing.shown_values schema stored_here properties p.row ≡ answer.shown_values schema properties p.item.values
      shown_again p [] there = refl
      shown_again p (property ∷ properties) there =
          let parts = both (nat_lt property (length schema)) (list_all (λ row. nat_lt row (length schema)) properties) there in
          ap₂ (λ (one all : List Shown). one ++ all)
          (ap (map (listing.shown_as (answer.name_of schema property))) (stored_again p property (lt_is property (length schema) parts.0))
          ∙ map-map (listing.shown_as (answer.name_of schema property)) shown_text (contents p.item.values property))
          (shown_again p properties parts.1)

      shown_cost_again : (p : One) (properties : List ℕ) → list_all (λ row. nat_lt row (length schema)) properties ≡ true
          → listing.shown_cost stored_here properties p.row ≡ price.shown_price properties (seen_at p)
      shown_cost_again p [] there = refl
      shown_cost_again p (property ∷ properties) there =
          let parts = both (nat_lt property (length schema)) (list_all (λ row. nat_lt row (length schema)) properties) there in
          sum_by-cons (λ property. 1 + length (stored.values_at stored_here p.row property)) property properties
          ∙ ap₂ (λ (a b : ℕ). a + b)
          (ap (λ n. 1 + n) (ap length (stored_again p property (lt_is property (length schema) parts.0)) ∙ length-map (contents p.item.values property) shown_text))
          (shown_cost_again p properties parts.1)
          ∙ sym (sum_by-cons (λ row. 1 + length (contents p.item.values row)) property properties)

      url_again : (p : One) → stored.url_at stored_here p.row ≡ Some p.item.url
      url_again p = urls_stand schema items p.row ∙ ap (option_map (λ item. item.url)) p.here

      score_again : (p : One) → found.score_of index (pair_at p) ≡ score_of the_meaning (seen_at p)
      score_again p = ap (λ (entry : Row). entry.rank +ℤ fql.boost schema p.item.values tree) (entry_again p)

      -- a hit as it is listed

      abbrev hit_with : List ℕ → One → ℕ → ℤ → List Shown → Hit
      hit_with properties p number score values = record { number = number; score = score; url = p.item.url; values = values }

      listed_hit : (asked : List (List ℕ)) (p : One)
          → listing.listed held (answer.rows_of schema asked []) (ranked_at p) p.item.url ≡ answer.hit_of schema the_meaning asked (seen_at p)
      listed_hit asked p =
          ap (λ (entry : Row). hit_with (answer.rows_of schema asked []) p entry.number (found.score_of index (pair_at p)) (listing.shown_values schema stored_here (answer.rows_of schema asked []) p.row)) (entry_again p)
          ∙ ap₂ (λ (score : ℤ) (values : List Shown). hit_with (answer.rows_of schema asked []) p p.item.number score values) (score_again p)
          (shown_again p (answer.rows_of schema asked []) (rows_within schema asked []))

      listed_again : (asked : List (List ℕ)) (ps : List One)
          → filter_map (listing.listed_by held (answer.rows_of schema asked [])) (map ranked_at ps) ≡ map (λ p. answer.hit_of schema the_meaning asked (seen_at p)) ps
      listed_again asked [] = refl
      listed_again asked (p ∷ ps) =
          ap₂ (λ (one : Option Hit) (all : List Hit). cons_option one all)
          (ap (option_map (listing.listed held (answer.rows_of schema asked []) (ranked_at p))) (url_again p) ∙ ap Some (listed_hit asked p)) (listed_again asked ps)

      -- a refiner's counts, by the numbers of each hit

      columns_again : (property : ℕ) (ps : List One)
          → map (λ row. numbers (occurrences.values_at items row) property) (map found.row_of (map pair_at ps)) ≡ map (λ item. numbers item.values property) (map seen_at ps)
      columns_again property [] = refl
      columns_again property (p ∷ ps) = ap₂ (λ (one : List ℤ) (all : List (List ℤ)). one ∷ all) (ap (λ values. numbers values property) (values_again p)) (columns_again property ps)

      abbrev of_row : RefinerSpec → (ℕ → List Entry) → Option ℕ → Refined
      of_row refiner counts None = record { name = refiner.name; entries = [] }
      of_row refiner counts (Some row) = record { name = answer.name_of schema row; entries = counts row }

      by_row : (refiner : RefinerSpec) (ps : List One) (row : Option ℕ) → ((one : ℕ) → row ≡ Some one → one < length schema)
          → of_row refiner (λ row. entries refiner.bounds (map (numbers_in_row index row) (map found.row_of (map pair_at ps)))) row
          ≡ of_row refiner (λ row. entries refiner.bounds (map (λ item. numbers item.values row) (map seen_at ps))) row
      by_row refiner ps None there = refl
      by_row refiner ps (Some row) there =
          ap (λ counts. record { name = answer.name_of schema row; entries = counts })
          (counted index corpus row refiner.bounds (map found.row_of (map pair_at ps)) stands (there row refl) ∙ ap (entries refiner.bounds) (columns_again row ps))

      refined_again : (refiners : List RefinerSpec) (ps : List One)
          → map (refined_by index schema (map found.row_of (map pair_at ps))) refiners ≡ map (answer.refined schema (map seen_at ps)) refiners
      refined_again [] ps = refl
      refined_again (refiner ∷ refiners) ps =
          ap₂ (λ (one : Refined) (all : List Refined). one ∷ all)
          (by_row refiner ps (position (has_name refiner.name) schema) (λ one at. position_within (has_name refiner.name) schema one at)) (refined_again refiners ps)

      -- the page

      abbrev directions : List Direction
      directions = map (λ sort. sort.1) (map sort_of sorts)

      abbrev by_item : One → Ranked
      by_item p = answer.ranked the_meaning (map sort_of sorts) (seen_at p)

      keys_alike : (p : One) → take (length directions) (ranked_hit (ranked_at p)).keys ≡ take (length directions) (by_item p).keys
      keys_alike p =
          ap (λ keys. take (length directions) (keys_of keys)) (keys_again sorts within p (found.score_of index (pair_at p)))
          ∙ alike_keys (found.score_of index (pair_at p)) p.item.values sorts few
          ∙ ap (λ score. take (length directions) (map (answer.key_of score p.item.values) (map sort_of sorts))) (score_again p)

      alike : OrderAlike (λ p. ranked_hit (ranked_at p)) by_item directions kept
      alike = record {
        scores = score_again;
        keys = keys_alike;
        rising_first = kept_rise (λ p. p.row) is_hit (all_placed schema items valid.items) (rows_rise schema items items 0 (stand_all items) valid.items);
        rising_second = kept_rise (λ p. p.item.number) is_hit (all_placed schema items valid.items)
            (ap are_rising (numbers_are schema items items 0 (stand_all items) valid.items) ∙ valid.numbers);
      }

      abbrev page_here : Request → List One
      page_here request = page_by by_item directions request.start request.count kept

      page_again : (request : Request) → found.page_of index sorts request (map pair_at kept) ≡ map ranked_at (page_here request)
      page_again request =
          ap₂ (λ (order : List Direction) (all : List RankedHit). page_by ranked_hit order request.start request.count all)
          (sym (map-map (λ sort. sort.1) sort_of sorts)) (map-map (found.ranked_by index sorts) pair_at kept)
          ∙ pages_seen ranked_at ranked_hit directions request.start request.count kept
          ∙ ap (map ranked_at) (alike_orders (λ p. ranked_hit (ranked_at p)) by_item directions request.start request.count kept alike)

      seen_again : (request : Request) → price.page_of_seen the_meaning (map sort_of sorts) request (map seen_at kept) ≡ map seen_at (page_here request)
      seen_again request = pages_seen seen_at (answer.ranked the_meaning (map sort_of sorts)) directions request.start request.count kept

      hits_again : (request : Request)
          → filter_map (listing.listed_by held (answer.rows_of schema request.properties [])) (found.page_of index sorts request (map pair_at kept))
          ≡ map (answer.hit_of schema the_meaning request.properties) (page_by (answer.ranked the_meaning (map sort_of sorts)) directions request.start request.count (map seen_at kept))
      hits_again request =
          ap (filter_map (listing.listed_by held (answer.rows_of schema request.properties []))) (page_again request)
          ∙ listed_again request.properties (page_here request)
          ∙ sym (ap (map (answer.hit_of schema the_meaning request.properties)) (seen_again request)
          ∙ map-map (answer.hit_of schema the_meaning request.properties) seen_at (page_here request))

      pub found_again : (request : Request) → found.found_of held sorts request (map pair_at kept) ≡ answer.found_of schema the_meaning (map sort_of sorts) request (map seen_at kept)
      found_again request = λ i. record {
        start = request.start;
        total = (length-map kept pair_at ∙ sym (length-map kept seen_at)) i;
        hits = hits_again request i;
        refiners = refined_again request.refiners kept i;
      }

      pub page_cost_again : (request : Request)
          → found.page_cost held sorts request (map pair_at kept)
          ≡ sum_by (price.shown_price (answer.rows_of schema request.properties [])) (price.page_of_seen the_meaning (map sort_of sorts) request (map seen_at kept))
      page_cost_again request =
          ap (sum_by (listing.listed_cost held (answer.rows_of schema request.properties []))) (page_again request)
          ∙ sum_seen (listing.listed_cost held (answer.rows_of schema request.properties [])) ranked_at (λ p. price.shown_price (answer.rows_of schema request.properties []) (seen_at p))
          (λ p. shown_cost_again p (answer.rows_of schema request.properties []) (rows_within schema request.properties [])) (page_here request)
          ∙ sym (ap (sum_by (price.shown_price (answer.rows_of schema request.properties []))) (seen_again request)
          ∙ sum_seen (price.shown_price (answer.rows_of schema request.properties [])) seen_at (λ p. price.shown_price (answer.rows_of schema request.properties []) (seen_at p)) (λ p. refl) (page_here request))
