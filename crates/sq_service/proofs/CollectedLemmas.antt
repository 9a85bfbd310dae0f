-- What is collected, hit by hit.
use Rattle.std.proofs.Common.{◌≡◌, ℕ, ℤ, ◌<◌, true, List, [], ◌∷◌, ◌++◌, map, length, Some, None, ◌≢◌, refl, sym, ap, ap₂, ◌∙◌, subst, arith, append_assoc}
use Rattle.std.specs.Prelude.{sum_by, nat_lt, slice_get}
use Rattle.std.specs.List.{filter_map}
use Rattle.std.proofs.lemmas.Bool.Decides.{nat_tests}
use Rattle.std.proofs.lemmas.List.{map-append, append-nil, length-map}
use Rattle.std.proofs.lemmas.Simd.{map-map}
use Rattle.sq_model.specs.Valid.{are_rising}
use Rattle.sq_schema.specs.declared.property.Property.{Property}
use Rattle.sq_packet.specs.declared.request.Direction.{Direction}
use Rattle.sq_packet.specs.declared.request.RefinerSpec.{RefinerSpec}
use Rattle.sq_packet.specs.declared.request.Request.{Request}
use Rattle.sq_response.specs.declared.response.Found.{Found}
use Rattle.sq_response.specs.declared.response.Hit.{Hit}
use Rattle.sq_response.specs.declared.response.Refined.{Refined}
use Rattle.sq_postings.specs.Indexed.{Indexed}
use Rattle.sq_engine.specs.Answer.{rows_of}
use Rattle.sq_ranking.specs.declared.keys.Directions.{Directions}
use Rattle.sq_ranking.specs.declared.keys.RankedHit.{RankedHit}
use Rattle.sq_ranking.specs.declared.keys.SortKeys.{SortKeys}
use Rattle.sq_ranking.specs.Keys.{directions_of, ranked_hit}
use Rattle.sq_ranking.specs.Ranking.{page_by}
use Rattle.sq_eval.specs.Plans.{first, without_first}
use Rattle.sq_collect.specs.Best.{row as hit_row}
use Rattle.sq_collect.specs.Paged.{IsPageOf}
use Rattle.sq_holding.specs.Held.{Held}
use Rattle.sq_service.specs.Collected.{HasTaken}
use Rattle.sq_service.specs.Found.{row_of, are_within, ranked_by, score_of, page_of, page_cost, found_of, found_by}
use Rattle.sq_service.specs.Listed.{listed_by, listed_cost}
use Rattle.sq_service.specs.Keys.{keys_at, keys_by}
use Rattle.sq_service.specs.Refining.{Took, AreRefiningsOf, refined_by}
use Rattle.sq_service.specs.declared.collected.Collected.{Collected}
use Rattle.sq_service.specs.declared.sorts.Sort.{Sort}
use Rattle.sq_service.proofs.Placed.{both}
use Rattle.sq_service.proofs.RefiningLemmas.{all_took}

lt_is : (a b : ℕ) → nat_lt a b ≡ true → a < b
lt_is a b e = grind (arith, nat_tests, e)

lt_true : (a b : ℕ) → a < b → nat_lt a b ≡ true
lt_true a b l = grind (arith, nat_tests, l)

-- ---- rows that rise

two_rise : (a b : ℕ) → are_rising (a ∷ b ∷ []) ≡ true → a < b
two_rise a b rising = lt_is a b (both (nat_lt a b) true rising).0

pub last_rise : (rows : List ℕ) (row next : ℕ) → are_rising (rows ++ row ∷ [] ++ next ∷ []) ≡ true → row < next
last_rise [] row next rising = two_rise row next rising
last_rise (a ∷ []) row next rising = two_rise row next (both (nat_lt a row) (are_rising (row ∷ next ∷ [])) rising).1
last_rise (a ∷ b ∷ rows) row next rising =
    last_rise (b ∷ rows) row next (both (nat_lt a b) (are_rising (b ∷ rows ++ row ∷ [] ++ next ∷ [])) rising).1

pub skip_rise : (rows : List ℕ) (row next : ℕ) → are_rising (rows ++ row ∷ [] ++ next ∷ []) ≡ true → are_rising (rows ++ next ∷ []) ≡ true
skip_rise [] row next rising = refl
skip_rise (a ∷ []) row next rising =
    let parts = both (nat_lt a row) (are_rising (row ∷ next ∷ [])) rising in
    let one : a < row = lt_is a row parts.0 in
    let two : row < next = two_rise row next parts.1 in
    rw (lt_true a next (omega (arith, one, two))) refl
skip_rise (a ∷ b ∷ rows) row next rising =
    let parts = both (nat_lt a b) (are_rising (b ∷ rows ++ row ∷ [] ++ next ∷ [])) rising in
    rw parts.0 (skip_rise (b ∷ rows) row next parts.1)

pub front_rise : (rows : List ℕ) (row : ℕ) (more : List ℕ) → are_rising (rows ++ row ∷ more) ≡ true → are_rising (rows ++ row ∷ []) ≡ true
front_rise [] row more rising = refl
front_rise (a ∷ []) row more rising = rw (both (nat_lt a row) (are_rising (row ∷ more)) rising).0 refl
front_rise (a ∷ b ∷ rows) row more rising =
    let parts = both (nat_lt a b) (are_rising (b ∷ rows ++ row ∷ more)) rising in
    rw parts.0 (front_rise (b ∷ rows) row more parts.1)

-- ---- one hit more

module _ (held : Held) (sorts : List Sort) where
  pub rows_seen : (hits : List (ℕ × ℤ)) → map hit_row (map (ranked_by held.index sorts) hits) ≡ map row_of hits
  rows_seen hits = map-map hit_row (ranked_by held.index sorts) hits

  module _ (request : Request) (before after : Collected) (hits : List (ℕ × ℤ)) (row : ℕ) (boost score : ℤ) (keys : SortKeys)
      (taken : HasTaken held sorts request before hits) (rising : are_rising (map row_of hits ++ row ∷ []) ≡ true)
      (scored : score ≡ score_of held.index (row, boost)) (keyed : keys ≡ keys_at before.sources row score) where
    abbrev offered : RankedHit
    offered = record { number = row; score = score; keys = keys }

    hit_is : offered ≡ ranked_by held.index sorts (row, boost)
    hit_is = λ i. record {
      number = row;
      score = scored i;
      keys = (keyed ∙ taken.keyed row score rising ∙ ap (keys_by held.index sorts row) scored) i;
    }

    more_ranked : map (ranked_by held.index sorts) hits ++ offered ∷ [] ≡ map (ranked_by held.index sorts) (hits ++ (row, boost) ∷ [])
    more_ranked = ap (λ (one : RankedHit). map (ranked_by held.index sorts) hits ++ one ∷ []) hit_is ∙ sym (map-append (ranked_by held.index sorts) hits ((row, boost) ∷ []))

    more_rows : map row_of hits ++ row ∷ [] ≡ map row_of (hits ++ (row, boost) ∷ [])
    more_rows = sym (map-append row_of hits ((row, boost) ∷ []))

    offered_rise : are_rising (map hit_row (map (ranked_by held.index sorts) hits ++ offered ∷ [])) ≡ true
    offered_rise =
        ap are_rising (map-append hit_row (map (ranked_by held.index sorts) hits) (offered ∷ []) ∙ ap (λ (rows : List ℕ). rows ++ row ∷ []) (rows_seen hits)) ∙ rising

    pub takes : ((r : ℕ) (s : ℤ) → row < r → keys_at after.sources r s ≡ keys_at before.sources r s)
        → ((order : Directions) (start count : ℕ) (all : List RankedHit) → IsPageOf order start count before.page all → are_rising (map hit_row (all ++ offered ∷ [])) ≡ true
        → IsPageOf order start count after.page (all ++ offered ∷ []))
        → ((k : ℕ) → Took row (slice_get before.refinings.items k) (slice_get after.refinings.items k))
        → HasTaken held sorts request after (hits ++ (row, boost) ∷ [])
    takes later offers took = record {
      order = taken.order;
      directed = taken.directed;
      paged = subst (λ (all : List RankedHit). IsPageOf taken.order request.start request.count after.page all) more_ranked
          (offers taken.order request.start request.count (map (ranked_by held.index sorts) hits) taken.paged offered_rise);
      keyed = λ r s behind.
          let order : are_rising (map row_of hits ++ row ∷ [] ++ r ∷ []) ≡ true = ap (λ (rows : List ℕ). are_rising (rows ++ r ∷ [])) more_rows ∙ behind in
          later r s (last_rise (map row_of hits) row r order) ∙ taken.keyed r s (skip_rise (map row_of hits) row r order);
      refined = subst (λ (rows : List ℕ). AreRefiningsOf held.index held.schema request.refiners after.refinings.items rows) more_rows
          (all_took held.index held.schema request.refiners before.refinings.items after.refinings.items (map row_of hits) row taken.refined took rising);
    }

-- ---- the hits of a plan, one after the other

pub first_is : (hits : List (ℕ × ℤ)) (hit : ℕ × ℤ) → first hits ≡ Some hit → hits ≡ hit ∷ without_first hits
first_is [] hit here = absurd (cc)
first_is (one ∷ hits) hit here = let same : one ≡ hit = cc in ap (λ (x : ℕ × ℤ). x ∷ hits) same

pub none_is : (hits : List (ℕ × ℤ)) → first hits ≡ None → hits ≡ []
none_is [] here = refl
none_is (one ∷ hits) here = absurd (cc)

module _ (all done hits rest : List (ℕ × ℤ)) (hit : ℕ × ℤ) (split : done ++ hits ≡ all) (here : first hits ≡ Some hit) (left : rest ≡ without_first hits) where
  whole : hits ≡ hit ∷ rest
  whole = first_is hits hit here ∙ ap (λ (xs : List (ℕ × ℤ)). hit ∷ xs) (sym left)

  pub split_next : done ++ hit ∷ [] ++ rest ≡ all
  split_next = append_assoc done (hit ∷ []) rest ∙ ap (λ (xs : List (ℕ × ℤ)). done ++ xs) (sym whole) ∙ split

  pub shorter : length rest < length hits
  shorter = let n = ap length whole in omega (arith, n)

  pub rise_next : are_rising (map row_of all) ≡ true → are_rising (map row_of done ++ row_of hit ∷ []) ≡ true
  rise_next rising =
      front_rise (map row_of done) (row_of hit) (map row_of rest)
      (ap are_rising (sym (map-append row_of done (hit ∷ rest)) ∙ ap (map row_of) (ap (λ (xs : List (ℕ × ℤ)). done ++ xs) (sym whole) ∙ split)) ∙ rising)

  module _ (rows : ℕ) (within : are_within rows hits ≡ true) where
    parts : (nat_lt hit.0 rows ≡ true) × (are_within rows rest ≡ true)
    parts = both (nat_lt hit.0 rows) (are_within rows rest) (ap (are_within rows) (sym whole) ∙ within)

    pub here_within : hit.0 < rows
    here_within = lt_is hit.0 rows parts.0

    pub rest_within : are_within rows rest ≡ true
    rest_within = parts.1

pub split_end : (all done hits : List (ℕ × ℤ)) → done ++ hits ≡ all → first hits ≡ None → done ≡ all
split_end all done hits split here = sym (append-nil done) ∙ ap (λ (xs : List (ℕ × ℤ)). done ++ xs) (sym (none_is hits here)) ∙ split

-- ---- what is found of what is collected

module _ (held : Held) (sorts : List Sort) (request : Request) (collected : Collected) (hits : List (ℕ × ℤ)) (taken : HasTaken held sorts request collected hits)
    (rising : are_rising (map row_of hits) ≡ true) where
  ranked_rise : are_rising (map hit_row (map (ranked_by held.index sorts) hits)) ≡ true
  ranked_rise = ap are_rising (rows_seen held sorts hits) ∙ rising

  pub total_is : (total : ℕ)
      → ((order : Directions) (start count : ℕ) (all : List RankedHit) → IsPageOf order start count collected.page all → are_rising (map hit_row all) ≡ true → total ≡ length all)
      → total ≡ length hits
  total_is total counts =
      counts taken.order request.start request.count (map (ranked_by held.index sorts) hits) taken.paged ranked_rise ∙ length-map hits (ranked_by held.index sorts)

  module _ (page : List RankedHit)
      (finishes : (order : Directions) (start count : ℕ) (all : List RankedHit) → IsPageOf order start count collected.page all → are_rising (map hit_row all) ≡ true
      → page ≡ page_by ranked_hit (directions_of order) start count all)
      (rows : List ℕ) (asked : rows ≡ rows_of held.schema request.properties []) where
    page_is : page ≡ page_of held.index sorts request hits
    page_is =
        finishes taken.order request.start request.count (map (ranked_by held.index sorts) hits) taken.paged ranked_rise
        ∙ ap (λ (order : List Direction). page_by ranked_hit order request.start request.count (map (ranked_by held.index sorts) hits)) taken.directed

    pub page_cost_is : sum_by (listed_cost held rows) page ≡ page_cost held sorts request hits
    page_cost_is = ap₂ (λ (properties : List ℕ) (all : List RankedHit). sum_by (listed_cost held properties) all) asked page_is

    pub found_is : (total : ℕ)
        → ((order : Directions) (start count : ℕ) (all : List RankedHit) → IsPageOf order start count collected.page all → are_rising (map hit_row all) ≡ true → total ≡ length all)
        → (schema : List Property) → schema ≡ held.schema → (refiners : List Refined)
        → ((index : Indexed) (specs : List RefinerSpec) (all : List ℕ) → AreRefiningsOf index schema specs collected.refinings.items all → are_rising all ≡ true
        → refiners ≡ map (refined_by index schema all) specs)
        → (listed : List Hit) → listed ≡ filter_map (listed_by held rows) page
        → (let one : Found = record { start = request.start; total = total; hits = listed; refiners = refiners } in one) ≡ found_of held sorts request hits
    found_is total counts schema same refiners refines listed lists =
        let refined : refiners ≡ map (refined_by held.index held.schema (map row_of hits)) request.refiners =
        refines held.index request.refiners (map row_of hits) (subst (λ (s : List Property). AreRefiningsOf held.index s request.refiners collected.refinings.items (map row_of hits)) (sym same) taken.refined) rising
        ∙ ap (λ (s : List Property). map (refined_by held.index s (map row_of hits)) request.refiners) same in
        let shown = lists ∙ ap₂ (λ (properties : List ℕ) (all : List RankedHit). filter_map (listed_by held properties) all) asked page_is in
        λ i. record { start = request.start; total = total_is total counts i; hits = shown i; refiners = refined i }

pub found_none : (held : Held) (sorts : List Sort) (request : Request) (hits : List (ℕ × ℤ)) → length hits ≡ 0 → None ≡ found_by held sorts request hits
found_none held sorts request [] none = refl
found_none held sorts request (hit ∷ hits) none = absurd (omega (arith, none))

pub found_some : (held : Held) (sorts : List Sort) (request : Request) (hits : List (ℕ × ℤ)) (one : Found) → length hits ≢ 0 → one ≡ found_of held sorts request hits
    → Some one ≡ found_by held sorts request hits
found_some held sorts request [] one some is = absurd (some refl)
found_some held sorts request (hit ∷ hits) one some is = ap Some is
