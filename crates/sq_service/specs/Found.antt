-- What is found of hits, which come as rows with their boosts, by what is held.
use Rattle.std.specs.Prelude.{ℕ, ◌+◌, ℤ, ◌+ℤ◌, Bool, nat_lt, List, [], ◌∷◌, map, length, sum_by, Option, Some, None}
use Rattle.std.specs.List.{filter_map, list_all}
use Rattle.sq_packet.specs.declared.request.Request.{Request}
use Rattle.sq_response.specs.declared.response.Found.{Found}
use Rattle.sq_ranking.specs.declared.keys.RankedHit.{RankedHit}
use Rattle.sq_ranking.specs.Keys.{ranked_hit}
use Rattle.sq_ranking.specs.Ranking.{page_by}
use Rattle.sq_postings.specs.Indexed.{Indexed, row_at}
use Rattle.sq_engine.specs.Answer.{rows_of}
use Rattle.sq_holding.specs.Held.{Held}
use Rattle.sq_service.specs.Keys.{keys_by, sources_cost}
use Rattle.sq_service.specs.Listed.{listed_by, listed_cost}
use Rattle.sq_service.specs.Refining.{refined_by, refiner_cost}
use Rattle.sq_service.specs.declared.sorts.Sort.{Sort}

abbrev pub row_of : ℕ × ℤ → ℕ
row_of hit = hit.0

-- all rows are below this number
abbrev pub are_within : ℕ → List (ℕ × ℤ) → Bool
are_within rows hits = list_all (λ hit. nat_lt hit.0 rows) hits

abbrev pub score_of : Indexed → ℕ × ℤ → ℤ
score_of index hit = (row_at index hit.0).rank +ℤ hit.1

-- a hit by what it is ordered by
abbrev pub ranked_by : Indexed → List Sort → ℕ × ℤ → RankedHit
ranked_by index sorts hit = record { number = hit.0; score = score_of index hit; keys = keys_by index sorts hit.0 (score_of index hit) }

abbrev pub page_of : Indexed → List Sort → Request → List (ℕ × ℤ) → List RankedHit
page_of index sorts request hits =
    page_by ranked_hit (map (λ sort. sort.direction) sorts) request.start request.count (map (ranked_by index sorts) hits)

abbrev pub found_of : Held → List Sort → Request → List (ℕ × ℤ) → Found
found_of held sorts request hits = record {
  start = request.start;
  total = length hits;
  hits = filter_map (listed_by held (rows_of held.schema request.properties [])) (page_of held.index sorts request hits);
  refiners = map (refined_by held.index held.schema (map row_of hits)) request.refiners;
}

-- nothing where there is no hit
abbrev pub found_by : Held → List Sort → Request → List (ℕ × ℤ) → Option Found
found_by held sorts request [] = None
found_by held sorts request (hit ∷ hits) = Some (found_of held sorts request (hit ∷ hits))

-- what the keys and the refiners may count
abbrev pub collected_cost : Held → List Sort → Request → ℕ
collected_cost held sorts request = sources_cost held.index sorts + sum_by (refiner_cost held.index held.schema) request.refiners

-- and what the page may count
abbrev pub page_cost : Held → List Sort → Request → List (ℕ × ℤ) → ℕ
page_cost held sorts request hits = sum_by (listed_cost held (rows_of held.schema request.properties [])) (page_of held.index sorts request hits)
