-- What is known of what is collected while hits come.
use Rattle.std.specs.Prelude.{◌≡◌, ℕ, ◌+◌, ℤ, true, List, [], ◌∷◌, ◌++◌, map, sum_by}
use Rattle.sq_model.specs.Valid.{are_rising}
use Rattle.sq_packet.specs.declared.request.Request.{Request}
use Rattle.sq_ranking.specs.declared.keys.Directions.{Directions}
use Rattle.sq_ranking.specs.Keys.{directions_of}
use Rattle.sq_collect.specs.Paged.{IsPageOf}
use Rattle.sq_holding.specs.Held.{Held}
use Rattle.sq_service.specs.Found.{row_of, ranked_by}
use Rattle.sq_service.specs.Keys.{keys_at, keys_by, sources_rest}
use Rattle.sq_service.specs.Refining.{AreRefiningsOf, refining_rest}
use Rattle.sq_service.specs.declared.collected.Collected.{Collected}
use Rattle.sq_service.specs.declared.sorts.Sort.{Sort}

-- these hits came: the page and the refiners have them, and the keys of those that come behind them are there
pub record HasTaken (held : Held) (sorts : List Sort) (request : Request) (collected : Collected) (hits : List (ℕ × ℤ)) : Type 0 where
  pub order : Directions
  pub directed : directions_of order ≡ map (λ sort. sort.direction) sorts
  pub paged : IsPageOf order request.start request.count collected.page (map (ranked_by held.index sorts) hits)
  pub keyed : (row : ℕ) (score : ℤ) → are_rising (map row_of hits ++ row ∷ []) ≡ true → keys_at collected.sources row score ≡ keys_by held.index sorts row score
  pub refined : AreRefiningsOf held.index held.schema request.refiners collected.refinings.items (map row_of hits)

-- how many steps the hits that are yet to come can take
abbrev pub collected_rest : Collected → ℕ
collected_rest collected = sources_rest collected.sources + sum_by refining_rest collected.refinings.items
