-- The sorts of a request and the keys of a hit, as four places of which the front ones are filled.
use Rattle.std.specs.Prelude.{ℤ, List, [], ◌∷◌, Option, Some, None}
use Rattle.sq_packet.specs.declared.request.Direction.{Direction}
use Rattle.sq_ranking.specs.declared.keys.Directions.{Directions}
use Rattle.sq_ranking.specs.declared.keys.SortKeys.{SortKeys}
use Rattle.sq_ranking.specs.declared.keys.RankedHit.{RankedHit}
use Rattle.sq_ranking.specs.Ranking.{Ranked}

-- the directions in front of the first empty place
abbrev pub filled : Option Direction → List Direction → List Direction
filled None more = []
filled (Some direction) more = direction ∷ more

abbrev pub directions_of : Directions → List Direction
directions_of order = filled order.first (filled order.second (filled order.third (filled order.fourth [])))

-- a key for each place; behind the last direction they are not looked at
abbrev pub keys_of : SortKeys → List (Option ℤ)
keys_of keys = keys.first ∷ (keys.second ∷ (keys.third ∷ (keys.fourth ∷ [])))

abbrev pub ranked_hit : RankedHit → Ranked
ranked_hit hit = record { number = hit.number; score = hit.score; keys = keys_of hit.keys }
