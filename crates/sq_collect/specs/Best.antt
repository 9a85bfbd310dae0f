-- The best of some hits.
use Rattle.std.specs.Prelude.{◌≡◌, ℕ, ◌-◌, ◌≤◌, Bool, false, not, List, take, length, slice_get, Option, Some, None, ⊤}
use Rattle.std.specs.List.Sorted.{IsPermutation, IsSortedBy}
use Rattle.sq_ranking.specs.Keys.{directions_of, ranked_hit}
use Rattle.sq_ranking.specs.Ranking.{comes_before, ordered_by}
use Rattle.sq_ranking.specs.declared.keys.Directions.{Directions}
use Rattle.sq_ranking.specs.declared.keys.RankedHit.{RankedHit}
use Rattle.sq_ranking.proofs.MemberLemmas.{Member, Within}

-- the number of a hit is its row
abbrev pub row : RankedHit → ℕ
row hit = hit.number

-- the first hits in the order of a request, at most limit of them
abbrev pub best : Directions → ℕ → List RankedHit → List RankedHit
best order limit hits = take limit (ordered_by ranked_hit (directions_of order) hits)

abbrev pub before : Directions → RankedHit → RankedHit → Bool
before order a b = comes_before (directions_of order) (ranked_hit a) (ranked_hit b)

-- where there is a bar, it comes before none of the best hits, and there are limit of them
abbrev pub IsBar : Directions → ℕ → List RankedHit → Option RankedHit → Type 0
IsBar order limit hits None = ⊤
IsBar order limit hits (Some bar) = (limit ≤ length (best order limit hits)) × ((hit : RankedHit) → Member hit (best order limit hits) → before order bar hit ≡ false)

-- The hits in order, cut to the first of them, at most limit; and the last of these.
pub record IsCut (order : Directions) (limit : ℕ) (hits cut : List RankedHit) (last : Option RankedHit) : Type 0 where
  pub sorted : List RankedHit
  pub moved : IsPermutation hits sorted
  pub rises : IsSortedBy (before order) sorted
  pub first : cut ≡ take limit sorted
  pub ends : last ≡ slice_get cut (length cut - 1)

-- The best of what is kept are the best of the hits, as many as matter.
pub record IsEnough (order : Directions) (limit : ℕ) (kept : List RankedHit) (bar : Option RankedHit) (hits : List RankedHit) : Type 0 where
  pub among : Within kept hits
  pub best_kept : best order limit kept ≡ best order limit hits
  pub barred : IsBar order limit hits bar

-- not before the bar, where there is one
abbrev pub is_past : Directions → Option RankedHit → RankedHit → Bool
is_past order None hit = false
is_past order (Some bar) hit = not (before order hit bar)
