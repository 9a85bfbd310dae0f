-- What a page knows of the hits that came.
use Rattle.std.specs.Prelude.{◌≡◌, ℕ, ◌+◌, ◌-◌, List, length}
use Rattle.sq_ranking.specs.declared.keys.Directions.{Directions}
use Rattle.sq_ranking.specs.declared.keys.RankedHit.{RankedHit}
use Rattle.sq_collect.specs.declared.page.Page.{Page}
use Rattle.sq_collect.specs.Best.{IsEnough}

-- What a page keeps is enough of the hits.
abbrev pub Keeps : Page → List RankedHit → Type 0
Keeps page hits = IsEnough page.order page.limit page.kept.items page.bar hits

-- Both pages are the same but for what they keep.
pub record IsSameRequest (old new : Page) : Type 0 where
  pub order : new.order ≡ old.order
  pub before : new.before ≡ old.before
  pub count : new.count ≡ old.count
  pub limit : new.limit ≡ old.limit
  pub total : new.total ≡ old.total

-- A page of the hits that came, which keeps what its places need.
pub record IsPageOf (order : Directions) (start count : ℕ) (page : Page) (hits : List RankedHit) : Type 0 where
  pub ordered : page.order ≡ order
  pub places : page.before ≡ start - 1
  pub size : page.count ≡ count
  pub limited : page.limit ≡ start - 1 + count
  pub counted : page.total ≡ length hits
  pub kept : Keeps page hits
