-- What is known of every page.
use Rattle.std.specs.Prelude.{◌≡◌, ℕ, true, List, length, map, take}
use Rattle.sq_model.specs.Valid.{are_rising}
use Rattle.sq_packet.specs.declared.request.Direction.{Direction}
use Rattle.sq_ranking.specs.Ranking.{Ranked, page_by}

-- Two ways to see the hits of a list order them alike: equal scores, equal keys as far as there are directions, and numbers
-- that rise along the list by the one way and by the other.
pub record OrderAlike {X : Type 0} (first second : X → Ranked) (directions : List Direction) (hits : List X) : Type 0 where
  pub scores : (hit : X) → (first hit).score ≡ (second hit).score
  pub keys : (hit : X) → take (length directions) (first hit).keys ≡ take (length directions) (second hit).keys
  pub rising_first : are_rising (map (λ hit. (first hit).number) hits) ≡ true
  pub rising_second : are_rising (map (λ hit. (second hit).number) hits) ≡ true

-- Rows and item numbers rise together, so a page by the one is the page by the other.
abbrev pub AlikeOrdersGiveOnePage : Type 0 → Type 0
AlikeOrdersGiveOnePage X = (first second : X → Ranked) (directions : List Direction) (start count : ℕ) (hits : List X)
    → OrderAlike first second directions hits → page_by first directions start count hits ≡ page_by second directions start count hits

-- The page of what the hits are seen as is what the page's hits are seen as.
abbrev pub PagesAreSeen : Type 0 → Type 0 → Type 0
PagesAreSeen X Y = (seen : X → Y) (ranked : Y → Ranked) (directions : List Direction) (start count : ℕ) (hits : List X)
    → page_by ranked directions start count (map seen hits) ≡ map seen (page_by (λ hit. ranked (seen hit)) directions start count hits)
