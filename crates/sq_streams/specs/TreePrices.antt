-- How many postings the streams of a proximity expression may read, one stream for each weight.
use Rattle.std.specs.Prelude.{◌≡◌, ◌≤◌, ℕ, ◌+◌, ◌*◌, ◌==◌, nat_eq, if◌then◌else◌, Bool, true, not, ◌&&◌, List, [], ◌∷◌, length, sum, sum_by}
use Rattle.std.specs.List.{list_any}
use Rattle.sq_model.specs.Copies.{weights_each, copies}
use Rattle.sq_model.specs.Cost.{phrase_count, spans_count}
use Rattle.sq_model.specs.declared.corpus.Corpus.{Corpus}
use Rattle.sq_model.specs.declared.fql.Look.{Look}
use Rattle.sq_model.specs.declared.fql.SpanTree.{SpanTree, Leaf, Union', Near', Row_of-SpanTree, end_of-SpanTree, more_of-SpanTree}
use Rattle.sq_least.specs.Dense.{weights_of_sum}
use Rattle.sq_model.specs.Valid.{IsValid}
use Rattle.sq_postings.specs.Indexed.{Indexed}
use Rattle.sq_postings.specs.StandsFor.{StandsFor}

abbrev mutual
  -- the postings that the stream of one weight may read: a near reads its parts for each choice of weights that has the sum
  pub price : Corpus → Look → SpanTree → ℕ → ℕ
  price corpus look (Leaf leaf) v = if length leaf.pattern.texts == v then phrase_count corpus look leaf.pattern else 0
  price corpus look (Union' shape parts) v = sum (price_all corpus look parts v)
  price corpus look (Near' shape parts n ordered) v = sum_by (λ vs. sum (price_each corpus look parts vs)) (weights_of_sum v (weights_each parts))

  -- of each part at one weight
  pub price_all : {m : _} → Corpus → Look → Row_of-SpanTree m → ℕ → List ℕ
  price_all corpus look end_of-SpanTree v = []
  price_all corpus look (more_of-SpanTree part rest) v = price corpus look part v ∷ price_all corpus look rest v

  -- of each part at the weight that stands at its place
  pub price_each : {m : _} → Corpus → Look → Row_of-SpanTree m → List ℕ → List ℕ
  price_each corpus look end_of-SpanTree vs = []
  price_each corpus look (more_of-SpanTree part rest) [] = []
  price_each corpus look (more_of-SpanTree part rest) (v ∷ vs) = price corpus look part v ∷ price_each corpus look rest vs

-- of each expression at the weight that stands at its place
abbrev pub prices : Corpus → Look → List SpanTree → List ℕ → List ℕ
prices corpus look [] vs = []
prices corpus look (tree ∷ trees) [] = []
prices corpus look (tree ∷ trees) (v ∷ vs) = price corpus look tree v ∷ prices corpus look trees vs

-- no number stands twice
abbrev pub are_distinct : List ℕ → Bool
are_distinct [] = true
are_distinct (n ∷ ns) = not (list_any (nat_eq n) ns) && are_distinct ns

-- The streams of different weights read each posting at most once for each copy.
abbrev pub PriceOfWeights : Type 0
PriceOfWeights = (corpus : Corpus) (look : Look) (tree : SpanTree) (vs : List ℕ) → are_distinct vs ≡ true →
    sum_by (price corpus look tree) vs ≤ copies tree * spans_count corpus look tree

-- ---- for each valid corpus that an index stands for

abbrev pub IsWithinPrice : Indexed → Look → SpanTree → ℕ → ℕ → ℕ → Type 0
IsWithinPrice index look tree v before after = (corpus : Corpus) → IsValid corpus → StandsFor index corpus → after ≤ before + price corpus look tree v

abbrev pub IsWithinPrices : Indexed → Look → List SpanTree → List ℕ → ℕ → ℕ → Type 0
IsWithinPrices index look trees vs before after = (corpus : Corpus) → IsValid corpus → StandsFor index corpus → after ≤ before + sum (prices corpus look trees vs)

-- one stream for each choice of weights
abbrev pub IsWithinChoices : Indexed → Look → List SpanTree → List (List ℕ) → ℕ → ℕ → Type 0
IsWithinChoices index look parts choices before after =
    (corpus : Corpus) → IsValid corpus → StandsFor index corpus → after ≤ before + sum_by (λ vs. sum (prices corpus look parts vs)) choices

-- one stream for each weight
abbrev pub IsWithinWeights : Indexed → Look → SpanTree → List ℕ → ℕ → ℕ → Type 0
IsWithinWeights index look tree vs before after = (corpus : Corpus) → IsValid corpus → StandsFor index corpus → after ≤ before + sum_by (price corpus look tree) vs
