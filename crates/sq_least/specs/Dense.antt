-- Matches that are enough: each of the others has one of them inside.
use Rattle.std.specs.Prelude.{◌≡◌, ◌↔◌, ℕ, Bool, nat_eq, List, [], ◌∷◌, map, filter, sum}
use Rattle.sq_model.specs.Copies.{weights}
use Rattle.sq_model.specs.Lists.{joined}
use Rattle.sq_model.specs.Passages.{Passage}
use Rattle.sq_model.specs.Spans.{triples}
use Rattle.sq_model.specs.Triples.{choices, near}
use Rattle.sq_model.specs.declared.fql.SpanTree.{SpanTree}
use Rattle.sq_model.specs.declared.triple.Triple.{Triple}
use Rattle.sq_model.proofs.Members.{IsIn}
use Rattle.sq_least.specs.Laws.{of_weight, of_weights, Inside, IsLeast, HasOneWeight}

-- s lies inside t, and weighs the same
abbrev pub Within : Triple → Triple → Type 0
Within s t = Inside s t × (s.weight ≡ t.weight)

-- few are some of the matches, and inside each match lies one of them of the same weight
pub record Dense (matches few : List Triple) : Type 0 where
  pub some : (t : Triple) → IsIn t few → IsIn t matches
  pub below : (t : Triple) → IsIn t matches → (s : Triple) × IsIn s few × Within s t

abbrev pub EachDense : List (List Triple) → List (List Triple) → Type 0
EachDense [] [] = Unit {0}
EachDense [] (few ∷ fews) = ⊥
EachDense (part ∷ parts) [] = ⊥
EachDense (part ∷ parts) (few ∷ fews) = Dense part few × EachDense parts fews

abbrev pub DenseChain : Type 0
DenseChain = (a b c : List Triple) → Dense a b → Dense b c → Dense a c

-- Of matches of one weight, those that are enough have the same least ones.
abbrev pub LeastOfDense : Type 0
LeastOfDense = (matches few : List Triple) → HasOneWeight matches → Dense matches few → (t : Triple) → IsLeast matches t ↔ IsLeast few t

-- Enough of each part is enough of their union.
abbrev pub DenseUnion : Type 0
DenseUnion = (parts fews : List (List Triple)) → EachDense parts fews → Dense (joined parts) (joined fews)

-- Enough of each part is enough of a near.
abbrev pub DenseNear : Type 0
DenseNear = (n : ℕ) (ordered : Bool) (parts fews : List (List Triple)) → EachDense parts fews → Dense (near n ordered parts) (near n ordered fews)

-- ---- by weights

-- the weight of each match of a list is one of those at the list's place
abbrev pub HaveWeights : List (List Triple) → List (List ℕ) → Type 0
HaveWeights [] [] = Unit {0}
HaveWeights [] (vs ∷ rest) = ⊥
HaveWeights (part ∷ parts) [] = ⊥
HaveWeights (part ∷ parts) (vs ∷ rest) = ((t : Triple) → IsIn t part → IsIn t.weight vs) × HaveWeights parts rest

-- the choices of one weight of each part that have the sum
abbrev pub weights_of_sum : ℕ → List (List ℕ) → List (List ℕ)
weights_of_sum v parts = filter (λ vs. nat_eq (sum vs) v) (choices parts)

-- The matches of one weight of a near: the nears of the parts' matches of chosen weights that have the sum.
abbrev pub DenseSums : Type 0
DenseSums = (n : ℕ) (ordered : Bool) (parts : List (List Triple)) (of_parts : List (List ℕ)) → HaveWeights parts of_parts → (v : ℕ) →
    Dense (of_weight v (near n ordered parts)) (joined (map (λ vs. near n ordered (of_weights vs parts)) (weights_of_sum v of_parts)))

-- Each match of an expression has one of its weights.
abbrev pub WeightsOfMatches : Type 0
WeightsOfMatches = (passage : Passage) (tree : SpanTree) (t : Triple) → IsIn t (triples passage tree) → IsIn t.weight (weights tree)
