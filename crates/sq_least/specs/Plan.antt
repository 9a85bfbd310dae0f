-- The least matches of a proximity expression, weight by weight.
use Rattle.std.specs.Prelude.{◌↔◌, ℕ, Bool, not, ◌&&◌, ◌||◌, nat_le, List, [], ◌∷◌, map, filter}
use Rattle.std.specs.List.{list_all}
use Rattle.sq_model.specs.Copies.{weights_each}
use Rattle.sq_model.specs.Lists.{joined}
use Rattle.sq_model.specs.Passages.{Passage}
use Rattle.sq_model.specs.Spans.{triples}
use Rattle.sq_model.specs.Triples.{of_phrase, near}
use Rattle.sq_model.specs.declared.fql.SpanTree.{SpanTree, Leaf, Union', Near', Row_of-SpanTree, end_of-SpanTree, more_of-SpanTree}
use Rattle.sq_model.specs.declared.triple.Triple.{Triple}
use Rattle.sq_least.specs.Dense.{weights_of_sum}
use Rattle.sq_least.specs.Laws.{of_weight, IsLeast}

abbrev pub lies_inside : Triple → Triple → Bool
lies_inside t u = nat_le u.first t.first && nat_le t.last u.last

-- the matches that lie inside each that lies inside them
abbrev pub least : List Triple → List Triple
least matches = filter (λ t. list_all (λ u. not (lies_inside u t) || lies_inside t u) matches) matches

abbrev mutual
  -- the least matches of one weight, from the parts' least matches of one weight each
  pub plan : Passage → SpanTree → ℕ → List Triple
  plan passage (Leaf leaf) v = least (of_weight v (of_phrase leaf.pattern passage))
  plan passage (Union' shape parts) v = least (joined (plan_all passage parts v))
  plan passage (Near' shape parts n ordered) v =
      least (joined (map (λ vs. least (near n ordered (plan_each passage parts vs))) (weights_of_sum v (weights_each parts))))

  -- of each part at one weight
  pub plan_all : {m : _} → Passage → Row_of-SpanTree m → ℕ → List (List Triple)
  plan_all passage end_of-SpanTree v = []
  plan_all passage (more_of-SpanTree part rest) v = plan passage part v ∷ plan_all passage rest v

  -- of each part at the weight that stands at its place
  pub plan_each : {m : _} → Passage → Row_of-SpanTree m → List ℕ → List (List Triple)
  plan_each passage end_of-SpanTree vs = []
  plan_each passage (more_of-SpanTree part rest) [] = []
  plan_each passage (more_of-SpanTree part rest) (v ∷ vs) = plan passage part v ∷ plan_each passage rest vs

-- The least matches of one weight are those of the plan: a near of operands of different lengths misses none.
abbrev pub LeastByWeight : Type 0
LeastByWeight = (passage : Passage) (tree : SpanTree) (v : ℕ) (t : Triple) → IsLeast (of_weight v (triples passage tree)) t ↔ IsLeast (plan passage tree v) t
