use Rattle.std.proofs.Common.{◌≡◌, ◌++◌, drop}
use Rattle.std.specs.List.{flat_map}
use Rattle.sq_model.specs.Triples.{of_phrase}
use Rattle.sq_slow.proofs.kql_spans.of_leaves.Given as goal

abbrev pub invariant-loop-leaf : goal.invariant-loop-leaf
invariant-loop-leaf l = l.all ++ flat_map (λ leaf. of_phrase leaf.pattern l.passage) (drop l.leaf-index l.leaves) ≡ flat_map (λ leaf. of_phrase leaf.pattern l.passage) l.leaves
