use Rattle.std.proofs.Common.{◌≡◌, ◌++◌, [], map, drop}
use Rattle.sq_model.specs.Copies.{weights}
use Rattle.sq_model.specs.Lists.{joined}
use Rattle.sq_streams.specs.TreeWeights.{with_all}
use Rattle.sq_streams.proofs.weights.+weights_of.Given as goal

abbrev pub invariant-weights_of_union-loop-part : goal.invariant-weights_of_union-loop-part
invariant-weights_of_union-loop-part l = with_all l.found.items (joined (map weights (drop l.part-index l.parts))) ≡ with_all [] (joined (map weights l.parts))

abbrev pub invariant-weights_each-loop-part : goal.invariant-weights_each-loop-part
invariant-weights_each-loop-part l = l.each ++ map weights (drop l.part-index l.parts) ≡ map weights l.parts
