use Rattle.std.proofs.Common.{◌≡◌, drop}
use Rattle.sq_streams.specs.TreeWeights.{with_all}
use Rattle.sq_streams.proofs.weights.put_all.Given as goal

abbrev pub invariant-loop-weight : goal.invariant-loop-weight
invariant-loop-weight l = with_all l.found.items (drop l.weight-index l.more) ≡ with_all l.fn.found.items l.more
