use Rattle.std.proofs.Common.{◌≡◌}
use Rattle.sq_streams.specs.TreeWeights.{extended}
use Rattle.sq_streams.proofs.weights.each_with.Given as goal

abbrev pub invariant-loop-chosen : goal.invariant-loop-chosen
invariant-loop-chosen l = l.more ≡ extended l.yielded l.weights
