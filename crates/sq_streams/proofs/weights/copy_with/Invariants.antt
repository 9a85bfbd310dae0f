use Rattle.std.proofs.Common.{◌≡◌, ◌++◌, drop}
use Rattle.sq_streams.proofs.weights.copy_with.Given as goal

abbrev pub invariant-loop-other : goal.invariant-loop-other
invariant-loop-other l = l.copy ++ drop l.other-index l.chosen ≡ l.chosen
