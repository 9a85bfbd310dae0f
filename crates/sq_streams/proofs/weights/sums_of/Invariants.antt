use Rattle.std.proofs.Common.{◌≡◌, ◌++◌, map, drop}
use Rattle.std.specs.Prelude.{sum}
use Rattle.sq_streams.proofs.weights.sums_of.Given as goal

abbrev pub invariant-loop-chosen : goal.invariant-loop-chosen
invariant-loop-chosen l = l.sums.items ++ map sum (drop l.chosen-index l.all) ≡ map sum l.all
