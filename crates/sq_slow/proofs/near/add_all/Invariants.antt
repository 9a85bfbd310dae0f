use Rattle.std.proofs.Common.{◌≡◌, ◌++◌, drop}
use Rattle.sq_slow.proofs.near.add_all.Given as goal

abbrev pub invariant-loop-triple : goal.invariant-loop-triple
invariant-loop-triple l = l.all ++ drop l.triple-index l.more ≡ l.initial.all ++ l.more
