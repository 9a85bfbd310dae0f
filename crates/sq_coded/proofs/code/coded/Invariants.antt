use Rattle.std.proofs.Common.{◌≡◌, ◌++◌, length}
use Rattle.sq_coded.specs.Coded.{coded}
use Rattle.sq_coded.proofs.code.coded.Given as goal

abbrev pub invariant-loop-rest : goal.invariant-loop-rest
invariant-loop-rest l = l.words.items ++ coded l.rest ≡ coded l.entries

abbrev pub decreases-loop-rest : goal.decreases-loop-rest
decreases-loop-rest l = length l.rest
