use Rattle.std.proofs.Common.{◌≡◌, ◌+◌, ◌-◌, ◌++◌}
use Rattle.sq_coded.specs.Coded.{number_bytes}
use Rattle.sq_coded.proofs.code.add_number.Given as goal

abbrev pub invariant-loop-n : goal.invariant-loop-n
invariant-loop-n l = l.bytes.items ++ number_bytes l.n ≡ l.fn.bytes.items ++ number_bytes l.fn.n

abbrev pub decreases-loop-n : goal.decreases-loop-n
decreases-loop-n l = l.n + 1 - 128
