use Rattle.std.proofs.Common.{◌≡◌, ◌≤◌, length}
use Rattle.sq_fql.specs.Number.{size_from}
use Rattle.sq_fql.proofs.number.size_from.Given as goal

abbrev pub invariant-loop-digits : goal.invariant-loop-digits
invariant-loop-digits l = (size_from l.value l.digits l.limit ≡ size_from l.front l.initial.digits l.limit) × (l.value ≤ l.limit)

abbrev pub decreases-loop-digits : goal.decreases-loop-digits
decreases-loop-digits l = length l.digits
