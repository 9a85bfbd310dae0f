use Rattle.std.proofs.Common.{◌≡◌, ◌+◌, ◌++◌, drop, map}
use Rattle.sq_typing.proofs.forms.add_sums.Given as goal

abbrev pub invariant-loop-second : goal.invariant-loop-second
invariant-loop-second l = l.all.items ++ map (λ second. l.first + second) (drop l.second-index l.seconds) ≡ l.fn.all.items ++ map (λ second. l.first + second) l.seconds
