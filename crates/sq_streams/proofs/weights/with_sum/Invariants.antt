use Rattle.std.proofs.Common.{◌≡◌}
use Rattle.std.specs.Prelude.{sum, filter, nat_eq}
use Rattle.sq_streams.proofs.weights.with_sum.Given as goal

abbrev pub invariant-loop-chosen : goal.invariant-loop-chosen
invariant-loop-chosen l = l.found ≡ filter (λ vs. nat_eq (sum vs) l.v) l.yielded
