use Rattle.std.proofs.Common.{◌≡◌, ◌++◌, drop, None}
use Rattle.sq_ranking.specs.Ranking.{buckets}
use Rattle.sq_ranking.proofs.entries.buckets_of.Given as goal

abbrev pub invariant-loop-bound : goal.invariant-loop-bound
invariant-loop-bound l = l.found ++ buckets l.hits l.from (drop l.bound-index l.bounds) ≡ buckets l.hits None l.bounds
