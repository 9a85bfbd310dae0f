use Rattle.std.proofs.Common.{◌≡◌, ◌+◌, ◌≤◌, length, filter, drop}
use Rattle.std.specs.List.{list_any}
use Rattle.sq_ranking.specs.Ranking.{in_bucket}
use Rattle.sq_ranking.proofs.entries.count_in.Given as goal

abbrev pub invariant-loop-hit : goal.invariant-loop-hit
invariant-loop-hit l = (l.count + length (filter (list_any (in_bucket l.from l.to)) (drop l.hit-index l.hits)) ≡ length (filter (list_any (in_bucket l.from l.to)) l.hits)) × (l.count ≤ l.hit-index)
