use Rattle.std.proofs.Common.{◌≡◌, drop}
use Rattle.std.specs.List.{list_any}
use Rattle.sq_ranking.specs.Ranking.{in_bucket}
use Rattle.sq_ranking.proofs.entries.has_one.Given as goal

abbrev pub invariant-loop-number : goal.invariant-loop-number
invariant-loop-number l = list_any (in_bucket l.from l.to) (drop l.number-index l.numbers) ≡ list_any (in_bucket l.from l.to) l.numbers
