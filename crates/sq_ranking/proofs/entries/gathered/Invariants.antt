use Rattle.std.proofs.Common.{◌≡◌, ℤ, take}
use Rattle.std.specs.List.{count_by}
use Rattle.std.specs.Ordering.{int_eq}
use Rattle.sq_ranking.specs.Ranking.{has}
use Rattle.sq_ranking.proofs.entries.gathered.Given as goal

abbrev pub invariant-loop-hit : goal.invariant-loop-hit
invariant-loop-hit l = (value : ℤ) → count_by (int_eq value) l.numbers.items ≡ count_by (has value) (take l.hit-index l.hits)
