use Rattle.std.proofs.Common.{◌≡◌, map, drop}
use Rattle.std.specs.Prelude.{◌+ℤ◌}
use Rattle.sq_model.specs.Lists.{total}
use Rattle.sq_model.specs.Fql.{boost}
use Rattle.sq_slow.proofs.fql_boost.+fql_boost.Given as goal

abbrev pub invariant-boosts-loop-part : goal.invariant-boosts-loop-part
invariant-boosts-loop-part l = l.sum +ℤ total (map (boost l.schema l.item.values) (drop l.part-index l.parts)) ≡ total (map (boost l.schema l.item.values) l.parts)
