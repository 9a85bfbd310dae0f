use Rattle.std.proofs.Common.{◌≡◌, map, drop}
use Rattle.std.specs.Prelude.{◌+ℤ◌}
use Rattle.sq_model.specs.Lists.{total}
use Rattle.sq_model.specs.Kql.{boost, operand_boost}
use Rattle.sq_slow.proofs.kql_boost.+kql_boost.Given as goal

abbrev pub invariant-boosts-loop-part : goal.invariant-boosts-loop-part
invariant-boosts-loop-part l = l.sum +ℤ total (map (boost l.schema l.item.values l.fn.joiner) (drop l.part-index l.parts)) ≡ total (map (boost l.schema l.item.values l.fn.joiner) l.parts)

abbrev pub invariant-operand_boosts-loop-operand : goal.invariant-operand_boosts-loop-operand
invariant-operand_boosts-loop-operand l =
    l.sum +ℤ total (map (operand_boost l.schema l.item.values l.fn.joiner) (drop l.operand-index l.operands)) ≡ total (map (operand_boost l.schema l.item.values l.fn.joiner) l.operands)
