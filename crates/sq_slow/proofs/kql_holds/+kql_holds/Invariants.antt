use Rattle.std.proofs.Common.{◌≡◌, ◌++◌, map, drop}
use Rattle.std.specs.List.{list_any, list_all}
use Rattle.sq_model.specs.Kql.{holds, judge}
use Rattle.sq_slow.proofs.kql_holds.+kql_holds.Given as goal

abbrev pub invariant-judge_each-loop-operand : goal.invariant-judge_each-loop-operand
invariant-judge_each-loop-operand l = l.run ++ map (judge l.schema l.item.values l.fn.joiner) (drop l.operand-index l.operands) ≡ map (judge l.schema l.item.values l.fn.joiner) l.operands

abbrev pub invariant-all_hold-loop-part : goal.invariant-all_hold-loop-part
invariant-all_hold-loop-part l = list_all (holds l.schema l.item.values l.fn.joiner) (drop l.part-index l.parts) ≡ list_all (holds l.schema l.item.values l.fn.joiner) l.parts

abbrev pub invariant-some_hold-loop-part : goal.invariant-some_hold-loop-part
invariant-some_hold-loop-part l = list_any (holds l.schema l.item.values l.fn.joiner) (drop l.part-index l.parts) ≡ list_any (holds l.schema l.item.values l.fn.joiner) l.parts
