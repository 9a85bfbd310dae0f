use Rattle.std.proofs.Common.{◌≡◌, ◌+◌, ◌≤◌, ◌++◌, map, drop}
use Rattle.sq_stored.specs.Stored.{values_at}
use Rattle.sq_engine.specs.Answer.{name_of}
use Rattle.sq_service.specs.Listed.{shown_as}
use Rattle.sq_service.proofs.shown.add_values.Given as goal

abbrev pub invariant-loop-i : goal.invariant-loop-i
invariant-loop-i g l = record {
  values : l.all ++ map (shown_as (name_of l.schema l.property)) (drop l.i (values_at l.stored l.row l.property)) ≡ l.fn.all ++ map (shown_as (name_of l.schema l.property)) (values_at l.stored l.row l.property);
  cost : l.steps ≤ l.fn.steps + l.i;
}
