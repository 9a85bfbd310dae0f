use Rattle.std.proofs.Common.{◌≡◌, ◌+◌, ◌≤◌, ◌++◌, drop}
use Rattle.sq_service.specs.Listed.{shown_values, shown_cost}
use Rattle.sq_service.proofs.shown.shown_values.Given as goal

abbrev pub invariant-loop-property : goal.invariant-loop-property
invariant-loop-property g l = record {
  values : l.all ++ shown_values l.schema l.stored (drop l.property-index l.properties) l.row ≡ shown_values l.schema l.stored l.properties l.row;
  cost : l.steps + shown_cost l.stored (drop l.property-index l.properties) l.row ≤ l.fn.steps + shown_cost l.stored l.properties l.row;
}
