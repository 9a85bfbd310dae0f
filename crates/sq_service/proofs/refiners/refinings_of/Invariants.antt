use Rattle.std.proofs.Common.{◌+◌, ◌≤◌, [], take, drop}
use Rattle.std.specs.Prelude.{sum_by}
use Rattle.sq_service.specs.Refining.{AreRefiningsOf, refining_rest, refiner_cost}
use Rattle.sq_service.proofs.refiners.refinings_of.Given as goal

abbrev pub invariant-loop-one : goal.invariant-loop-one
invariant-loop-one g l = record {
  counts : AreRefiningsOf l.index l.schema (take l.one-index l.asked) l.all.items [];
  cost : l.steps + sum_by refining_rest l.all.items + sum_by (refiner_cost l.index l.schema) (drop l.one-index l.asked)
      ≤ l.fn.steps + sum_by (refiner_cost l.index l.schema) l.asked;
}
