use Rattle.std.proofs.Common.{◌≡◌, ◌+◌, ◌≤◌, length}
use Rattle.sq_eval.specs.Plans.{admitted_left, plan_left, plan_rest}
use Rattle.sq_eval.proofs.plan.Plan.next.Given as goal

abbrev pub invariant-loop-row : goal.invariant-loop-row
invariant-loop-row g l = record {
  left : plan_left l.self ≡ plan_left l.fn.self;
  cost : l.steps + plan_rest l.self ≤ l.fn.steps + plan_rest l.fn.self;
}

abbrev pub decreases-loop-row : goal.decreases-loop-row
decreases-loop-row g l = length (admitted_left l.self.admitted)
