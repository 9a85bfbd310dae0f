use Rattle.std.proofs.Common.{◌≡◌, ℕ, ℤ, ◌+◌, ◌≤◌, ◌++◌, true, List, [], map, length}
use Rattle.sq_model.specs.Valid.{are_rising}
use Rattle.sq_packet.specs.declared.request.Request.{Request}
use Rattle.sq_eval.specs.Plans.{plan_left, plan_rest}
use Rattle.sq_holding.specs.Held.{Held}
use Rattle.sq_service.specs.Collected.{HasTaken, collected_rest}
use Rattle.sq_service.specs.Found.{row_of, are_within}
use Rattle.sq_service.specs.declared.sorts.Sort.{Sort}
use Rattle.sq_service.proofs.collected.collect.Given as goal

abbrev pub invariant-loop-row : goal.invariant-loop-row
invariant-loop-row g l = record {
  done : List (ℕ × ℤ);
  split : done ++ plan_left l.plan ≡ plan_left l.fn.plan;
  within : are_within (length l.index.rows) (plan_left l.plan) ≡ true;
  taken : (held : Held) (sorts : List Sort) (request : Request) → held.index ≡ l.index → HasTaken held sorts request l.fn.collected []
      → are_rising (map row_of (plan_left l.fn.plan)) ≡ true → HasTaken held sorts request l.collected done;
  cost : l.steps + plan_rest l.plan + collected_rest l.collected ≤ l.fn.steps + plan_rest l.fn.plan + collected_rest l.fn.collected;
}

abbrev pub decreases-loop-row : goal.decreases-loop-row
decreases-loop-row g l = length (plan_left l.plan)
