use Rattle.std.proofs.Common.{◌≡◌, ℕ, ◌+◌, ◌<◌, ◌≤◌, length}
use Rattle.std.specs.Prelude.{sum_by, slice_get}
use Rattle.sq_service.specs.Refining.{Took, refining_rest}
use Rattle.sq_service.proofs.refiners.take_row.Given as goal

abbrev pub invariant-loop-i : goal.invariant-loop-i
invariant-loop-i g l = record {
  sized : length l.refinings.items ≡ length l.fn.refinings.items;
  taken : (k : ℕ) → k < l.i → Took l.row (slice_get l.fn.refinings.items k) (slice_get l.refinings.items k);
  left : (k : ℕ) → l.i ≤ k → slice_get l.refinings.items k ≡ slice_get l.fn.refinings.items k;
  cost : l.steps + sum_by refining_rest l.refinings.items ≤ l.fn.steps + sum_by refining_rest l.fn.refinings.items;
}
