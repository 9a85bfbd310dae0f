use Rattle.std.proofs.Common.{◌≡◌, ℕ, ◌+◌, ◌-◌, ◌^◌, ◌<◌, ◌≤◌, length, min}
use Rattle.sq_near.specs.Rows.{spans_in}
use Rattle.sq_nodes.specs.Leaves.{spans_left, spans_rest}
use Rattle.sq_nodes.proofs.leaves.count_in.Given as goal

abbrev pub invariant-loop-count : goal.invariant-loop-count
invariant-loop-count g l = record {
  most : l.count ≤ 2 ^ 32 - 1;
  count : min (l.count + length (spans_in l.row (spans_left l.stream))) (2 ^ 32 - 1) ≡ min (length (spans_in l.row (spans_left l.fn.stream))) (2 ^ 32 - 1);
  later : (r : ℕ) → l.row < r → spans_in r (spans_left l.stream) ≡ spans_in r (spans_left l.fn.stream);
  cost : l.steps + spans_rest l.stream ≤ l.fn.steps + spans_rest l.fn.stream;
}

abbrev pub decreases-loop-count : goal.decreases-loop-count
decreases-loop-count g l = length (spans_in l.row (spans_left l.stream))
