use Rattle.std.proofs.Common.{◌≡◌, ℕ, ◌+◌, ◌<◌, ◌≤◌, false, map, take, length}
use Rattle.std.specs.List.{list_any}
use Rattle.sq_near.specs.Rows.{has_row}
use Rattle.sq_nodes.specs.Leaves.{spans_left, streams_rest}
use Rattle.sq_nodes.proofs.kinds.spans_score.Given as goal

abbrev pub invariant-loop-i : goal.invariant-loop-i
invariant-loop-i g l = record {
  same : length l.streams.items ≡ length l.fn.streams.items;
  none : list_any (λ stream. has_row l.row (spans_left stream)) (take l.i l.streams.items) ≡ false;
  now : map (λ stream. has_row l.row (spans_left stream)) l.streams.items ≡ map (λ stream. has_row l.row (spans_left stream)) l.fn.streams.items;
  later : (r : ℕ) → l.row < r → map (λ stream. has_row r (spans_left stream)) l.streams.items ≡ map (λ stream. has_row r (spans_left stream)) l.fn.streams.items;
  cost : l.steps + streams_rest l.streams.items ≤ l.fn.steps + streams_rest l.fn.streams.items;
}
