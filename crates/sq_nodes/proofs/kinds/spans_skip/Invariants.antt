use Rattle.std.proofs.Common.{◌≡◌, ℕ, ◌+◌, ◌≤◌, false, map, take, length}
use Rattle.std.specs.Prelude.{IfSome}
use Rattle.std.specs.List.{list_any}
use Rattle.sq_near.specs.Rows.{has_row}
use Rattle.sq_nodes.specs.Leaves.{IsBefore, spans_left, streams_rest}
use Rattle.sq_nodes.proofs.kinds.spans_skip.Given as goal

abbrev pub invariant-loop-i : goal.invariant-loop-i
invariant-loop-i g l = record {
  same : length l.streams.items ≡ length l.fn.streams.items;
  none : (r : ℕ) → l.row ≤ r → IsBefore r l.next → list_any (λ stream. has_row r (spans_left stream)) (take l.i l.streams.items) ≡ false;
  forward : IfSome l.next (λ to. l.row ≤ to);
  later : (r : ℕ) → l.row ≤ r → map (λ stream. has_row r (spans_left stream)) l.streams.items ≡ map (λ stream. has_row r (spans_left stream)) l.fn.streams.items;
  cost : l.steps + streams_rest l.streams.items ≤ l.fn.steps + streams_rest l.fn.streams.items;
}
