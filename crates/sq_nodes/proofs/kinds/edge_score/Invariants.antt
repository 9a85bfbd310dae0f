use Rattle.std.proofs.Common.{◌≡◌, ℕ, ◌+◌, ◌<◌, ◌≤◌, length}
use Rattle.sq_near.specs.Rows.{spans_in}
use Rattle.sq_nodes.specs.Leaves.{spans_left, edge_score, edge_rest}
use Rattle.sq_nodes.proofs.kinds.edge_score.Given as goal

abbrev pub invariant-loop-span : goal.invariant-loop-span
invariant-loop-span g l = record {
  now : edge_score l.edges l.row ≡ edge_score l.fn.edges l.row;
  later : (r : ℕ) → l.row < r → edge_score l.edges r ≡ edge_score l.fn.edges r;
  cost : l.steps + edge_rest l.edges ≤ l.fn.steps + edge_rest l.fn.edges;
}

abbrev pub decreases-loop-span : goal.decreases-loop-span
decreases-loop-span g l = length (spans_in l.row (spans_left l.edges.stream))
