use Rattle.std.proofs.Common.{◌≡◌, ℕ, ◌+◌, ◌<◌, ◌≤◌, length}
use Rattle.sq_cursor.specs.Entries.{entries_behind}
use Rattle.sq_nodes.specs.Leaves.{numbers_in, within_score}
use Rattle.sq_nodes.proofs.kinds.within_score.Given as goal

abbrev pub invariant-loop-number : goal.invariant-loop-number
invariant-loop-number g l = record {
  now : within_score l.ranged l.row ≡ within_score l.fn.ranged l.row;
  later : (r : ℕ) → l.row < r → within_score l.ranged r ≡ within_score l.fn.ranged r;
  cost : l.steps + entries_behind l.ranged.values ≤ l.fn.steps + entries_behind l.fn.ranged.values;
}

abbrev pub decreases-loop-number : goal.decreases-loop-number
decreases-loop-number g l = length (numbers_in l.row l.ranged.values)
