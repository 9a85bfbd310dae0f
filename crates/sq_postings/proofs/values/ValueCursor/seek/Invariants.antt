use Rattle.std.proofs.Common.{◌≡◌, ◌+◌, length}
use Rattle.sq_cursor.specs.Entries.{entries_behind}
use Rattle.sq_postings.specs.Left.{pairs_from}
use Rattle.sq_postings.proofs.values.ValueCursor.seek.Given as goal

abbrev pub invariant-loop-here : goal.invariant-loop-here
invariant-loop-here g l = record {
  kept : pairs_from l.row l.self ≡ pairs_from l.row l.fn.self;
  paid : l.steps + entries_behind l.self ≡ l.fn.steps + entries_behind l.fn.self;
}

abbrev pub decreases-loop-here : goal.decreases-loop-here
decreases-loop-here g l = length l.self
