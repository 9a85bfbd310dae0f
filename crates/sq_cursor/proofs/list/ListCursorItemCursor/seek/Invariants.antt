use Rattle.std.proofs.Common.{◌≡◌, ◌+◌, length, drop}
use Rattle.sq_cursor.specs.Entries.{entries_behind}
use Rattle.sq_cursor.specs.Rows.{rows_from}
use Rattle.sq_cursor.proofs.list.ListCursorItemCursor.seek.Given as goal

abbrev pub invariant-loop-here : goal.invariant-loop-here
invariant-loop-here g l =
    let now = drop l.self.at l.self.rows.now in
    let first = drop l.fn.self.at l.fn.self.rows.now in
    record {
      left : rows_from l.row now ≡ rows_from l.row first;
      counted : l.steps + entries_behind now ≡ l.fn.steps + entries_behind first;
    }

abbrev pub decreases-loop-here : goal.decreases-loop-here
decreases-loop-here g l = length (drop l.self.at l.self.rows.now)
