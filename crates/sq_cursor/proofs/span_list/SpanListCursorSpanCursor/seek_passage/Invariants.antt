use Rattle.std.proofs.Common.{◌≡◌, ◌+◌, length, drop}
use Rattle.sq_cursor.specs.Entries.{entries_behind}
use Rattle.sq_cursor.specs.Spans.{spans_from}
use Rattle.sq_cursor.proofs.span_list.SpanListCursorSpanCursor.seek_passage.Given as goal

abbrev pub invariant-loop-here : goal.invariant-loop-here
invariant-loop-here g l =
    let now = drop l.self.at l.self.spans.now in
    let first = drop l.fn.self.at l.fn.self.spans.now in
    record {
      left : spans_from (l.passage.0, l.passage.1) now ≡ spans_from (l.passage.0, l.passage.1) first;
      counted : l.steps + entries_behind now ≡ l.fn.steps + entries_behind first;
    }

abbrev pub decreases-loop-here : goal.decreases-loop-here
decreases-loop-here g l = length (drop l.self.at l.self.spans.now)
