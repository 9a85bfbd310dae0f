use Rattle.std.proofs.Common.{◌+◌, drop, length, sym, ap, arith}
use Rattle.sq_cursor.proofs.EntryLemmas.{entries_counted}
use Rattle.sq_cursor.proofs.SpanLemmas as spans
use Rattle.sq_cursor.proofs.span_list.SpanListCursorSpanCursor.step_span.Goals as goal

pub returns-clause-left : goal.returns-clause-left
returns-clause-left g c = sym (spans.without_first_span-drop c.args.self.now.at c.args.self.now.spans.now)

pub returns-clause-cost : goal.returns-clause-cost
returns-clause-cost g c =
    let now = drop c.args.self.now.at c.args.self.now.spans.now in
    let next = drop (c.args.self.now.at + 1) c.args.self.now.spans.now in
    omega (arith, c.read.ensures, entries_counted next, spans.entries_behind-spans now, ap length (spans.without_first_span-drop c.args.self.now.at c.args.self.now.spans.now))
