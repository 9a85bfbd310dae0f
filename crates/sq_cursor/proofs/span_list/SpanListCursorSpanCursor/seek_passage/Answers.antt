use Rattle.std.proofs.Common.{◌≡◌, drop, sym, ◌∙◌, false}
use Rattle.sq_cursor.specs.Spans.{are_ordered-drop, is_passage_before}
use Rattle.sq_cursor.proofs.SpanLemmas as spans
use Rattle.sq_cursor.proofs.span_list.SpanListCursorSpanCursor.seek_passage.Goals as goal

pub returns-then-not-is_before-clause-left : goal.returns-then-not-is_before-clause-left
returns-then-not-is_before-clause-left g c =
    let cursor = c.loop-here.self in
    let h = c.in-Some.ensures in
    let test : is_passage_before (c.in-Some.here.0, c.in-Some.here.1) (c.args.passage.0, c.args.passage.1) ≡ false = cc in
    sym (spans.spans_from-here (c.args.passage.0, c.args.passage.1) (c.in-Some.here.0, c.in-Some.here.1) (drop cursor.at cursor.spans.now)
    (are_ordered-drop cursor.at cursor.spans.now cursor.ordered) (sym h) test)
    ∙ c.loop-here.invariant.left
