use Rattle.std.proofs.Common.{◌≡◌, ℕ, ◌+◌, ◌-◌, ◌*◌, ◌≤◌, None, map, filter, sum_by, length, option_map}
use Rattle.sq_cursor.specs.Spans.{spans_from}
use Rattle.sq_near.specs.Covers.{joined_spans, merged_spans}
use Rattle.sq_near.specs.Streams.{cover_span, stream_left, stream_rest, stream_depth, joined_depth, merged_depth, spans_beyond, highest}
use Rattle.sq_near.specs.Moves.{strung, Keeps, LeadsNext, furthest_from, soonest_from, is_after, passages_ahead, places_ahead}
use Rattle.sq_near.proofs.PartLemmas.{moved}
use Rattle.sq_near.proofs.stream.+seek.Given as goal

abbrev pub invariant-Stream::gather-loop-i : goal.invariant-Stream::gather-loop-i
invariant-Stream::gather-loop-i g l =
    let left = stream_left g.C.SpanCursor.left in
    let rest = stream_rest g.C.SpanCursor.rest in
    record {
      lists : map left l.parts.items ≡ moved (spans_from (l.passage.0, l.passage.1)) l.i (map left l.fn.parts.items);
      depth : map stream_depth l.parts.items ≡ map stream_depth l.fn.parts.items;
      cost : l.steps + sum_by rest l.parts.items ≤ l.fn.steps + sum_by rest l.fn.parts.items;
    }

abbrev pub invariant-Stream::pass_all-loop-i : goal.invariant-Stream::pass_all-loop-i
invariant-Stream::pass_all-loop-i g l =
    let left = stream_left g.C.SpanCursor.left in
    let rest = stream_rest g.C.SpanCursor.rest in
    record {
      lists : map left l.parts.items ≡ moved (spans_beyond (l.passage.0, l.passage.1) l.place) l.i (map left l.fn.parts.items);
      depth : map stream_depth l.parts.items ≡ map stream_depth l.fn.parts.items;
      cost : l.steps + sum_by rest l.parts.items ≤ l.fn.steps + sum_by rest l.fn.parts.items;
    }

abbrev pub invariant-Stream::string-loop-i : goal.invariant-Stream::string-loop-i
invariant-Stream::string-loop-i g l =
    let left = stream_left g.C.SpanCursor.left in
    let rest = stream_rest g.C.SpanCursor.rest in
    record {
      from : 1 ≤ l.i;
      lists : map left l.parts.items ≡ strung (l.passage.0, l.passage.1) (l.i - 1) (map left l.fn.parts.items);
      depth : map stream_depth l.parts.items ≡ map stream_depth l.fn.parts.items;
      cost : l.steps + sum_by rest l.parts.items ≤ l.fn.steps + sum_by rest l.fn.parts.items;
    }

abbrev pub invariant-Stream::pass-loop-first : goal.invariant-Stream::pass-loop-first
invariant-Stream::pass-loop-first g l =
    let left = stream_left g.C.SpanCursor.left in
    let rest = stream_rest g.C.SpanCursor.rest in
    record {
      lists : spans_beyond (l.passage.0, l.passage.1) l.place (left l.self) ≡ spans_beyond (l.passage.0, l.passage.1) l.place (left l.fn.self);
      from : spans_from (l.passage.0, l.passage.1) (left l.self) ≡ left l.self;
      depth : stream_depth l.self ≡ stream_depth l.fn.self;
      cost : l.steps + rest l.self ≤ l.fn.steps + rest l.fn.self;
    }

abbrev pub decreases-Stream::pass-loop-first : goal.decreases-Stream::pass-loop-first
decreases-Stream::pass-loop-first g l = length (stream_left g.C.SpanCursor.left l.self)

abbrev pub invariant-Stream::align-loop-next : goal.invariant-Stream::align-loop-next
invariant-Stream::align-loop-next g l =
    let left = stream_left g.C.SpanCursor.left in
    let rest = stream_rest g.C.SpanCursor.rest in
    record {
      keeps : (width : ℕ) → Keeps width l.ordered (map left l.parts.items) (map left l.fn.parts.items);
      stands : l.next ≡ furthest_from None (map left l.parts.items);
      depth : map stream_depth l.parts.items ≡ map stream_depth l.fn.parts.items;
      cost : l.steps + sum_by rest l.parts.items ≤ l.fn.steps + sum_by rest l.fn.parts.items;
    }

abbrev pub decreases-Stream::align-loop-next : goal.decreases-Stream::align-loop-next
decreases-Stream::align-loop-next g l = passages_ahead l.next

abbrev pub invariant-Stream::find-loop-next : goal.invariant-Stream::find-loop-next
invariant-Stream::find-loop-next g l =
    let left = stream_left g.C.SpanCursor.left in
    let rest = stream_rest g.C.SpanCursor.rest in
    record {
      spans : filter (is_after l.after) (joined_spans l.width l.ordered (map left l.parts.items)) ≡ filter (is_after l.after) (joined_spans l.width l.ordered (map left l.fn.parts.items));
      leads : LeadsNext l.width l.ordered (map left l.parts.items) (option_map cover_span l.next);
      depth : map stream_depth l.parts.items ≡ map stream_depth l.fn.parts.items;
      cost : l.steps + sum_by rest l.parts.items ≤ l.fn.steps + sum_by rest l.fn.parts.items;
    }

abbrev pub decreases-Stream::find-loop-next : goal.decreases-Stream::find-loop-next
decreases-Stream::find-loop-next g l = places_ahead l.next

abbrev pub invariant-Stream::merge-loop-next : goal.invariant-Stream::merge-loop-next
invariant-Stream::merge-loop-next g l =
    let left = stream_left g.C.SpanCursor.left in
    let rest = stream_rest g.C.SpanCursor.rest in
    record {
      spans : filter (is_after l.after) (merged_spans (map left l.parts.items)) ≡ filter (is_after l.after) (merged_spans (map left l.fn.parts.items));
      stands : option_map cover_span l.next ≡ soonest_from None (map left l.parts.items);
      depth : map stream_depth l.parts.items ≡ map stream_depth l.fn.parts.items;
      cost : l.steps + sum_by rest l.parts.items ≤ l.fn.steps + sum_by rest l.fn.parts.items;
    }

abbrev pub decreases-Stream::merge-loop-next : goal.decreases-Stream::merge-loop-next
decreases-Stream::merge-loop-next g l = places_ahead l.next

-- a part is less deep; at one depth the calls go from pass to a stream's moves, to its node's, to find, align, settle and the moves of all parts
abbrev pub decreases-Stream::pass_end : goal.decreases-Stream::pass_end
decreases-Stream::pass_end g l = 8 * stream_depth l.self.now + 7

abbrev pub decreases-Stream::pass : goal.decreases-Stream::pass
decreases-Stream::pass g l = 8 * stream_depth l.self.now + 6

abbrev pub decreases-StreamSpanCursor::seek_passage : goal.decreases-StreamSpanCursor::seek_passage
decreases-StreamSpanCursor::seek_passage g l = 8 * stream_depth l.self.now + 5

abbrev pub decreases-StreamSpanCursor::step_span : goal.decreases-StreamSpanCursor::step_span
decreases-StreamSpanCursor::step_span g l = 8 * stream_depth l.self.now + 5

abbrev pub decreases-JoinedSpanCursor::seek_passage : goal.decreases-JoinedSpanCursor::seek_passage
decreases-JoinedSpanCursor::seek_passage g l = 8 * joined_depth l.self.now + 4

abbrev pub decreases-JoinedSpanCursor::step_span : goal.decreases-JoinedSpanCursor::step_span
decreases-JoinedSpanCursor::step_span g l = 8 * joined_depth l.self.now + 4

abbrev pub decreases-MergedSpanCursor::seek_passage : goal.decreases-MergedSpanCursor::seek_passage
decreases-MergedSpanCursor::seek_passage g l = 8 * merged_depth l.self.now + 4

abbrev pub decreases-MergedSpanCursor::step_span : goal.decreases-MergedSpanCursor::step_span
decreases-MergedSpanCursor::step_span g l = 8 * merged_depth l.self.now + 4

abbrev pub decreases-Stream::find : goal.decreases-Stream::find
decreases-Stream::find g l = 8 * (highest (map stream_depth l.parts.now.items) + 1) + 3

abbrev pub decreases-Stream::merge : goal.decreases-Stream::merge
decreases-Stream::merge g l = 8 * (highest (map stream_depth l.parts.now.items) + 1) + 3

abbrev pub decreases-Stream::align : goal.decreases-Stream::align
decreases-Stream::align g l = 8 * (highest (map stream_depth l.parts.now.items) + 1) + 2

abbrev pub decreases-Stream::settle : goal.decreases-Stream::settle
decreases-Stream::settle g l = 8 * (highest (map stream_depth l.parts.now.items) + 1) + 1

abbrev pub decreases-Stream::gather : goal.decreases-Stream::gather
decreases-Stream::gather g l = 8 * (highest (map stream_depth l.parts.now.items) + 1)

abbrev pub decreases-Stream::pass_all : goal.decreases-Stream::pass_all
decreases-Stream::pass_all g l = 8 * (highest (map stream_depth l.parts.now.items) + 1)

abbrev pub decreases-Stream::string : goal.decreases-Stream::string
decreases-Stream::string g l = 8 * (highest (map stream_depth l.parts.now.items) + 1)
