use Rattle.std.proofs.Common.{◌≡◌, ◌+◌, ◌≤◌, map, sum_by, length}
use Rattle.sq_near.specs.Covers.{merged_spans}
use Rattle.sq_near.specs.Streams.{stream_left, stream_rest}
use Rattle.sq_near.proofs.stream.Merged.new.Given as goal

abbrev pub invariant-loop-alloc : goal.invariant-loop-alloc
invariant-loop-alloc g l =
    let left = stream_left g.C.SpanCursor.left in
    let rest = stream_rest g.C.SpanCursor.rest in
    record {
      spans : merged_spans (map left l.streams.items) ≡ merged_spans (map left l.fn.parts.items);
      cost : l.steps + sum_by rest l.streams.items ≤ l.fn.steps + sum_by rest l.fn.parts.items;
    }

abbrev pub decreases-loop-alloc : goal.decreases-loop-alloc
decreases-loop-alloc g l = length l.streams.items
