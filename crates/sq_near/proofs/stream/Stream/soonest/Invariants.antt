use Rattle.std.proofs.Common.{◌≡◌, None, map, drop, option_map}
use Rattle.sq_near.specs.Streams.{cover_span, stream_left}
use Rattle.sq_near.specs.Moves.{soonest_from}
use Rattle.sq_near.proofs.stream.Stream.soonest.Given as goal

abbrev pub invariant-loop-part : goal.invariant-loop-part
invariant-loop-part g l =
    let left = stream_left g.C.SpanCursor.left in
    soonest_from (option_map cover_span l.first) (map left (drop l.part-index l.part-items)) ≡ soonest_from None (map left l.part-items)
