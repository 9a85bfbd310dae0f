use Rattle.std.proofs.Common.{◌≡◌, None, map, drop}
use Rattle.sq_near.specs.Streams.{stream_left}
use Rattle.sq_near.specs.Moves.{furthest_from}
use Rattle.sq_near.proofs.stream.Stream.furthest.Given as goal

abbrev pub invariant-loop-part : goal.invariant-loop-part
invariant-loop-part g l =
    let left = stream_left g.C.SpanCursor.left in
    furthest_from l.last (map left (drop l.part-index l.part-items)) ≡ furthest_from None (map left l.part-items)
