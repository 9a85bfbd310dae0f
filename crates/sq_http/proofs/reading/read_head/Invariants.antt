use Rattle.std.proofs.Common.{◌≡◌, ◌-◌, ◌≤◌, ◌++◌, length}
use Rattle.sq_http.specs.Cut.{cut, Waiting}
use Rattle.sq_http.specs.Gathers.{held, room, gained, Gathers}
use Rattle.sq_http.proofs.reading.read_head.Given as goal

abbrev pub invariant-reading : goal.invariant-reading
invariant-reading g l = (held l.buffer ≡ held l.initial.buffer ++ gained (held l.initial.buffer) (held l.buffer))
    × Gathers (λ first. cut (held l.initial.buffer ++ first) ≡ Waiting) (g.W.Wire.left l.initial.wire) (g.W.Wire.left l.wire) (g.W.Wire.sent l.initial.wire)
    (g.W.Wire.asked l.initial.wire) (g.W.Wire.asked l.wire) (gained (held l.initial.buffer) (held l.buffer))
    × (length (held l.buffer) ≤ 8193) × (room l.buffer ≡ room l.initial.buffer) × (g.W.Wire.sent l.wire ≡ g.W.Wire.sent l.initial.wire)
    × (g.W.Wire.read_faults l.initial.wire ≤ g.W.Wire.read_faults l.wire) × (g.W.Wire.write_faults l.wire ≡ g.W.Wire.write_faults l.initial.wire)

abbrev pub decreases-reading : goal.decreases-reading
decreases-reading g l = 8193 - length (held l.buffer)
