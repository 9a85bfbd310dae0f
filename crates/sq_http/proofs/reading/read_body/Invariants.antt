use Rattle.std.proofs.Common.{◌≡◌, ◌-◌, ◌<◌, ◌≤◌, ◌++◌, length}
use Rattle.sq_http.specs.Gathers.{held, room, gained, Gathers}
use Rattle.sq_http.proofs.reading.read_body.Given as goal

abbrev pub invariant-filling : goal.invariant-filling
invariant-filling g l = (held l.buffer ≡ held l.initial.buffer ++ gained (held l.initial.buffer) (held l.buffer))
    × Gathers (λ first. length (held l.initial.buffer ++ first) < l.size) (g.W.Wire.left l.initial.wire) (g.W.Wire.left l.wire) (g.W.Wire.sent l.initial.wire)
    (g.W.Wire.asked l.initial.wire) (g.W.Wire.asked l.wire) (gained (held l.initial.buffer) (held l.buffer))
    × (length (held l.buffer) ≤ l.size) × (room l.buffer ≡ room l.initial.buffer) × (g.W.Wire.sent l.wire ≡ g.W.Wire.sent l.initial.wire)
    × (g.W.Wire.read_faults l.initial.wire ≤ g.W.Wire.read_faults l.wire) × (g.W.Wire.write_faults l.wire ≡ g.W.Wire.write_faults l.initial.wire)

abbrev pub decreases-filling : goal.decreases-filling
decreases-filling g l = l.size - length (held l.buffer)
