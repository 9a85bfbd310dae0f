use Rattle.std.proofs.Common.{◌≡◌}
use Rattle.sq_packet.specs.Packet.{read_on}
use Rattle.sq_packet.specs.Readings.{state_of}
use Rattle.sq_packet.proofs.read.read_on.Given as goal

abbrev pub invariant-turns : goal.invariant-turns
invariant-turns l = read_on l.turns l.end (state_of l.reading) ≡ read_on l.fn.turns l.end (state_of l.fn.reading)

abbrev pub decreases-turns : goal.decreases-turns
decreases-turns l = l.turns
