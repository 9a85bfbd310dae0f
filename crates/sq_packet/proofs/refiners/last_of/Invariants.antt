use Rattle.std.proofs.Common.{◌≡◌, length}
use Rattle.sq_packet.specs.Refiners.{last_of}
use Rattle.sq_packet.proofs.refiners.last_of.Given as goal

abbrev pub invariant-bytes : goal.invariant-bytes
invariant-bytes l = last_of l.last l.left ≡ last_of l.first l.bytes

abbrev pub decreases-bytes : goal.decreases-bytes
decreases-bytes l = length l.left
