use Rattle.std.proofs.Common.{◌≡◌, length}
use Rattle.sq_packet.specs.Refiners.{are_rising}
use Rattle.sq_packet.proofs.refiners.are_rising.Given as goal

abbrev pub invariant-bounds : goal.invariant-bounds
invariant-bounds l = are_rising l.left ≡ are_rising l.bounds

abbrev pub decreases-bounds : goal.decreases-bounds
decreases-bounds l = length l.left
