use Rattle.std.proofs.Common.{◌≡◌, [], suc, length}
use Rattle.sq_packet.specs.Packet.{attributes, no_attributes}
use Rattle.sq_packet.proofs.attributes.attributes.Given as goal

abbrev pub invariant-attributes : goal.invariant-attributes
invariant-attributes l = attributes l.turns l.end l.element l.names.items l.tag l.left ≡ attributes (suc (length l.marks)) l.end l.element [] no_attributes l.marks

abbrev pub decreases-attributes : goal.decreases-attributes
decreases-attributes l = l.turns
