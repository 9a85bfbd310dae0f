use Rattle.std.proofs.Common.{◌≡◌, length}
use Rattle.std.specs.List.{find}
use Rattle.sq_packet.specs.Elements.{child_of, is_named}
use Rattle.sq_packet.proofs.elements.child_of.Given as goal

abbrev pub invariant-children : goal.invariant-children
invariant-children l = find (is_named l.name) l.left ≡ child_of l.fn.inside l.name

abbrev pub decreases-children : goal.decreases-children
decreases-children l = length l.left
