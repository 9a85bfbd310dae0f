use Rattle.std.proofs.Common.{◌≡◌, length}
use Rattle.sq_packet.specs.Marks.{declaration}
use Rattle.sq_packet.proofs.marks.declaration.Given as goal

abbrev pub invariant-declaration : goal.invariant-declaration
invariant-declaration l = declaration l.end l.left ≡ declaration l.end l.marks

abbrev pub decreases-declaration : goal.decreases-declaration
decreases-declaration l = length l.left
