use Rattle.std.proofs.Common.{◌≡◌, length}
use Rattle.sq_packet.specs.Marks.{comment}
use Rattle.sq_packet.proofs.marks.comment.Given as goal

abbrev pub invariant-comment : goal.invariant-comment
invariant-comment l = comment l.end l.left ≡ comment l.end l.marks

abbrev pub decreases-comment : goal.decreases-comment
decreases-comment l = length l.left
