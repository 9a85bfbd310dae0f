use Rattle.std.proofs.Common.{◌≡◌, length}
use Rattle.sq_packet.specs.Marks.{skip_blanks}
use Rattle.sq_packet.proofs.marks.skip_blanks.Given as goal

abbrev pub invariant-blanks : goal.invariant-blanks
invariant-blanks l = skip_blanks l.left ≡ skip_blanks l.marks

abbrev pub decreases-blanks : goal.decreases-blanks
decreases-blanks l = length l.left
