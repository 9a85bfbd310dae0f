use Rattle.std.proofs.Common.{◌≡◌, length, reverse}
use Rattle.sq_packet.specs.Marks.{skip_blanks}
use Rattle.sq_packet.specs.Texts.{trimmed}
use Rattle.sq_packet.proofs.texts.trimmed.Given as goal

abbrev pub invariant-end : goal.invariant-end
invariant-end l = reverse (skip_blanks (reverse l.left)) ≡ trimmed l.marks

abbrev pub decreases-end : goal.decreases-end
decreases-end l = length l.left
