use Rattle.std.proofs.Common.{◌≡◌, length}
use Rattle.sq_packet.specs.Marks.{expected, is_ascii_word}
use Rattle.sq_packet.proofs.marks.expected.Given as goal

abbrev pub invariant-word : goal.invariant-word
invariant-word l = (expected l.end l.wanted l.left ≡ expected l.end l.word l.marks) × is_ascii_word l.wanted

abbrev pub decreases-word : goal.decreases-word
decreases-word l = length l.wanted
