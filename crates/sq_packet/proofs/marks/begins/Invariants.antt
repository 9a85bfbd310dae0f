use Rattle.std.proofs.Common.{◌≡◌, length}
use Rattle.sq_packet.specs.Marks.{begins, is_ascii_word}
use Rattle.sq_packet.proofs.marks.begins.Given as goal

abbrev pub invariant-word : goal.invariant-word
invariant-word l = (begins l.wanted l.left ≡ begins l.word l.marks) × is_ascii_word l.wanted

abbrev pub decreases-word : goal.decreases-word
decreases-word l = length l.wanted
