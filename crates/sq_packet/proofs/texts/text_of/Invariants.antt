use Rattle.std.proofs.Common.{◌≡◌, ◌++◌, length, string_bytes}
use Rattle.sq_packet.specs.Texts.{bytes_of}
use Rattle.sq_packet.proofs.texts.text_of.Given as goal

abbrev pub invariant-marks : goal.invariant-marks
invariant-marks l = string_bytes l.text ++ bytes_of l.left ≡ bytes_of l.marks

abbrev pub decreases-marks : goal.decreases-marks
decreases-marks l = length l.left
