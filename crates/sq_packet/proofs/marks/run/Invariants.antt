use Rattle.std.proofs.Common.{◌≡◌, ◌++◌, length, string_bytes}
use Rattle.sq_packet.specs.Marks.{run}
use Rattle.sq_packet.proofs.marks.run.Given as goal

abbrev pub invariant-run : goal.invariant-run
invariant-run l = (string_bytes l.text ++ (run l.of l.left).0 ≡ (run l.of l.marks).0) × ((run l.of l.left).1 ≡ (run l.of l.marks).1)

abbrev pub decreases-run : goal.decreases-run
decreases-run l = length l.left
