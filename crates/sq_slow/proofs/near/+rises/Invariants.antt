use Rattle.std.proofs.Common.{length}
use Rattle.sq_slow.proofs.near.+rises.Given as goal

abbrev pub decreases-rises : goal.decreases-rises
decreases-rises l = length l.chosen.now
