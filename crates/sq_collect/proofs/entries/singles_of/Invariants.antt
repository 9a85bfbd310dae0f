use Rattle.std.proofs.Common.{◌≡◌, ◌++◌, drop}
use Rattle.sq_collect.specs.Counted.{count_in, counted_singles}
use Rattle.sq_collect.proofs.entries.singles_of.Given as goal

abbrev pub invariant-loop-i : goal.invariant-loop-i
invariant-loop-i l = l.found ++ counted_singles (count_in l.counts) l.i (drop l.i l.marks) ≡ counted_singles (count_in l.counts) 0 l.marks
