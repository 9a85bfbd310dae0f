use Rattle.std.proofs.Common.{◌≡◌, ◌++◌, drop, None}
use Rattle.sq_collect.specs.Counted.{count_in, counted_buckets}
use Rattle.sq_collect.proofs.entries.buckets_of.Given as goal

abbrev pub invariant-loop-i : goal.invariant-loop-i
invariant-loop-i l = l.found ++ counted_buckets (count_in l.counts) l.i l.from (drop l.i l.marks) ≡ counted_buckets (count_in l.counts) 0 None l.marks
