use Rattle.std.proofs.Common.{◌≡◌, ◌++◌, drop, map}
use Rattle.sq_postings.specs.Occurrences.{numbered}
use Rattle.sq_build.proofs.numbers.push_numbers.Given as goal

abbrev pub invariant-loop-n : goal.invariant-loop-n
invariant-loop-n l = l.pairs ++ map (numbered l.row) (drop l.n-index l.n-items) ≡ l.initial.pairs ++ map (numbered l.row) l.n-items
