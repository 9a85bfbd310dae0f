use Rattle.std.proofs.Common.{◌≡◌, ◌++◌, drop}
use Rattle.sq_postings.specs.Occurrences.{numbers_from}
use Rattle.sq_build.proofs.numbers.numbers_of.Given as goal

abbrev pub invariant-loop-row : goal.invariant-loop-row
invariant-loop-row l = l.pairs ++ numbers_from l.row l.property (drop l.row l.items) ≡ numbers_from 0 l.property l.items
