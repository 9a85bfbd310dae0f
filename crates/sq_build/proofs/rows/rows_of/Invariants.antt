use Rattle.std.proofs.Common.{◌≡◌, ◌++◌, drop, map}
use Rattle.sq_postings.specs.StandsFor.{row_of}
use Rattle.sq_build.proofs.rows.rows_of.Given as goal

abbrev pub invariant-loop-item : goal.invariant-loop-item
invariant-loop-item l = l.rows ++ map row_of (drop l.item-index l.items) ≡ map row_of l.items
