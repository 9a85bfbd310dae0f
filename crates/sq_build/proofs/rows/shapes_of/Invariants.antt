use Rattle.std.proofs.Common.{◌≡◌, ◌++◌, drop, map}
use Rattle.sq_postings.specs.StandsFor.{shape_of}
use Rattle.sq_build.proofs.rows.shapes_of.Given as goal

abbrev pub invariant-loop-row : goal.invariant-loop-row
invariant-loop-row l = l.shapes ++ map shape_of (drop l.row l.schema) ≡ map shape_of l.schema
