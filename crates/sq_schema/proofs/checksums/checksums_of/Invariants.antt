use Rattle.std.proofs.Common.{take}
use Rattle.sq_schema.specs.Checksums.{AreChecksums}
use Rattle.sq_schema.proofs.checksums.checksums_of.Given as goal

-- the checksums of the rows so far
abbrev pub invariant-loop-row : goal.invariant-loop-row
invariant-loop-row l = AreChecksums l.sums.items (take l.row-index l.rows)
