use Rattle.std.proofs.Common.{◌≡◌, drop}
use Rattle.sq_trim.specs.Flags.{flagged}
use Rattle.sq_trim.proofs.admitted.first_from.Given as goal

abbrev pub invariant-loop-row : goal.invariant-loop-row
invariant-loop-row l = flagged l.row (drop l.row l.flags) ≡ flagged l.from (drop l.from l.flags)
