use Rattle.std.proofs.Common.{◌≡◌, drop}
use Rattle.sq_stored.specs.Runs.{run_under}
use Rattle.sq_stored.proofs.runs.find_run.Given as goal

abbrev pub invariant-loop-run : goal.invariant-loop-run
invariant-loop-run l = run_under (drop l.run-index l.runs) l.property ≡ run_under l.runs l.property
