use Rattle.std.proofs.Common.{◌≡◌, drop}
use Rattle.std.specs.List.{find}
use Rattle.sq_engine.specs.Verdict.{is_named}
use Rattle.sq_service.proofs.callers.caller_named.Given as goal

abbrev pub invariant-loop-caller : goal.invariant-loop-caller
invariant-loop-caller l = find (is_named l.name) (drop l.caller-index l.callers) ≡ find (is_named l.name) l.callers
