use Rattle.std.proofs.Common.{◌≡◌, drop}
use Rattle.sq_engine.specs.Verdict as verdict
use Rattle.sq_service.proofs.refiners.first_unrefinable.Given as goal

abbrev pub invariant-loop-i : goal.invariant-loop-i
invariant-loop-i l =
    verdict.first_without (verdict.is_refinable l.schema) l.i (drop l.i l.refiners) ≡ verdict.first_without (verdict.is_refinable l.schema) 0 l.refiners
