use Rattle.std.proofs.Common.{w64, sym, ap, ◌∙◌}
use Rattle.std.proofs.lemmas.Int.{to_z-of_z}
use Rattle.std.specs.List.{find}
use Rattle.sq_engine.specs.Verdict.{is_named}
use Rattle.sq_service.proofs.MeansLemmas.{answers_caller}
use Rattle.sq_service.proofs.answer.answer.Goals as goal

pub returns-in-Some-clause-says : goal.returns-in-Some-clause-says
returns-in-Some-clause-says g c = λ corpus holds.
    answers_caller corpus c.args.caller.now c.args.now _ c.args.request.now c.in-Some.caller.now c.as_slice-in-Some.result.now c.answer_holder.result
    (ap (find (is_named c.args.caller.now)) (sym (c.as_slice.ensures ∙ c.callers.ensures ∙ holds.callers)) ∙ c.in-Some.ensures) c.as_slice-in-Some.ensures
    (to_z-of_z w64 c.args.now c.ranges.now) (c.answer_holder.ensures.says corpus holds)
