use Rattle.std.proofs.Common.{w64, ◌∙◌}
use Rattle.std.proofs.lemmas.Int.{to_z-of_z}
use Rattle.sq_engine.specs.Query as query
use Rattle.sq_service.proofs.MeansLemmas.{answers_text, given}
use Rattle.sq_service.proofs.answer.answer_holder.Goals as goal

pub returns-in-Ok-clause-says : goal.returns-in-Ok-clause-says
returns-in-Ok-clause-says g c = λ corpus holds.
    let gives = rw (c.schema.ensures ∙ holds.schema) at c.in-Ok.ensures.means in
    answers_text corpus holds.valid c.args.claims.now c.args.now c.args.request.now c.in-Ok.tree c.answer_by.result
    (given corpus.schema c.joiner_of.result (query.joiner_of c.args.request.now) _ c.args.now c.args.request.now.language c.as_str-text.result.now c.args.request.now.text c.in-Ok.tree
    c.joiner_of.ensures (to_z-of_z w64 c.args.now c.ranges.now) c.as_str-text.ensures gives)
    (c.answer_by.ensures.says corpus holds)
