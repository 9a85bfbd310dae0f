use Rattle.std.proofs.Common.{map, ap, sym, ◌∙◌}
use Rattle.sq_typing.specs.Fql.{joined_all, proximate}
use Rattle.sq_typing.specs.Together.{all_of}
use Rattle.sq_typing.proofs.FqlEquations.{proximate_apply, proximity_joined}
use Rattle.sq_typing.proofs.TogetherLemmas.{step}
use Rattle.sq_typing.proofs.fql_near.+fql_near.Goals as goal

pub proximate-returns-in_ok-parts-in-Apply : goal.proximate-returns-in_ok-parts-in-Apply
proximate-returns-in_ok-parts-in-Apply t c =
    let here = proximate c.args.schema.now c.args.look in
    c.joined_spans.ensures
    ∙ (ap (joined_all c.in-Apply.op) (c.in_ok-parts-in-Apply.ensures ∙ ap (λ os. all_of (map here os)) c.as_slice.ensures)
    ∙ (sym (proximity_joined c.args.look c.in-Apply.at c.in-Apply.op c.in-Apply.operands (map here c.in-Apply.operands) (sym c.joins.ensures ∙ c.if-joins.true))
    ∙ (sym (proximate_apply c.args.schema.now c.args.look c.in-Apply.at c.in-Apply.op c.in-Apply.operands) ∙ ap here (sym c.in-Apply.is))))

pub proximate_each-loop-part-preserved : goal.proximate_each-loop-part-preserved
proximate_each-loop-part-preserved t c =
    step (proximate c.args.schema.now c.args.look) c.args.parts.now c.loop-part.part-index c.part-item.result c.loop-part.typed c.in_ok-next.next c.in_ok-typed.typed _
    c.loop-part-test.true c.part-item.is c.in_ok-next.ensures c.in_ok-typed.ensures c.loop-part.invariant
