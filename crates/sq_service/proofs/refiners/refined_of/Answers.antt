use Rattle.std.proofs.Common.{◌≤◌, length, arith, ◌∙◌}
use Rattle.sq_service.proofs.RefiningLemmas.{next_refined, all_refined}
use Rattle.sq_service.proofs.refiners.refined_of.Goals as goal

pub loop-one-preserved : goal.loop-one-preserved
loop-one-preserved c = λ index asked rows are rising.
    c.in_ok-push.ensures.ok
    ∙ next_refined index c.args.schema.now asked c.args.refinings.now rows c.loop-one.one-index c.one-item.result c.in_ok-refined.field-0 c.loop-one.all are c.loop-one-test.true c.one-item.is
    (λ one is. c.in_ok-refined.ensures index one rows is rising) (c.loop-one.invariant index asked rows are rising)

pub returns : goal.returns
returns c = λ index asked rows are rising.
    let past : length c.args.refinings.now ≤ c.loop-one.one-index = omega (arith, c.loop-one-test.false) in
    all_refined index c.args.schema.now asked c.args.refinings.now rows c.loop-one.one-index c.loop-one.all are past (c.loop-one.invariant index asked rows are rising)
