use Rattle.std.proofs.Common.{[], ap, arith}
use Rattle.std.specs.Prelude.{sum_by}
use Rattle.sq_service.specs.Refining.{refining_rest}
use Rattle.sq_service.proofs.RefiningLemmas.{next_counts, cost_left, rest_more}
use Rattle.sq_service.proofs.refiners.refinings_of.Goals as goal

pub loop-one-preserved : goal.loop-one-preserved
loop-one-preserved g c =
    let before = c.loop-one.invariant in
    let one = c.one-item.result in
    let refining = c.in_ok-refining_of.field-0 in
    let pushed = ap (sum_by refining_rest) c.in_ok-push.ensures.items in
    record {
      counts = rw c.in_ok-push.ensures.items (next_counts c.args.index.now c.args.schema.now c.args.asked.now c.loop-one.one-index c.loop-one.all.items one refining []
          c.loop-one-test.true c.one-item.is before.counts c.in_ok-refining_of.ensures.counts);
      cost = omega (
        arith,
        pushed,
        rest_more c.args.index.now c.args.schema.now c.loop-one.all.items refining,
        cost_left c.args.index.now c.args.schema.now c.args.asked.now c.loop-one.one-index one c.loop-one-test.true c.one-item.is,
        c.in_ok-refining_of.ensures.rest,
        before.cost,
      );
    }
