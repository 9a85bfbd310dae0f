use Rattle.std.proofs.Common.{◌<◌, length, arith, ◌∙◌}
use Rattle.std.proofs.Math.ListN.{length-set}
use Rattle.sq_service.proofs.RefiningLemmas.{took_next, same_next, cost_next}
use Rattle.sq_service.proofs.refiners.take_row.Goals as goal

pub loop-i-preserved : goal.loop-i-preserved
loop-i-preserved g c =
    let before = c.loop-i.invariant in
    let items = c.loop-i.refinings.items in
    let one = c.index_mut.result.now in
    let new = c.take.new.self in
    let within : c.loop-i.i < length items = omega (arith, before.sized, c.len-i-end.ensures, c.loop-i-test.true) in
    record {
      sized = length-set items c.loop-i.i new ∙ before.sized;
      taken = took_next c.args.row c.args.refinings.now.items items c.loop-i.i one new within c.index_mut.ensures.value before.left c.take.ensures.taken before.taken;
      left = same_next c.args.row c.args.refinings.now.items items c.loop-i.i one new within c.index_mut.ensures.value before.left c.take.ensures.taken;
      cost = cost_next c.args.row c.args.refinings.now.items items c.loop-i.i one new within c.index_mut.ensures.value before.left c.take.ensures.taken
          c.loop-i.steps c.take.new.steps _ c.take.ensures.cost before.cost;
    }
