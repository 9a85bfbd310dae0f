use Rattle.sq_service.specs.Listed.{listed_cost}
use Rattle.sq_service.proofs.ListedLemmas.{paid}
use Rattle.sq_service.proofs.listed.listed_hits.Goals as goal

pub returns-in_err-add_hit-clause-cost : goal.returns-in_err-add_hit-clause-cost
returns-in_err-add_hit-clause-cost g c =
    paid (listed_cost c.args.held.now c.args.properties.now) c.args.page.now c.loop-ranked.ranked-index _ c.args.steps.now c.loop-ranked.steps c.add_hit.new.steps
    c.loop-ranked-test.true c.add_hit.ensures.cost c.loop-ranked.invariant.cost
