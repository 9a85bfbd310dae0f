use Rattle.std.proofs.Common.{sym, arith}
use Rattle.sq_eval.specs.Plans.{plan_left}
use Rattle.sq_service.proofs.found.found_of.Goals as goal

pub returns-clause-found : goal.returns-clause-found
returns-clause-found g c =
    let hits = plan_left c.args.plan in
    let taken = c.in_ok-collect.ensures.taken c.args.held.now c.args.sorts.now c.args.request.now (sym c.index.ensures) c.in_ok-collected.ensures.nothing c.requires.rising in
    c.in_ok-found.ensures.found c.args.sorts.now hits taken c.requires.rising

pub returns-clause-cost : goal.returns-clause-cost
returns-clause-cost g c =
    let hits = plan_left c.args.plan in
    let taken = c.in_ok-collect.ensures.taken c.args.held.now c.args.sorts.now c.args.request.now (sym c.index.ensures) c.in_ok-collected.ensures.nothing c.requires.rising in
    let last = c.in_ok-found.ensures.cost c.args.sorts.now hits taken c.requires.rising in
    omega (arith, last, c.in_ok-collect.ensures.cost, c.in_ok-collected.ensures.rest)

pub returns-in_err-found-clause-cost : goal.returns-in_err-found-clause-cost
returns-in_err-found-clause-cost g c =
    let hits = plan_left c.args.plan in
    let taken = c.in_ok-collect.ensures.taken c.args.held.now c.args.sorts.now c.args.request.now (sym c.index.ensures) c.in_ok-collected.ensures.nothing c.requires.rising in
    let last = c.in_err-found.ensures.cost c.args.sorts.now hits taken c.requires.rising in
    omega (arith, last, c.in_ok-collect.ensures.cost, c.in_ok-collected.ensures.rest)
