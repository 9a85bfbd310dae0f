use Rattle.std.proofs.Common.{◌≢◌, sym, ◌∙◌, arith, length}
use Rattle.sq_service.proofs.CollectedLemmas.{total_is, found_none, found_some}
use Rattle.sq_service.proofs.found.found_if_some.Goals as goal

pub returns-then-total-eq0-clause-found : goal.returns-then-total-eq0-clause-found
returns-then-total-eq0-clause-found g c = λ sorts hits taken rising.
    found_none c.args.held.now sorts c.args.request.now hits
    (sym (total_is c.args.held.now sorts c.args.request.now c.args.collected hits taken rising c.total.result c.total.ensures) ∙ c.if-total-eq0.true)

pub returns-clause-found : goal.returns-clause-found
returns-clause-found g c = λ sorts hits taken rising.
    let counted = total_is c.args.held.now sorts c.args.request.now c.args.collected hits taken rising c.total.result c.total.ensures in
    let some : length hits ≢ 0 = omega (arith, counted, c.if-total-eq0.false) in
    found_some c.args.held.now sorts c.args.request.now hits c.in_ok-found.found some (c.in_ok-found.ensures.found sorts hits taken rising)

pub returns-clause-cost : goal.returns-clause-cost
returns-clause-cost g c = λ sorts hits taken rising. c.in_ok-found.ensures.cost sorts hits taken rising

pub returns-in_err-found-clause-cost : goal.returns-in_err-found-clause-cost
returns-in_err-found-clause-cost g c = λ sorts hits taken rising. c.in_err-found.ensures.cost sorts hits taken rising
