use Rattle.std.proofs.Common.{w64}
use Rattle.std.proofs.lemmas.Int.{to_z-of_z}
use Rattle.sq_service.proofs.ServiceLemmas.{says_told, costs_told}
use Rattle.sq_service.proofs.service.ServiceEngine.answer.Goals as goal

pub returns-clause-says : goal.returns-clause-says
returns-clause-says g c =
    let said = simp (to_z-of_z w64 c.args.now c.ranges.now) at c.answer.ensures.says c.tells.ensures.0 c.tells.ensures.1 in
    says_told c.told_is_alike.ensures c.alike_give_one_verdict.ensures c.args.self.now.holding c.tells.ensures.0 c.tells.ensures.1 c.args.caller.now c.args.now c.args.request.now c.answer.result said

pub returns-clause-price : goal.returns-clause-price
returns-clause-price g c =
    let cost = simp (to_z-of_z w64 c.args.now c.ranges.now) at c.answer.ensures.price c.tells.ensures.0 c.tells.ensures.1 in
    costs_told c.told_is_alike.ensures c.alike_cost_alike.ensures c.args.self.now.holding c.tells.ensures.0 c.tells.ensures.1 c.args.caller.now c.args.now c.args.request.now _ _ cost
