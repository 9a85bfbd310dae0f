use Rattle.std.proofs.Common.{Some, None, sym, ◌∙◌}
use Rattle.sq_eval.specs.Plans.{plan_left}
use Rattle.sq_service.proofs.HeldLemmas.{sound_here, rising_here, within_here, says_here, price_here}
use Rattle.sq_service.proofs.answer.answer_sorted.Goals as goal

pub found_of-requires-clause-rising : goal.found_of-requires-clause-rising
found_of-requires-clause-rising g c =
    let planned = rw c.index.ensures at c.in_ok-plan.ensures.left in
    rising_here c.args.held.now c.tells.ensures.0 c.tells.ensures.1 c.args.tree.now c.args.claims.now c.args.sorts.now (plan_left c.in_ok-plan.plan) c.requires.sound planned

pub found_of-requires-clause-within : goal.found_of-requires-clause-within
found_of-requires-clause-within g c =
    let planned = rw c.index.ensures at c.in_ok-plan.ensures.left in
    within_here c.args.held.now c.tells.ensures.0 c.tells.ensures.1 c.args.tree.now c.args.claims.now c.args.sorts.now (plan_left c.in_ok-plan.plan) c.requires.sound planned

pub returns-in-None-clause-says : goal.returns-in-None-clause-says
returns-in-None-clause-says g c = λ corpus holds.
    let planned = rw c.index.ensures at c.in_ok-plan.ensures.left in
    says_here c.args.held.now corpus holds c.args.tree.now c.args.claims.now c.args.sorts.now (plan_left c.in_ok-plan.plan) c.requires.sound planned c.stored_values_stand.ensures c.stored_urls_stand.ensures c.columns_count_as_numbers.ensures c.requires.few c.requires.within c.args.request.now None (sym c.in-None.is ∙ c.in_ok-found.ensures.found)

pub returns-in-Some-clause-says : goal.returns-in-Some-clause-says
returns-in-Some-clause-says g c = λ corpus holds.
    let planned = rw c.index.ensures at c.in_ok-plan.ensures.left in
    says_here c.args.held.now corpus holds c.args.tree.now c.args.claims.now c.args.sorts.now (plan_left c.in_ok-plan.plan) c.requires.sound planned c.stored_values_stand.ensures c.stored_urls_stand.ensures c.columns_count_as_numbers.ensures c.requires.few c.requires.within c.args.request.now (Some c.in-Some.found) (sym c.in-Some.is ∙ c.in_ok-found.ensures.found)

pub returns-in_err-found-clause-price : goal.returns-in_err-found-clause-price
returns-in_err-found-clause-price g c = λ corpus holds.
    let planned = rw c.index.ensures at c.in_ok-plan.ensures.left in
    let cost = rw c.index.ensures at c.in_ok-plan.ensures.cost in
    let cost_here = cost corpus holds.valid holds.index (sound_here c.args.held.now corpus holds c.args.tree.now c.requires.sound) in
    price_here c.args.held.now corpus holds c.args.tree.now c.args.claims.now c.args.sorts.now (plan_left c.in_ok-plan.plan) c.requires.sound planned c.stored_values_stand.ensures c.stored_urls_stand.ensures c.columns_count_as_numbers.ensures c.requires.few c.requires.within c.args.request.now _ _ _ _ cost_here c.found_of.ensures.cost

pub returns-in-None-clause-price : goal.returns-in-None-clause-price
returns-in-None-clause-price g c = λ corpus holds.
    let planned = rw c.index.ensures at c.in_ok-plan.ensures.left in
    let cost = rw c.index.ensures at c.in_ok-plan.ensures.cost in
    let cost_here = cost corpus holds.valid holds.index (sound_here c.args.held.now corpus holds c.args.tree.now c.requires.sound) in
    price_here c.args.held.now corpus holds c.args.tree.now c.args.claims.now c.args.sorts.now (plan_left c.in_ok-plan.plan) c.requires.sound planned c.stored_values_stand.ensures c.stored_urls_stand.ensures c.columns_count_as_numbers.ensures c.requires.few c.requires.within c.args.request.now _ _ _ _ cost_here c.found_of.ensures.cost

pub returns-in-Some-clause-price : goal.returns-in-Some-clause-price
returns-in-Some-clause-price g c = λ corpus holds.
    let planned = rw c.index.ensures at c.in_ok-plan.ensures.left in
    let cost = rw c.index.ensures at c.in_ok-plan.ensures.cost in
    let cost_here = cost corpus holds.valid holds.index (sound_here c.args.held.now corpus holds c.args.tree.now c.requires.sound) in
    price_here c.args.held.now corpus holds c.args.tree.now c.args.claims.now c.args.sorts.now (plan_left c.in_ok-plan.plan) c.requires.sound planned c.stored_values_stand.ensures c.stored_urls_stand.ensures c.columns_count_as_numbers.ensures c.requires.few c.requires.within c.args.request.now _ _ _ _ cost_here c.found_of.ensures.cost
