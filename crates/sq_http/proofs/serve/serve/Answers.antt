use Rattle.std.proofs.Common.{◌≡◌, ◌-◌, ◌+◌, refl, arith, ◌∙◌}
use Rattle.sq_http.proofs.ServeLemmas.{Stands-first, goes_next, not_last, closed_next, ended_next}
use Rattle.sq_http.proofs.serve.serve.Goals as goal

pub requests-init : goal.requests-init
requests-init g c = record { some = omega arith; heads = c.requires.heads; bodies = c.requires.bodies; stands = Stands-first _ _ _ _ c.requires.empty }

pub requests-preserved : goal.requests-preserved
requests-preserved g c =
    let inv = c.requests.invariant in
    let stands = inv.stands in
    let answering = g.H.Handler.reply c.args.responder.now.handler.now c.args.responder.now.moment in
    let one : c.requests.left ≡ (c.requests.left - 1) + 1 = omega (arith, inv.some) in
    let told = c.in-Ok-true.ensures.exchange in
    let e = rw c.in-Ok-true.field-0-test at told in
    record {
      some = not_last g.W.Wire answering answering _ _ _ _ _ _ _ one refl stands _ refl e;
      heads = c.exchange.ensures.heads ∙ inv.heads;
      bodies = c.exchange.ensures.bodies ∙ inv.bodies;
      stands = (goes_next g.W.Wire answering answering _ _ _ _ _ _ _ one refl stands _ refl e);
    }

pub returns-in-Ok-false : goal.returns-in-Ok-false
returns-in-Ok-false g c =
    let inv = c.requests.invariant in
    let stands = inv.stands in
    let answering = g.H.Handler.reply c.args.responder.now.handler.now c.args.responder.now.moment in
    let one : c.requests.left ≡ (c.requests.left - 1) + 1 = omega (arith, inv.some) in
    let told = c.in-Ok-false.ensures.exchange in
    closed_next g.W.Wire answering answering _ _ _ _ _ _ _ one refl stands _ refl (rw c.in-Ok-false.field-0-test at told)

pub returns-in-Err : goal.returns-in-Err
returns-in-Err g c =
    let inv = c.requests.invariant in
    let stands = inv.stands in
    let answering = g.H.Handler.reply c.args.responder.now.handler.now c.args.responder.now.moment in
    let one : c.requests.left ≡ (c.requests.left - 1) + 1 = omega (arith, inv.some) in
    let told = c.in-Err.ensures.exchange in
    ended_next g.W.Wire answering answering _ _ _ _ _ _ _ one refl stands _ _ refl told
