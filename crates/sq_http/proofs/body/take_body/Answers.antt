use Rattle.sq_http.specs.Body.{request_seen}
use Rattle.sq_http.proofs.BodyLemmas.{held_front, body_replied, body_ended, body_failed}
use Rattle.sq_http.proofs.body.take_body.Goals as goal

pub returns-in-Ok-true-clause-exchange : goal.returns-in-Ok-true-clause-exchange
returns-in-Ok-true-clause-exchange g c =
    let read = c.read_body.ensures in
    let answering = g.H.Handler.reply c.args.responder.now.handler.now c.args.responder.now.moment in
    let request = request_seen c.args.job.now.request in
    let replied = c.reply_to.ensures in
    body_replied g.W.Wire answering c.args.job.now.size request c.args.job.now.last c.args.front.now _ _ _ _
    (held_front _ _ _ _ _ _ _ c.len.ensures c.drop_front.ensures.held c.front_of.ensures c.push.ensures.held) read.held read.gathers read.sent read.cause.later read.write_faults _ _
    (rw c.in-Ok-true.field-0-test at c.in-Ok-true.ensures.whole) (rw c.as_slice.ensures at replied)

pub returns-in-Ok-false-clause-exchange : goal.returns-in-Ok-false-clause-exchange
returns-in-Ok-false-clause-exchange g c =
    let read = c.read_body.ensures in
    let answering = g.H.Handler.reply c.args.responder.now.handler.now c.args.responder.now.moment in
    let end = rw c.in-Ok-false.field-0-test at c.in-Ok-false.ensures.whole in
    body_ended g.W.Wire answering c.args.job.now.size (request_seen c.args.job.now.request) c.args.job.now.last c.args.front.now _ _ _ _
    (held_front _ _ _ _ _ _ _ c.len.ensures c.drop_front.ensures.held c.front_of.ensures c.push.ensures.held) read.held read.gathers read.sent read.cause.later read.write_faults
    end.0 end.1

pub returns-in-Err-clause-exchange : goal.returns-in-Err-clause-exchange
returns-in-Err-clause-exchange g c =
    let read = c.read_body.ensures in
    let answering = g.H.Handler.reply c.args.responder.now.handler.now c.args.responder.now.moment in
    body_failed g.W.Wire answering c.args.job.now.size (request_seen c.args.job.now.request) c.args.job.now.last c.args.front.now _ _ _ _
    (held_front _ _ _ _ _ _ _ c.len.ensures c.drop_front.ensures.held c.front_of.ensures c.push.ensures.held) read.held read.gathers read.sent read.cause.later read.write_faults
    c.in-Err.ensures.whole c.in-Err.ensures.cause.failed
