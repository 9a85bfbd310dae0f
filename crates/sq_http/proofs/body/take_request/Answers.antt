use Rattle.sq_http.specs.Body.{request_seen}
use Rattle.sq_http.proofs.BodyLemmas.{interim_sent, interim_failed, no_interim}
use Rattle.sq_http.proofs.body.take_request.Goals as goal

pub returns-in-Ok-clause-exchange : goal.returns-in-Ok-clause-exchange
returns-in-Ok-clause-exchange g c =
    let answering = g.H.Handler.reply c.args.responder.now.handler.now c.args.responder.now.moment in
    let taken = c.take_body.ensures.exchange in
    interim_sent g.W.Wire answering c.args.job.now.interim c.args.job.now.size (request_seen c.args.job.now.request) c.args.job.now.last c.args.front.now _ _ c.if-job.true _ _ _ c.in-Ok.ensures taken

pub returns-in-Err-clause-exchange : goal.returns-in-Err-clause-exchange
returns-in-Err-clause-exchange g c =
    let answering = g.H.Handler.reply c.args.responder.now.handler.now c.args.responder.now.moment in
    interim_failed g.W.Wire answering c.args.job.now.interim c.args.job.now.size (request_seen c.args.job.now.request) c.args.job.now.last c.args.front.now _ _ c.if-job.true _ c.in-Err.ensures

pub returns-else-job-clause-exchange : goal.returns-else-job-clause-exchange
returns-else-job-clause-exchange g c =
    let answering = g.H.Handler.reply c.args.responder.now.handler.now c.args.responder.now.moment in
    let taken = c.take_body-else-job.ensures.exchange in
    no_interim g.W.Wire answering c.args.job.now.interim c.args.job.now.size (request_seen c.args.job.now.request) c.args.job.now.last c.args.front.now _ _ _ c.if-job.false taken
