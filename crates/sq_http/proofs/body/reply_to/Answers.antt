use Rattle.sq_http.proofs.body.reply_to.Goals as goal

pub returns-in-Refused : goal.returns-in-Refused
returns-in-Refused g c = rw c.in-Refused.is (c.refused.ensures (g.H.Handler.reply c.args.responder.now.handler.now c.args.responder.now.moment))
