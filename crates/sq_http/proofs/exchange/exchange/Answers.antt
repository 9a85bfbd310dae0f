use Rattle.sq_http.specs.Gathers.{held}
use Rattle.sq_http.proofs.HeadLemmas.{head_whole, head_over, head_ended, head_failed}
use Rattle.sq_http.proofs.exchange.exchange.Goals as goal

pub returns-in-Ok-Whole-clause-exchange : goal.returns-in-Ok-Whole-clause-exchange
returns-in-Ok-Whole-clause-exchange g c =
    let answering = g.H.Handler.reply c.args.responder.now.handler.now c.args.responder.now.moment in
    let read = c.read_head.ensures in
    let whole = rw c.in-Ok-Whole.field-0-is at c.in-Ok-Whole.ensures.heading in
    let taken = c.with_head.ensures.exchange in
    head_whole g.W.Wire answering c.args.last (held c.args.heads.now) (held c.read_head.new.buffer) (held c.with_head.new.heads) _ _ read.held read.gathers read.sent read.cause.later read.write_faults _ _ _ _ whole.0 taken

pub returns-in-Ok-TooLong-clause-exchange : goal.returns-in-Ok-TooLong-clause-exchange
returns-in-Ok-TooLong-clause-exchange g c =
    let answering = g.H.Handler.reply c.args.responder.now.handler.now c.args.responder.now.moment in
    let read = c.read_head.ensures in
    head_over g.W.Wire answering c.args.last (held c.args.heads.now) (held c.read_head.new.buffer) _ _ _ read.held read.gathers read.sent read.cause.later read.write_faults _ _
    (rw c.in-Ok-TooLong.field-0-is at c.in-Ok-TooLong.ensures.heading) (c.refused.ensures answering)

pub returns-in-Ok-Ended-clause-exchange : goal.returns-in-Ok-Ended-clause-exchange
returns-in-Ok-Ended-clause-exchange g c =
    let answering = g.H.Handler.reply c.args.responder.now.handler.now c.args.responder.now.moment in
    let read = c.read_head.ensures in
    let end = rw c.in-Ok-Ended.field-0-is at c.in-Ok-Ended.ensures.heading in
    head_ended g.W.Wire answering c.args.last (held c.args.heads.now) (held c.read_head.new.buffer) _ _ _ read.held read.gathers read.sent read.cause.later read.write_faults end.0 end.1

pub returns-in-Err-clause-exchange : goal.returns-in-Err-clause-exchange
returns-in-Err-clause-exchange g c =
    let answering = g.H.Handler.reply c.args.responder.now.handler.now c.args.responder.now.moment in
    let read = c.read_head.ensures in
    head_failed g.W.Wire answering c.args.last (held c.args.heads.now) (held c.read_head.new.buffer) _ _ _ read.held read.gathers read.sent read.cause.later read.write_faults c.in-Err.ensures.heading c.in-Err.ensures.cause.failed
