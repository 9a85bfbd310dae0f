use Rattle.std.proofs.Common.{rules, ◌≡◌, refl, subst, sym, ap, ◌∙◌, Result, Bool, List, ℕ, Option, Some}
use Rattle.sq_base.specs.declared.faults.Ended.{Ended}
use Rattle.sq_http.specs.Exchange.{RepliesTo}
use Rattle.sq_http.specs.Owed.{Asking}
use Rattle.sq_http.specs.Replies.{reply_text, answer_text}
use Rattle.sq_http.proofs.ExchangeLemmas.{reply_told}
use Rattle.sq_http.proofs.answer.answered.Goals as goal

pub returns-in-Ok-decimal_of : goal.returns-in-Ok-decimal_of
returns-in-Ok-decimal_of g c =
    let answering = g.H.Handler.reply c.args.responder.now.handler.now c.args.responder.now.moment in
    let one = Asking c.args.caller.now c.args.body.now c.args.closing in
    let is : answering c.args.caller.now c.args.body.now ≡ Some c.in-Ok.text.items = search rules in
    let text : reply_text 200 c.args.closing c.deref.result.now ≡ answer_text c.args.closing (answering c.args.caller.now c.args.body.now) =
    ap (λ (t : List ℕ). reply_text 200 c.args.closing t) c.deref.ensures.value ∙ ap (λ (t : Option (List ℕ)). answer_text c.args.closing t) (sym is) in
    subst (λ (r : Result Bool Ended). RepliesTo g.W.Wire answering one c.args.wire.now c.send_reply-sent.new.wire r) (sym c.told.ensures)
    (reply_told g.W.Wire answering _ _ _ one c.args.closing _ refl text c.send_reply-sent.ensures)

pub returns-in-Ok : goal.returns-in-Ok
returns-in-Ok g c = c.gave_up.ensures _ _ _ _

pub returns : goal.returns
returns g c = c.gave_up-in-Err-NoMemory.ensures _ _ _ _
