use Rattle.std.proofs.Common.{refl, subst, sym, Result, Bool}
use Rattle.sq_base.specs.declared.faults.Ended.{Ended}
use Rattle.sq_http.specs.Exchange.{RepliesTo}
use Rattle.sq_http.specs.Owed.{Refusal}
use Rattle.sq_http.proofs.ExchangeLemmas.{reply_told}
use Rattle.sq_http.proofs.answer.refused.Goals as goal

pub returns : goal.returns
returns g c answering =
    subst (λ (r : Result Bool Ended). RepliesTo g.W.Wire answering (Refusal c.args.status c.args.closing) c.args.wire.now c.refuse-sent.new.wire r)
    (sym c.told.ensures) (reply_told g.W.Wire answering _ _ _ (Refusal c.args.status c.args.closing) c.args.closing _ refl refl c.refuse-sent.ensures)
