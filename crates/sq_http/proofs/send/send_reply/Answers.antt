use Rattle.std.proofs.Common.{List, ℕ, subst}
use Rattle.sq_http.specs.Puts.{Puts}
use Rattle.sq_http.proofs.PutsLemmas.{reply_parts}
use Rattle.sq_http.proofs.send.send_reply.Goals as goal

pub returns : goal.returns
returns g c = subst (λ (t : List ℕ). Puts g.W.Wire t c.args.wire.now c.send_parts.new.wire c.send_parts.result)
    (reply_parts c.args.status c.args.closing _ _ _ _ _ _ _ c.digits_of.ensures c.reason_of.ensures c.kind_of.ensures c.requires c.allowed_of.ensures c.close_of.ensures) c.send_parts.ensures
