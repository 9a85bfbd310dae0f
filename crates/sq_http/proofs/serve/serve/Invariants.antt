use Rattle.std.proofs.Common.{◌≡◌, ◌<◌}
use Rattle.sq_http.specs.Gathers.{held, room}
use Rattle.sq_http.proofs.ServeLemmas.{Stands}
use Rattle.sq_http.proofs.serve.serve.Given as goal

abbrev pub invariant-requests : goal.invariant-requests
invariant-requests g l = record {
  some : 0 < l.left;
  heads : room l.heads ≡ 8193;
  bodies : room l.bodies ≡ 131072;
  stands : Stands g.W.Wire (g.H.Handler.reply l.responder.handler.now l.responder.moment) l.left (held l.heads) l.fn.wire l.wire;
}

abbrev pub decreases-requests : goal.decreases-requests
decreases-requests g l = l.left
