use Rattle.sq_http.proofs.ServeLemmas.{no_buffers, no_buffers_stopped}
use Rattle.sq_http.proofs.serve.without_buffers.Goals as goal

pub returns-in-Ok : goal.returns-in-Ok
returns-in-Ok g c answering = no_buffers g.W.Wire answering _ _ _ c.in-Ok.ensures

pub returns-in-Err : goal.returns-in-Err
returns-in-Err g c answering = no_buffers_stopped g.W.Wire answering _ _ _ c.in-Err.ensures
