use Rattle.sq_http.proofs.ExchangeLemmas.{gave_up_sent, gave_up_stopped}
use Rattle.sq_http.proofs.answer.gave_up.Goals as goal

pub returns-in-Ok : goal.returns-in-Ok
returns-in-Ok g c answering caller body closing = gave_up_sent g.W.Wire answering _ _ caller body closing _ c.in-Ok.ensures

pub returns-in-Err : goal.returns-in-Err
returns-in-Err g c answering caller body closing = gave_up_stopped g.W.Wire answering _ _ caller body closing _ c.in-Err.ensures
