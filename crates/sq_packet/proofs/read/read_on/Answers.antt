use Rattle.std.proofs.Common.{◌∙◌, Err, sym, ap}
use Rattle.std.proofs.lemmas.Result.{err_from_is_err_and}
use Rattle.sq_packet.specs.Readings.{state_of}
use Rattle.sq_packet.proofs.TurnLemmas.{read_done, read_goes, read_fails, read_over}
use Rattle.sq_packet.proofs.read.read_on.Goals as goal

pub returns-then-is_done : goal.returns-then-is_done
returns-then-is_done c =
    read_done _ _ (state_of c.turns.reading) _ c.turns-test.true (sym c.is_done.ensures ∙ c.if-is_done.true) c.turns.invariant

pub returns-in_err-reading : goal.returns-in_err-reading
returns-in_err-reading c =
    let refused = err_from_is_err_and c.from_residual.result c.from_residual.ensures.1 in
    rw (refused.1, refused.2)
    (read_fails _ _ _ (state_of c.turns.reading) _ c.turns-test.true (sym c.is_done.ensures ∙ c.if-is_done.false) c.in_err-reading.ensures c.turns.invariant)

pub turns-preserved : goal.turns-preserved
turns-preserved c =
    read_goes _ _ (state_of c.turns.reading) (state_of c.in_ok-reading.reading) _ c.turns-test.true (sym c.is_done.ensures ∙ c.if-is_done.false) c.in_ok-reading.ensures
    c.turns.invariant

pub returns : goal.returns
returns c = read_over _ _ (state_of c.turns.reading) _ c.turns-test.false c.turns.invariant ∙ sym (ap Err c.misfit.ensures)
