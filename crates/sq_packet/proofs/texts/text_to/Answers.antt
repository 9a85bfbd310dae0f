use Rattle.std.proofs.Common.{◌∙◌, Err, sym, ap}
use Rattle.std.proofs.lemmas.Result.{err_from_is_err_and}
use Rattle.sq_packet.proofs.TurnLemmas.{text_fails, text_ends, text_goes, text_over}
use Rattle.sq_packet.proofs.texts.text_to.Goals as goal

pub returns-in_err-next : goal.returns-in_err-next
returns-in_err-next c =
    let refused = err_from_is_err_and c.from_residual.result c.from_residual.ensures.1 in
    rw (refused.1, refused.2) (text_fails _ _ _ _ _ _ _ c.text-test.true c.in_err-next.ensures c.text.invariant)

pub returns-in_default : goal.returns-in_default
returns-in_default c =
    text_ends _ _ _ _ _ _ c.text-test.true (rw c.in_default.is at c.in_ok-next.ensures) c.text.invariant

pub text-preserved : goal.text-preserved
text-preserved c =
    rw c.in_ok-push.ensures.items
    (text_goes _ _ _ _ _ c.in-Some.next.0 c.in-Some.next.1.now _ c.text-test.true (rw c.in-Some.is at c.in_ok-next.ensures) c.text.invariant)

pub returns : goal.returns
returns c = text_over _ _ _ _ _ _ c.text-test.false c.text.invariant ∙ sym (ap Err c.misfit.ensures)
