use Rattle.std.proofs.Common.{◌∙◌, List, Ok, Err, sym, ap}
use Rattle.std.proofs.lemmas.Result.{err_from_is_err_and}
use Rattle.sq_packet.specs.declared.mark.Mark.{Mark}
use Rattle.sq_packet.proofs.TurnLemmas.{attributes_fails, attributes_refuses, attributes_ends, attributes_goes, attributes_over}
use Rattle.sq_packet.proofs.attributes.attributes.Goals as goal

pub returns-in_err-next : goal.returns-in_err-next
returns-in_err-next c =
    let refused = err_from_is_err_and c.from_residual.result c.from_residual.ensures.1 in
    rw (refused.1, refused.2) (attributes_fails _ _ _ _ _ _ _ _ c.attributes-test.true (rw c.as_slice.ensures.value at c.in_err-next.ensures) c.attributes.invariant)

pub returns-in_default : goal.returns-in_default
returns-in_default c =
    attributes_ends _ _ _ _ _ _ _ c.attributes-test.true (rw (c.in_default.is, c.as_slice.ensures.value) at c.in_ok-next.ensures) c.attributes.invariant
    ∙ ap (λ (ms : List Mark). Ok (c.attributes.tag, ms)) (sym c.skip_blanks.ensures)

pub returns-in_err-tag : goal.returns-in_err-tag
returns-in_err-tag c =
    let refused = err_from_is_err_and c.from_residual-in_err-tag.result c.from_residual-in_err-tag.ensures.1 in
    rw (refused.1, refused.2)
    (attributes_refuses _ _ _ _ _ _ c.in-Some.next.0 c.in-Some.next.1.now _ _ c.attributes-test.true (rw (c.in-Some.is, c.as_slice.ensures.value) at c.in_ok-next.ensures)
    (sym (rw c.as_str.ensures at c.in_err-tag.ensures)) c.attributes.invariant)

pub attributes-preserved : goal.attributes-preserved
attributes-preserved c =
    rw c.in_ok-push.ensures.items
    (attributes_goes _ _ _ _ _ _ _ c.in-Some.next.0 c.in-Some.next.1.now _ c.attributes-test.true (rw (c.in-Some.is, c.as_slice.ensures.value) at c.in_ok-next.ensures)
    (sym (rw c.as_str.ensures at c.in_ok-tag.ensures)) c.attributes.invariant)

pub returns : goal.returns
returns c = attributes_over _ _ _ _ _ _ _ c.attributes-test.false c.attributes.invariant ∙ sym (ap Err c.misfit.ensures)
