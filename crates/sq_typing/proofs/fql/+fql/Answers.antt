use Rattle.std.proofs.Common.{map, ap, sym, ◌∙◌}
use Rattle.sq_typing.specs.FqlPlaces.{entered}
use Rattle.sq_typing.specs.Fql.{combined_all, typed_at}
use Rattle.sq_typing.specs.Together.{all_of}
use Rattle.sq_typing.proofs.FqlEquations.{typed_apply, applied_to_all, scope_typed, scope_refused}
use Rattle.sq_typing.proofs.TogetherLemmas.{step}
use Rattle.sq_typing.proofs.fql.+fql.Goals as goal

pub typed-returns-in_ok-all-in-Apply : goal.typed-returns-in_ok-all-in-Apply
typed-returns-in_ok-all-in-Apply t c =
    let here = typed_at c.args.schema.now c.args.place in
    c.in_ok-all-in-Apply.ensures
    ∙ (ap (combined_all c.in-Apply.op) (c.in_ok-parts-in-Apply.ensures ∙ ap (λ os. all_of (map here os)) c.as_slice.ensures)
    ∙ (sym (applied_to_all c.args.schema.now c.args.place c.in-Apply.at c.in-Apply.op c.in-Apply.operands (map here c.in-Apply.operands) (sym c.is_for_all.ensures ∙ c.if-is_for_all.true))
    ∙ (sym (typed_apply c.args.schema.now c.args.place c.in-Apply.at c.in-Apply.op c.in-Apply.operands) ∙ ap here (sym c.in-Apply.is))))

pub typed_each-loop-part-preserved : goal.typed_each-loop-part-preserved
typed_each-loop-part-preserved t c =
    step (typed_at c.args.schema.now c.args.place) c.args.parts.now c.loop-part.part-index c.part-item.result c.loop-part.trees c.in_ok-next.next c.in_ok-trees.trees _
    c.loop-part-test.true c.part-item.is c.in_ok-next.ensures c.in_ok-trees.ensures c.loop-part.invariant

pub typed-returns-in_ok-scoped-in-Ok : goal.typed-returns-in_ok-scoped-in-Ok
typed-returns-in_ok-scoped-in-Ok t c =
    let schema = c.args.schema.now in
    let known = ap (entered schema c.args.place c.in-Scope.at) (sym c.as_str.ensures) ∙ (sym c.entered.ensures ∙ c.in-Ok.is) in
    c.in_ok-scoped-in-Ok.ensures
    ∙ (ap (typed_at schema c.in-Ok.inside) c.get.ensures
    ∙ (sym (scope_typed schema c.args.place c.in-Ok.inside c.in-Scope.at c.in-Scope.name c.in-Scope.inner known) ∙ ap (typed_at schema c.args.place) (sym c.in-Scope.is)))

pub typed-returns-in-Err : goal.typed-returns-in-Err
typed-returns-in-Err t c =
    let schema = c.args.schema.now in
    let shut = ap (entered schema c.args.place c.in-Scope.at) (sym c.as_str.ensures) ∙ (sym c.entered.ensures ∙ c.in-Err.is) in
    sym (scope_refused schema c.args.place c.in-Scope.at c.in-Scope.name c.in-Scope.inner c.in-Err.fault shut) ∙ ap (typed_at schema c.args.place) (sym c.in-Scope.is)
