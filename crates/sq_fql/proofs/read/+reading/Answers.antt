use Rattle.std.proofs.Common.{◌∙◌, sym, ap, arith}
use Rattle.std.proofs.lemmas.Result.{err_from_is_err_and}
use Rattle.sq_fql.specs.Operators.{operator_of}
use Rattle.sq_fql.proofs.ListLemmas.{lists_on, lists_end, lists_unseparated, lists_fails, scope_too_deep, scope_fails, scope_read, list_too_deep, list_fails, list_incomplete, list_read}
use Rattle.sq_fql.proofs.read.+reading.Goals as goal

pub applied-returns-then-levels-eq0-clause-value : goal.applied-returns-then-levels-eq0-clause-value
applied-returns-then-levels-eq0-clause-value t c =
    list_too_deep _ _ _ _ c.args.lexemes.now _ c.in-Some.operator (ap operator_of (sym c.word_bytes.ensures) ∙ sym c.in-Some.ensures) _ _ c.if-levels-eq0.true c.first_at.ensures
    c.refused-then-levels-eq0.ensures

pub applied-returns-in_err-found-clause-value : goal.applied-returns-in_err-found-clause-value
applied-returns-in_err-found-clause-value t c =
    let refused = err_from_is_err_and c.from_residual.result c.from_residual.ensures.1 in
    rw (refused.1, refused.2)
    (list_fails _ _ _ _ _ _ c.in-Some.operator (ap operator_of (sym c.word_bytes.ensures) ∙ sym c.in-Some.ensures) _ c.if-levels-eq0.false c.behind.ensures.value c.in_err-found.ensures.value)

pub applied-returns-in_err-op-clause-value : goal.applied-returns-in_err-op-clause-value
applied-returns-in_err-op-clause-value t c =
    let refused = err_from_is_err_and c.from_residual-in_err-op.result c.from_residual-in_err-op.ensures.1 in
    rw (refused.1, refused.2)
    (list_incomplete _ _ _ _ _ _ c.in-Some.operator (ap operator_of (sym c.word_bytes.ensures) ∙ sym c.in-Some.ensures) c.in_ok-found.found c.in_ok-found.at _ c.if-levels-eq0.false
    c.behind.ensures.value c.in_ok-found.ensures.value _ (sym c.in_err-op.ensures))

pub applied-returns-clause-value : goal.applied-returns-clause-value
applied-returns-clause-value t c =
    list_read _ _ _ _ _ _ c.in-Some.operator (ap operator_of (sym c.word_bytes.ensures) ∙ sym c.in-Some.ensures) c.in_ok-found.found c.in_ok-found.at _ c.if-levels-eq0.false
    c.behind.ensures.value c.in_ok-found.ensures.value _ (sym c.in_ok-op.ensures)

pub entries-returns-in_err-now-clause-value : goal.entries-returns-in_err-now-clause-value
entries-returns-in_err-now-clause-value t c =
    let refused = err_from_is_err_and c.from_residual.result c.from_residual.ensures.1 in
    rw (refused.1, refused.2) (lists_fails _ _ _ _ _ _ _ c.list.invariant.0 c.in_err-now.ensures.value)

pub entries-returns-in_err-end-clause-value : goal.entries-returns-in_err-end-clause-value
entries-returns-in_err-end-clause-value t c =
    let refused = err_from_is_err_and c.from_residual-in_err-end.result c.from_residual-in_err-end.ensures.1 in
    rw (refused.1, refused.2) (lists_unseparated _ _ _ _ _ _ _ _ _ c.list.invariant.0 c.in_ok-now.ensures.value (sym c.in_err-end.ensures.value))

pub entries-returns-in-Some-clause-value : goal.entries-returns-in-Some-clause-value
entries-returns-in-Some-clause-value t c =
    rw c.behind-left.ensures.value
    (lists_end _ _ _ _ _ _ _ _ c.in-Some.at c.list.invariant.0 c.in_ok-now.ensures.value (cc (c.in_ok-end.ensures.value, c.in-Some.is)))

pub entries-list-preserved : goal.entries-list-preserved
entries-list-preserved t c =
    let len = c.behind-left.ensures.len in
    let shorter = c.in_ok-now.ensures.shorter in
    let value = c.behind-left.ensures.value in (
      rw value (lists_on _ _ _ _ _ _ _ _ c.list.invariant.0 c.in_ok-now.ensures.value (cc (c.in_ok-end.ensures.value, c.in-None.is)) (rw (← value) (omega (arith, len, shorter)))),
      c.behind-left.ensures.whole c.args.text.now c.in_ok-now.ensures.whole,
      omega (arith, len, shorter, c.list.invariant.2),
    )

pub scoped-returns-then-levels-eq0-clause-value : goal.scoped-returns-then-levels-eq0-clause-value
scoped-returns-then-levels-eq0-clause-value t c = scope_too_deep _ _ _ _ c.args.lexemes.now _ _ c.if-levels-eq0.true c.first_at.ensures c.refused.ensures

pub scoped-returns-in_err-tree-clause-value : goal.scoped-returns-in_err-tree-clause-value
scoped-returns-in_err-tree-clause-value t c =
    let refused = err_from_is_err_and c.from_residual.result c.from_residual.ensures.1 in
    rw (refused.1, refused.2) (scope_fails _ _ _ _ _ _ c.if-levels-eq0.false c.behind.ensures.value c.in_err-tree.ensures.value)

pub scoped-returns-clause-value : goal.scoped-returns-clause-value
scoped-returns-clause-value t c =
    rw c.in_ok-inner.ensures (scope_read _ _ _ _ _ c.in_ok-tree.tree _ _ c.if-levels-eq0.false c.behind.ensures.value c.in_ok-tree.ensures.value c.in_ok-name.ensures)
