use Rattle.std.proofs.Common.{◌+◌, ◌≤◌, ap, subst, sym, ◌∙◌}
use Rattle.std.proofs.lemmas.Result.{err_from_is_err_and}
use Rattle.std.specs.Prelude.{sum_by}
use Rattle.sq_near.specs.Streams.{stream_left, stream_rest}
use Rattle.sq_streams.proofs.TreeSteps.{without}
use Rattle.sq_streams.proofs.tree.boxed_join.Goals as goal

pub returns-in_err-own-clause-cost : goal.returns-in_err-own-clause-cost
returns-in_err-own-clause-cost g c =
    let refused = err_from_is_err_and c.from_residual-in_err-own.result c.from_residual-in_err-own.ensures.1 in
    rw refused.1 (without c.join_of.new.steps (stream_rest g.C.SpanCursor.rest c.in_ok-stream.stream) (c.args.steps.now + sum_by (stream_rest g.C.SpanCursor.rest) c.args.parts.items) c.in_ok-stream.ensures.cost)

pub returns-clause-left : goal.returns-clause-left
returns-clause-left g c = ap (stream_left g.C.SpanCursor.left) c.in_ok-own.ensures.ok ∙ c.in_ok-stream.ensures.left

pub returns-clause-cost : goal.returns-clause-cost
returns-clause-cost g c =
    subst (λ stream. c.join_of.new.steps + stream_rest g.C.SpanCursor.rest stream ≤ c.args.steps.now + sum_by (stream_rest g.C.SpanCursor.rest) c.args.parts.items)
    (sym c.in_ok-own.ensures.ok) c.in_ok-stream.ensures.cost
