use Rattle.std.proofs.Common.{◌≡◌, ◌+◌, get_or, ap, subst}
use Rattle.std.proofs.lemmas.Result.{err_from_is_err_and}
use Rattle.sq_streams.specs.TreePrices.{price}
use Rattle.sq_streams.specs.TreeStreams.{IsStreamOf}
use Rattle.sq_streams.proofs.StreamLemmas.{post_left, post_rest}
use Rattle.sq_streams.proofs.TreeLoops.{seen_next, seen_err, seen_end}
use Rattle.sq_streams.proofs.TreeSteps.{without}
use Rattle.sq_streams.proofs.tree.streams_at.Goals as goal

pub returns-in_err-stream-clause-cost : goal.returns-in_err-stream-clause-cost
returns-in_err-stream-clause-cost g c =
    let refused = err_from_is_err_and c.from_residual.result c.from_residual.ensures.1 in
    rw refused.1 (seen_err post_left post_rest c.args.index.now (λ corpus. IsStreamOf corpus c.args.look c.args.tree.now) (λ corpus. price corpus c.args.look c.args.tree.now) c.loop-weight._weight-index c.args.weights.now c.loop-weight.streams.items c.args.steps.now c.loop-weight.steps c.stream_of.new.steps
    c.weight_at.result c.loop-weight-test.true (subst (λ k. c.weight_at.result ≡ get_or c.args.weights.now k c.weight_at.result) c.loop-weight.invariant.at c.weight_at.ensures) c.in_err-stream.ensures.cost c.loop-weight.invariant.seen)

pub returns-in_err-push_stream-clause-cost : goal.returns-in_err-push_stream-clause-cost
returns-in_err-push_stream-clause-cost g c =
    let refused = err_from_is_err_and c.from_residual-in_err-push_stream.result c.from_residual-in_err-push_stream.ensures.1 in
    rw refused.1 (seen_err post_left post_rest c.args.index.now (λ corpus. IsStreamOf corpus c.args.look c.args.tree.now) (λ corpus. price corpus c.args.look c.args.tree.now) c.loop-weight._weight-index c.args.weights.now c.loop-weight.streams.items c.args.steps.now c.loop-weight.steps c.stream_of.new.steps
    c.weight_at.result c.loop-weight-test.true (subst (λ k. c.weight_at.result ≡ get_or c.args.weights.now k c.weight_at.result) c.loop-weight.invariant.at c.weight_at.ensures) (λ corpus valid stands. without _ _ _ (c.in_ok-stream.ensures.cost corpus valid stands)) c.loop-weight.invariant.seen)

pub loop-weight-preserved : goal.loop-weight-preserved
loop-weight-preserved g c = record {
  at = ap (λ n. n + 1) c.loop-weight.invariant.at;
  seen = seen_next post_left post_rest c.args.index.now (λ corpus. IsStreamOf corpus c.args.look c.args.tree.now) (λ corpus. price corpus c.args.look c.args.tree.now) c.loop-weight._weight-index c.args.weights.now c.loop-weight.streams.items c.push_stream.new.streams.items c.args.steps.now c.loop-weight.steps c.stream_of.new.steps
      c.weight_at.result c.in_ok-stream.stream.value c.loop-weight-test.true (subst (λ k. c.weight_at.result ≡ get_or c.args.weights.now k c.weight_at.result) c.loop-weight.invariant.at c.weight_at.ensures) c.in_ok-stream.ensures.left c.in_ok-stream.ensures.cost c.in_ok-push_stream.ensures c.loop-weight.invariant.seen;
}

pub returns-clause-left : goal.returns-clause-left
returns-clause-left g c = λ corpus valid stands.
    (seen_end post_left post_rest c.args.index.now (λ corpus. IsStreamOf corpus c.args.look c.args.tree.now) (λ corpus. price corpus c.args.look c.args.tree.now) c.loop-weight._weight-index c.args.weights.now c.loop-weight.streams.items c.args.steps.now c.loop-weight.steps c.loop-weight-test.false c.loop-weight.invariant.seen corpus valid stands).0
