use Rattle.std.proofs.Common.{◌+◌, subst, sym}
use Rattle.std.proofs.lemmas.Result.{err_from_is_err_and}
use Rattle.sq_model.specs.declared.fql.SpanTree.{Leaf}
use Rattle.sq_near.specs.Streams.{stream_left, stream_rest}
use Rattle.sq_streams.specs.TreePrices.{IsWithinPrice}
use Rattle.sq_streams.specs.TreeStreams.{IsStreamFor}
use Rattle.sq_streams.proofs.StreamLemmas.{post_left, post_rest}
use Rattle.sq_streams.proofs.TreeSteps.{price_less}
use Rattle.sq_streams.proofs.tree.boxed_leaf.Goals as goal

pub returns-in_err-own-clause-cost : goal.returns-in_err-own-clause-cost
returns-in_err-own-clause-cost g c =
    let refused = err_from_is_err_and c.from_residual-in_err-own.result c.from_residual-in_err-own.ensures.1 in
    rw refused.1 (price_less c.args.index.now c.args.look (Leaf c.args.leaf.now) c.args.v c.args.steps.now c.leaf_at.new.steps (stream_rest post_rest c.in_ok-stream.stream) c.in_ok-stream.ensures.cost)

pub returns-clause-left : goal.returns-clause-left
returns-clause-left g c =
    subst (λ stream. IsStreamFor c.args.index.now c.args.look (Leaf c.args.leaf.now) c.args.v (stream_left post_left stream)) (sym c.in_ok-own.ensures.ok) c.in_ok-stream.ensures.left

pub returns-clause-cost : goal.returns-clause-cost
returns-clause-cost g c =
    subst (λ stream. IsWithinPrice c.args.index.now c.args.look (Leaf c.args.leaf.now) c.args.v c.args.steps.now (c.leaf_at.new.steps + stream_rest post_rest stream)) (sym c.in_ok-own.ensures.ok) c.in_ok-stream.ensures.cost
