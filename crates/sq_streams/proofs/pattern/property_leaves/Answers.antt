use Rattle.std.proofs.Common.{arith, ap, sum_by}
use Rattle.std.proofs.lemmas.Result.{err_from_is_err_and}
use Rattle.sq_near.specs.Streams.{stream_left, stream_rest}
use Rattle.sq_streams.proofs.StreamLemmas.{post_left, post_rest, one_property, one_count}
use Rattle.sq_streams.proofs.pattern.property_leaves.Goals as goal

pub returns-clause-left : goal.returns-clause-left
returns-clause-left g c =
    one_property (stream_left post_left) c.args.index.now c.args.token.now c.args.prefixed c.args.property c.add_leaves.new.leaves.items c.new-leaves.result.items c.new-leaves.ensures.items c.in_ok-add_leaves.ensures.left

pub returns-clause-cost : goal.returns-clause-cost
returns-clause-cost g c = λ corpus stands.
    omega (arith, c.in_ok-add_leaves.ensures.cost corpus stands, ap (sum_by (stream_rest post_rest)) c.new-leaves.ensures.items, one_count c.args.token.now c.args.prefixed c.args.property corpus)

pub returns-in_err-add_leaves-clause-cost : goal.returns-in_err-add_leaves-clause-cost
returns-in_err-add_leaves-clause-cost g c =
    let refused = err_from_is_err_and c.from_residual.result c.from_residual.ensures.1 in
    rw refused.1 (λ corpus stands.
    omega (arith, c.in_err-add_leaves.ensures.cost corpus stands, ap (sum_by (stream_rest post_rest)) c.new-leaves.ensures.items, one_count c.args.token.now c.args.prefixed c.args.property corpus))
