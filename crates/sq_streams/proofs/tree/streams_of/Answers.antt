use Rattle.std.proofs.Common.{◌+◌, ◌∙◌}
use Rattle.std.specs.Prelude.{sum_by}
use Rattle.std.proofs.lemmas.Result.{err_from_is_err_and}
use Rattle.sq_near.specs.Streams.{stream_rest}
use Rattle.sq_streams.proofs.StreamLemmas.{post_rest}
use Rattle.sq_streams.proofs.TreeSteps.{copies_price}
use Rattle.sq_streams.proofs.tree.streams_of.Goals as goal

pub returns-in_err-streams-clause-cost : goal.returns-in_err-streams-clause-cost
returns-in_err-streams-clause-cost g c =
    let refused = err_from_is_err_and c.from_residual-in_err-streams.result c.from_residual-in_err-streams.ensures.1 in
    rw refused.1 (copies_price c.args.index.now c.args.look c.price_of_weights.ensures c.args.tree.now c.as_slice.result.now c.args.steps.now c.streams_at.new.steps
    (c.as_slice.ensures.value ∙ c.in_ok-weights.ensures) c.in_err-streams.ensures.cost)

pub returns-clause-cost : goal.returns-clause-cost
returns-clause-cost g c =
    copies_price c.args.index.now c.args.look c.price_of_weights.ensures c.args.tree.now c.as_slice.result.now c.args.steps.now
    (c.streams_at.new.steps + sum_by (stream_rest post_rest) c.in_ok-streams.streams.items) (c.as_slice.ensures.value ∙ c.in_ok-weights.ensures) c.in_ok-streams.ensures.cost
