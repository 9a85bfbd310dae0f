use Rattle.sq_streams.proofs.TreeLemmas.{join_stream}
use Rattle.sq_streams.proofs.laws.joins_are_streams.Goals as goal

pub returns : goal.returns
returns c = join_stream c.least_inside.ensures c.near_splits_by_weight.ensures c.width_counts_weights.ensures c.joined_are_least.ensures c.dense_chain.ensures c.dense_near.ensures
