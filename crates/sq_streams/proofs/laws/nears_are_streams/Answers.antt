use Rattle.sq_streams.proofs.TreeLemmas.{near_stream}
use Rattle.sq_streams.proofs.laws.nears_are_streams.Goals as goal

pub returns : goal.returns
returns c = near_stream c.least_inside.ensures c.merged_are_least.ensures c.dense_chain.ensures c.dense_union.ensures c.dense_sums.ensures c.weights_of_matches.ensures
