use Rattle.sq_streams.proofs.TreeLemmas.{union_stream}
use Rattle.sq_streams.proofs.laws.unions_are_streams.Goals as goal

pub returns : goal.returns
returns c = union_stream c.least_inside.ensures c.merged_are_least.ensures c.dense_chain.ensures c.dense_union.ensures
