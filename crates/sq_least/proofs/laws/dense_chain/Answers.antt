use Rattle.sq_least.proofs.DenseLemmas.{dense_chain}
use Rattle.sq_least.proofs.laws.dense_chain.Goals as goal

pub returns : goal.returns
returns c = dense_chain
