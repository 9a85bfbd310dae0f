use Rattle.sq_least.proofs.DenseLemmas.{dense_near}
use Rattle.sq_least.proofs.laws.dense_near.Goals as goal

pub returns : goal.returns
returns c = dense_near
