use Rattle.sq_least.proofs.DenseLemmas.{dense_union}
use Rattle.sq_least.proofs.laws.dense_union.Goals as goal

pub returns : goal.returns
returns c = dense_union
