use Rattle.sq_least.proofs.DenseLemmas.{least_of_dense}
use Rattle.sq_least.proofs.laws.least_of_dense.Goals as goal

pub returns : goal.returns
returns c = least_of_dense
