use Rattle.sq_least.proofs.PlanLaw.{dense_sums}
use Rattle.sq_least.proofs.laws.dense_sums.Goals as goal

pub returns : goal.returns
returns c = dense_sums
