use Rattle.sq_least.proofs.PlanLaw.{least_by_weight}
use Rattle.sq_least.proofs.laws.least_by_weight.Goals as goal

pub returns : goal.returns
returns c = least_by_weight
