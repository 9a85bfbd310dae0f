use Rattle.sq_least.proofs.PlanLaw.{weights_of_matches}
use Rattle.sq_least.proofs.laws.weights_of_matches.Goals as goal

pub returns : goal.returns
returns c = weights_of_matches
