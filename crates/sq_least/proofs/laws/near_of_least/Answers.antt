use Rattle.sq_least.proofs.LeastNear.{near_of_least}
use Rattle.sq_least.proofs.laws.near_of_least.Goals as goal

pub returns : goal.returns
returns c = near_of_least
