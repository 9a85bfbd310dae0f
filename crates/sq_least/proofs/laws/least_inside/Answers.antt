use Rattle.sq_least.proofs.LeastNear.{least_inside}
use Rattle.sq_least.proofs.laws.least_inside.Goals as goal

pub returns : goal.returns
returns c = least_inside
