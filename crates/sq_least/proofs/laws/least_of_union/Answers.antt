use Rattle.sq_least.proofs.LeastUnion.{least_of_union}
use Rattle.sq_least.proofs.laws.least_of_union.Goals as goal

pub returns : goal.returns
returns c = least_of_union
