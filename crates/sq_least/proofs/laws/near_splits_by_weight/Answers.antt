use Rattle.sq_least.proofs.WeightsSplit.{near_splits_by_weight}
use Rattle.sq_least.proofs.laws.near_splits_by_weight.Goals as goal

pub returns : goal.returns
returns c = near_splits_by_weight
