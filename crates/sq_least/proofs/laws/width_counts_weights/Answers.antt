use Rattle.sq_least.proofs.WidthLemmas.{width_counts_weights}
use Rattle.sq_least.proofs.laws.width_counts_weights.Goals as goal

pub returns : goal.returns
returns c = width_counts_weights
