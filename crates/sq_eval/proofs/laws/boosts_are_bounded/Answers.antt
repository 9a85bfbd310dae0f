use Rattle.sq_eval.proofs.BoundLemmas.{boosts_are_bounded}
use Rattle.sq_eval.proofs.laws.boosts_are_bounded.Goals as goal

pub returns : goal.returns
returns c = boosts_are_bounded
