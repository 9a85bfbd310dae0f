use Rattle.sq_model.proofs.ValidLemmas.{values_are_shown}
use Rattle.sq_model.proofs.laws.values_are_shown.Goals as goal

pub returns : goal.returns
returns c = values_are_shown
