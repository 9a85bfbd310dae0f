use Rattle.sq_stored.proofs.LawLemmas.{values_stand}
use Rattle.sq_stored.proofs.laws.stored_values_stand.Goals as goal

pub returns : goal.returns
returns c = values_stand
