use Rattle.sq_near.proofs.LawLemmas.{merged_are_least}
use Rattle.sq_near.proofs.laws.merged_are_least.Goals as goal

pub returns : goal.returns
returns c = merged_are_least
