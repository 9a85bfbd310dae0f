use Rattle.sq_near.proofs.LawLemmas.{joined_are_least}
use Rattle.sq_near.proofs.laws.joined_are_least.Goals as goal

pub returns : goal.returns
returns c = joined_are_least
