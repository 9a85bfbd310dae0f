use Rattle.sq_kql.proofs.UniqueLemmas.{spells_read}
use Rattle.sq_kql.proofs.laws.spells_no_other.Goals as goal

pub returns : goal.returns
returns c = spells_read
