use Rattle.sq_kql.proofs.OrderLemmas.{order_spells}
use Rattle.sq_kql.proofs.laws.spells_the_read.Goals as goal

pub returns : goal.returns
returns c = order_spells
