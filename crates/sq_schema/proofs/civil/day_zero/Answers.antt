use Rattle.sq_schema.proofs.CivilLemmas.{day_zero}
use Rattle.sq_schema.proofs.civil.day_zero.Goals as goal

pub returns : goal.returns
returns c = day_zero c.date.result c.date.ensures
