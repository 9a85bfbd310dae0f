use Rattle.sq_schema.proofs.CivilLemmas.{moment_zero}
use Rattle.sq_schema.proofs.civil.moment_zero.Goals as goal

pub returns : goal.returns
returns c = moment_zero c.datetime.result c.datetime.ensures.date c.datetime.ensures.time
