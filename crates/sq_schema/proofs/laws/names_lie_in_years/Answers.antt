use Rattle.sq_schema.proofs.NameYearLemmas.{names_in_years}
use Rattle.sq_schema.proofs.laws.names_lie_in_years.Goals as goal

pub returns : goal.returns
returns c = names_in_years
