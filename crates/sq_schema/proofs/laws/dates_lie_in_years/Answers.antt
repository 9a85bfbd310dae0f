use Rattle.sq_schema.proofs.YearLemmas.{interval_of-within}
use Rattle.sq_schema.proofs.laws.dates_lie_in_years.Goals as goal

pub returns : goal.returns
returns c = interval_of-within
