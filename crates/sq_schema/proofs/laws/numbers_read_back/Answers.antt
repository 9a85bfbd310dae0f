use Rattle.sq_schema.proofs.NumberLemmas.{numbers_read_back}
use Rattle.sq_schema.proofs.laws.numbers_read_back.Goals as goal

pub returns : goal.returns
returns c = numbers_read_back
