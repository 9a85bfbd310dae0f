use Rattle.sq_schema.proofs.ReadBackLemmas.{moments_read_back}
use Rattle.sq_schema.proofs.laws.moments_read_back.Goals as goal

pub returns : goal.returns
returns c = moments_read_back
