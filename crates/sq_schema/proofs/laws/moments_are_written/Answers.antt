use Rattle.sq_schema.proofs.MomentTextLemmas.{moments_are_written}
use Rattle.sq_schema.proofs.laws.moments_are_written.Goals as goal

pub returns : goal.returns
returns c = moments_are_written
