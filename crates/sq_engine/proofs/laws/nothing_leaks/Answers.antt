use Rattle.sq_engine.proofs.LeakLemmas.{nothing_leaks}
use Rattle.sq_engine.proofs.laws.nothing_leaks.Goals as goal

pub returns : goal.returns
returns c = nothing_leaks
