use Rattle.sq_engine.proofs.VerdictLemmas.{unknown_are_unnamed}
use Rattle.sq_engine.proofs.laws.unknown_are_unnamed.Goals as goal

pub returns : goal.returns
returns c = unknown_are_unnamed
