use Rattle.sq_corpus.proofs.OrderLemmas.{values_kept}
use Rattle.sq_corpus.proofs.laws.values_are_kept.Goals as goal

pub returns : goal.returns
returns c = values_kept
