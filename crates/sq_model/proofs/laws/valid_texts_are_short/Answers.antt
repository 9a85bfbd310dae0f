use Rattle.sq_model.proofs.ValidLemmas.{valid_texts_are_short}
use Rattle.sq_model.proofs.laws.valid_texts_are_short.Goals as goal

pub returns : goal.returns
returns c = valid_texts_are_short
