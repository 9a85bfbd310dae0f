use Rattle.sq_streams.proofs.PriceLemmas.{price_of_weights}
use Rattle.sq_streams.proofs.laws.price_of_weights.Goals as goal

pub returns : goal.returns
returns c = price_of_weights
