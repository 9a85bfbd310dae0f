use Rattle.sq_engine.proofs.AlikePrice.{alike_cost_alike}
use Rattle.sq_engine.proofs.laws.alike_cost_alike.Goals as goal

pub returns : goal.returns
returns c = alike_cost_alike
