use Rattle.sq_engine.proofs.AlikeVerdict.{alike_give_one_verdict}
use Rattle.sq_engine.proofs.laws.alike_give_one_verdict.Goals as goal

pub returns : goal.returns
returns c = alike_give_one_verdict
