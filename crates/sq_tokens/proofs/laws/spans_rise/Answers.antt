use Rattle.sq_tokens.proofs.RisingLemmas.{spans_rise}
use Rattle.sq_tokens.proofs.laws.spans_rise.Goals as goal

pub returns : goal.returns
returns c = spans_rise
