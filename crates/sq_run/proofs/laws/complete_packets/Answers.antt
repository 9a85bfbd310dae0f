use Rattle.sq_run.proofs.CompleteLemmas.{packets_answered}
use Rattle.sq_run.proofs.laws.complete_packets.Goals as goal

pub returns : goal.returns
returns c = packets_answered
