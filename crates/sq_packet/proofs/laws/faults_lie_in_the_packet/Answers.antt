use Rattle.sq_packet.proofs.AskedLemmas.{faults_lie}
use Rattle.sq_packet.proofs.laws.faults_lie_in_the_packet.Goals as goal

pub returns : goal.returns
returns c = faults_lie
