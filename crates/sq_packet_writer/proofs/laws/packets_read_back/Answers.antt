use Rattle.sq_packet_writer.proofs.BackLemmas.{reads_back}
use Rattle.sq_packet_writer.proofs.laws.packets_read_back.Goals as goal

pub returns : goal.returns
returns c = reads_back c.numbers_read_back.ensures
