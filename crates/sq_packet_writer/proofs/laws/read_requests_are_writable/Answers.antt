use Rattle.sq_packet_writer.proofs.WritableLemmas.{reads_writable}
use Rattle.sq_packet_writer.proofs.laws.read_requests_are_writable.Goals as goal

pub returns : goal.returns
returns c = reads_writable
