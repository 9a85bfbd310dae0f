-- What is written and read again.
use Rattle.std.specs.Prelude.{◌≡◌, ℕ, List, Ok}
use Rattle.sq_packet.specs.declared.request.Request.{Request}
use Rattle.sq_packet.specs.Packet.{packet_of}
use Rattle.sq_packet_writer.specs.PacketText.{packet_text}
use Rattle.sq_packet_writer.specs.Writable.{IsWritable}

-- the packet of a request is read as that request
abbrev pub ReadsBack : Type 0
ReadsBack = (request : Request) → IsWritable request → packet_of (packet_text request) ≡ Ok request

-- a request that is read has a packet
abbrev pub ReadsAreWritable : Type 0
ReadsAreWritable = (bytes : List ℕ) (request : Request) → packet_of bytes ≡ Ok request → IsWritable request
