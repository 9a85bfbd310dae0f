-- What is known of every fault of a packet.
use Rattle.std.specs.Prelude.{◌≡◌, ℕ, ◌≤◌, List, length, Err}
use Rattle.sq_base.specs.declared.faults.QueryFault.{QueryFault}
use Rattle.sq_packet.specs.Packet.{packet_of}

-- a fault stands in the packet or at its end
abbrev pub FaultsLie : Type 0
FaultsLie = (bytes : List ℕ) (fault : QueryFault) → packet_of bytes ≡ Err fault → fault.at ≤ length bytes
