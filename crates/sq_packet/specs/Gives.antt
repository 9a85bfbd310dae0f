-- What a call answers, seen by `view`, is the outcome, unless memory ran out.
use Rattle.std.specs.Prelude.{◌≡◌, Result, Ok, Err}
use Rattle.sq_base.specs.Outcome.{Outcome}
use Rattle.sq_packet.specs.declared.fault.PacketFault.{PacketFault}
use Rattle.sq_packet.specs.declared.fault.PacketFault.TheVariants as faults

abbrev pub Fails : {Y : Type 0} → PacketFault → Outcome Y → Type 0
Fails faults.NoMemory outcome = Unit {0}
Fails (faults.Packet fault) outcome = outcome ≡ Err fault

abbrev pub Gives : {X Y : Type 0} → (X → Y) → Result X PacketFault → Outcome Y → Type 0
Gives view (Ok x) outcome = outcome ≡ Ok (view x)
Gives view (Err e) outcome = Fails e outcome
