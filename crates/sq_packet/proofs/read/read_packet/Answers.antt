use Rattle.std.proofs.Common.{◌∙◌, Err, sym, ap}
use Rattle.sq_packet.specs.Gives.{Gives}
use Rattle.sq_packet.specs.Packet.{packet_of}
use Rattle.sq_packet.specs.declared.request.Request.{Request}
use Rattle.sq_packet.proofs.AskedLemmas.{limits_of}
use Rattle.sq_packet.proofs.PacketLemmas.{fault_at, packet_bad, packet_good}
use Rattle.sq_packet.proofs.read.read_packet.Goals as goal

pub returns-in-Err : goal.returns-in-Err
returns-in-Err c = record {
  value = packet_bad c.args.bytes.now c.in-Err.ensures.cases.0 ∙ sym (ap Err (c.refused.ensures ∙ ap fault_at (c.valid_up_to.ensures ∙ c.in-Err.ensures.valid_len)));
  limits = tt;
}

pub returns : goal.returns
returns c =
    let value : Gives (λ (x : Request). x) c.packet_from.result (packet_of c.args.bytes.now) =
    rw (packet_good c.args.bytes.now c.in-Ok.ensures.cases.1) (rw (c.as_slice.ensures.value, c.in_ok-marks.ensures, c.in-Ok.ensures.cases.0) at c.packet_from.ensures) in
    record { value = value; limits = limits_of c.args.bytes.now c.packet_from.result value }
