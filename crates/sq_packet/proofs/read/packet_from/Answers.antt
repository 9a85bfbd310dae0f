use Rattle.std.proofs.Common.{◌+◌, length, arith}
use Rattle.sq_packet.proofs.PacketLemmas.{packet_is}
use Rattle.sq_packet.proofs.read.packet_from.Goals as goal

pub returns : goal.returns
returns c =
    packet_is c.args.end c.args.marks.now c.behind_order_mark.result.now c.in_ok-rest.rest.now (length c.args.marks.now + 1) c.in_ok-draft.draft c.in_ok-draft-2.draft
    c.behind_order_mark.ensures c.in_ok-rest.ensures (omega arith) c.in_ok-draft.ensures c.in_ok-draft-2.ensures
