use Rattle.std.proofs.Common.{◌≡◌, ◌++◌, take, string_bytes}
use Rattle.std.specs.List.{flat_map}
use Rattle.sq_packet_writer.specs.PacketText.{bound_text}
use Rattle.sq_packet_writer.proofs.writer.push_each_bound.Given as goal

abbrev pub invariant-loop-bound : goal.invariant-loop-bound
invariant-loop-bound l = string_bytes l.text ≡ string_bytes l.fn.text ++ flat_map bound_text (take l.bound-index l.bounds)
