use Rattle.std.proofs.Common.{◌≡◌, ◌++◌, take, string_bytes}
use Rattle.std.specs.List.{flat_map}
use Rattle.sq_packet_writer.specs.PacketText.{refiner_text}
use Rattle.sq_packet_writer.proofs.writer.push_each_refiner.Given as goal

abbrev pub invariant-loop-refiner : goal.invariant-loop-refiner
invariant-loop-refiner l = string_bytes l.text ≡ string_bytes l.fn.text ++ flat_map refiner_text (take l.refiner-index l.refiners)
