use Rattle.std.proofs.Common.{◌≡◌, ◌++◌, take, string_bytes}
use Rattle.std.specs.List.{flat_map}
use Rattle.sq_packet_writer.specs.PacketText.{property_text}
use Rattle.sq_packet_writer.proofs.writer.push_each_property.Given as goal

abbrev pub invariant-loop-name : goal.invariant-loop-name
invariant-loop-name l = string_bytes l.text ≡ string_bytes l.fn.text ++ flat_map property_text (take l.name-index l.names)
