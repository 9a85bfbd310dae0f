use Rattle.std.proofs.Common.{◌≡◌, ◌++◌, take, string_bytes}
use Rattle.std.specs.List.{flat_map}
use Rattle.sq_packet_writer.specs.PacketText.{sort_text}
use Rattle.sq_packet_writer.proofs.writer.push_each_sort.Given as goal

abbrev pub invariant-loop-sort : goal.invariant-loop-sort
invariant-loop-sort l = string_bytes l.text ≡ string_bytes l.fn.text ++ flat_map sort_text (take l.sort-index l.sorts)
