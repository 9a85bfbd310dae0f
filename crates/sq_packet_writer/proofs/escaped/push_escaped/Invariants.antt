use Rattle.std.proofs.Common.{◌≡◌, ◌++◌, flat_map, IsUtf8, chars, string_bytes}
use Rattle.std.specs.Str.Iter.{chars_rest}
use Rattle.sq_response.specs.Escaped.{escaped_character}
use Rattle.sq_packet_writer.proofs.escaped.push_escaped.Given as goal

abbrev pub invariant-loop-c : goal.invariant-loop-c
invariant-loop-c l = IsUtf8 (chars_rest l.c-iterator)
    × (string_bytes l.text ++ flat_map escaped_character (chars (chars_rest l.c-iterator)) ≡ string_bytes l.initial.text ++ flat_map escaped_character (chars l.value))
