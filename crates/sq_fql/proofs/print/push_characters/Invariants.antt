use Rattle.std.proofs.Common.{◌≡◌, ◌++◌, flat_map, IsUtf8, chars, string_bytes}
use Rattle.std.specs.Str.Iter.{chars_rest}
use Rattle.sq_fql.specs.Canon.{escaped}
use Rattle.sq_fql.proofs.print.push_characters.Given as goal

abbrev pub invariant-loop-c : goal.invariant-loop-c
invariant-loop-c l = IsUtf8 (chars_rest l.c-iterator)
    × (string_bytes l.text ++ flat_map escaped (chars (chars_rest l.c-iterator)) ≡ string_bytes l.initial.text ++ flat_map escaped (chars l.value))
