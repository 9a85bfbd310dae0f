use Rattle.std.proofs.Common.{◌≡◌, ◌++◌, IsUtf8, chars, encode_utf8_all, string_bytes}
use Rattle.std.specs.List.{flat_map}
use Rattle.std.specs.Str.Iter.{chars_rest}
use Rattle.sq_corpus.specs.Written.{escape, spelled}
use Rattle.sq_corpus.proofs.write.push_spelled.Given as goal

abbrev pub invariant-loop-c : goal.invariant-loop-c
invariant-loop-c l = IsUtf8 (chars_rest l.c-iterator)
    × (string_bytes l.out ++ encode_utf8_all (flat_map escape (chars (chars_rest l.c-iterator))) ≡ string_bytes l.fn.out ++ spelled l.text)
