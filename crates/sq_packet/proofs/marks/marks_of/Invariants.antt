use Rattle.std.proofs.Common.{◌≡◌, ◌+◌, ◌≤◌, ◌++◌, length, chars, IsUtf8}
use Rattle.std.specs.Str.Iter.{chars_rest}
use Rattle.sq_packet.specs.Marks.{marks_from}
use Rattle.sq_packet.proofs.marks.marks_of.Given as goal

abbrev pub invariant-loop-c : goal.invariant-loop-c
invariant-loop-c l = IsUtf8 (chars_rest l.c-iterator) × (l.marks.items ++ marks_from l.at (chars (chars_rest l.c-iterator)) ≡ marks_from 0 (chars l.text))
    × (l.at + length (chars_rest l.c-iterator) ≤ length l.text)
