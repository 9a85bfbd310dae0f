use Rattle.std.proofs.Common.{◌≡◌, ◌+◌, ◌≤◌, false, length, IsUtf8, chars, string_bytes, encode_utf8_all}
use Rattle.std.specs.Str.Iter.{chars_rest}
use Rattle.sq_fql.specs.Read.{unescaped}
use Rattle.sq_fql.proofs.EscapeLemmas.{rest_of, pending}
use Rattle.sq_fql.proofs.content.unescaped.Given as goal

abbrev pub invariant-loop-c : goal.invariant-loop-c
invariant-loop-c l = IsUtf8 (chars_rest l.c-iterator)
    × (rest_of (string_bytes l.text) l.is_escape (chars (chars_rest l.c-iterator)) ≡ encode_utf8_all (unescaped false (chars l.inside)))
    × (length (string_bytes l.text) + pending l.is_escape + length (chars_rest l.c-iterator) ≤ length l.inside)
