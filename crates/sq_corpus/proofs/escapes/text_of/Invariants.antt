use Rattle.std.proofs.Common.{◌≡◌, IsUtf8, chars, string_bytes}
use Rattle.std.specs.Str.Iter.{chars_rest}
use Rattle.sq_corpus.specs.Escapes.{text_of}
use Rattle.sq_corpus.proofs.EscapeLemmas.{rest_of}
use Rattle.sq_corpus.proofs.escapes.text_of.Given as goal

abbrev pub invariant-loop-c : goal.invariant-loop-c
invariant-loop-c l = IsUtf8 (chars_rest l.c-iterator)
    × (rest_of (string_bytes l.text) l.is_escape (chars (chars_rest l.c-iterator)) ≡ text_of l.field)
