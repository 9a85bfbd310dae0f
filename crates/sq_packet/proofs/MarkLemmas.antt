-- The marks of a text, character by character.
use Rattle.std.proofs.Common.{◌≡◌, ℕ, ◌+◌, List, [], ◌∷◌, ◌++◌, length, chars, IsUtf8, sym, ◌∙◌, append_assoc, append-nil, arith}
use Rattle.std.specs.Char.{encode_utf8}
use Rattle.std.proofs.lemmas.Str.{chars_past_char, chars-nil}
use Rattle.sq_packet.specs.declared.mark.Mark.{Mark}
use Rattle.sq_packet.specs.Marks.{mark, marks_from}

pub marks_on : (front : List Mark) (bytes rest : List ℕ) (whole : List Mark) (c at : ℕ) → IsUtf8 bytes → bytes ≡ encode_utf8 c ++ rest
    → front ++ marks_from at (chars bytes) ≡ whole → (front ++ mark c at ∷ []) ++ marks_from (at + length (encode_utf8 c)) (chars rest) ≡ whole
marks_on front bytes rest whole c at utf8 cut kept =
    append_assoc front (mark c at ∷ []) (marks_from (at + length (encode_utf8 c)) (chars rest)) ∙ (rw (chars_past_char bytes rest c utf8 cut) at kept)

pub marks_end : (front : List Mark) (rest : List ℕ) (at : ℕ) (whole : List Mark) → length rest ≡ 0 → front ++ marks_from at (chars rest) ≡ whole → front ≡ whole
marks_end front [] at whole none kept = sym (append-nil front) ∙ (rw chars-nil at kept)
marks_end front (c ∷ rest) at whole none kept = absurd (omega arith)
