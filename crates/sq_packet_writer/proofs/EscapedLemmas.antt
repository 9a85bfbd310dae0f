-- A text that is escaped character after character.
use Rattle.std.proofs.Common.{◌≡◌, ℕ, ◌++◌, List, [], ◌∷◌, sym, ◌∙◌, append_assoc, append-nil, flat_map, chars, length, IsUtf8, encode_utf8, arith}
use Rattle.std.proofs.lemmas.Str.{chars_past_char, chars-nil}
use Rattle.sq_response.specs.Escaped.{escaped_character}

pub escaped_on : (front bytes rest whole : List ℕ) (c : ℕ) → IsUtf8 bytes → bytes ≡ encode_utf8 c ++ rest
    → front ++ flat_map escaped_character (chars bytes) ≡ whole → front ++ escaped_character c ++ flat_map escaped_character (chars rest) ≡ whole
escaped_on front bytes rest whole c utf8 cut kept =
    append_assoc front (escaped_character c) (flat_map escaped_character (chars rest)) ∙ (rw (chars_past_char bytes rest c utf8 cut) at kept)

pub escaped_end : (front rest whole : List ℕ) → length rest ≡ 0 → front ++ flat_map escaped_character (chars rest) ≡ whole → front ≡ whole
escaped_end front [] whole none kept = sym (append-nil front) ∙ (rw chars-nil at kept)
escaped_end front (c ∷ rest) whole none kept = absurd (omega arith)
