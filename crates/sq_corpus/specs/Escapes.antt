-- Escapes in urls and values of text.
use Rattle.std.specs.Prelude.{ℕ, List, [], ◌∷◌, ◌==◌, if◌then◌else◌, chars, Option, Some, None, option_map, option_and_then}
use Rattle.std.specs.Str.{encode_utf8_all}

-- the character for which the backslash and this one stand
unfoldable pub escaped : ℕ → Option ℕ
escaped letter =
    if letter == 116 then Some 9
    else (if letter == 110 then Some 10
    else (if letter == 114 then Some 13
    else (if letter == 92 then Some 92
    else None)))

-- the characters that these stand for: the first from what stands behind a backslash
abbrev mutual
  pub unescaped : List ℕ → Option (List ℕ)
  unescaped [] = Some []
  unescaped (c ∷ rest) = if c == 92 then behind_backslash rest else option_map (λ text. c ∷ text) (unescaped rest)

  pub behind_backslash : List ℕ → Option (List ℕ)
  behind_backslash [] = None
  behind_backslash (letter ∷ rest) = option_and_then (λ c. option_map (λ text. c ∷ text) (unescaped rest)) (escaped letter)

-- the text that a field spells with escapes
abbrev pub text_of : List ℕ → Option (List ℕ)
text_of field = option_map encode_utf8_all (unescaped (chars field))
