-- Texts as a response and a packet write them.
use Rattle.std.specs.Prelude.{ℕ, ◌==◌, if◌then◌else◌, List, flat_map, chars, codes}
use Rattle.std.specs.Char.{encode_utf8}

-- `&`, `<`, `>` and `"` by their names, and TAB, LF and CR by their numbers, so that a reader keeps them
abbrev pub escaped_character : ℕ → List ℕ
escaped_character c =
    if c == 38 then codes "&amp;"
    else (if c == 60 then codes "&lt;"
    else (if c == 62 then codes "&gt;"
    else (if c == 34 then codes "&quot;"
    else (if c == 9 then codes "&#9;"
    else (if c == 10 then codes "&#10;"
    else (if c == 13 then codes "&#13;"
    else encode_utf8 c))))))

abbrev pub escaped : List ℕ → List ℕ
escaped text = flat_map escaped_character (chars text)
