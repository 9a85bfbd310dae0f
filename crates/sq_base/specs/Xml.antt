-- The characters that an XML text may hold (XML 1.0, "Characters").
use Rattle.std.specs.Prelude.{ℕ, Bool, ◌&&◌, ◌||◌, ◌==◌, nat_le, List, chars}
use Rattle.std.specs.List.{list_all}

-- TAB, LF, CR, U+0020 to U+D7FF, U+E000 to U+FFFD, U+10000 to U+10FFFF
unfoldable pub is_xml_char : ℕ → Bool
is_xml_char c =
    (c == 9) || (c == 10) || (c == 13) || (nat_le 32 c && nat_le c 55_295) || (nat_le 57_344 c && nat_le c 65_533)
    || (nat_le 65_536 c && nat_le c 1_114_111)

-- all characters of the text are XML characters
abbrev pub is_xml_text : List ℕ → Bool
is_xml_text text = list_all is_xml_char (chars text)
