-- Texts and attribute values: characters and references.
use Rattle.std.specs.Prelude.{◌≡◌, ◌++◌, Err, ℕ, zero, suc, ◌==◌, if◌then◌else◌, List, [], ◌∷◌, map, reverse, drop, length, codes, Ok, Option, Some, None}
use Rattle.std.specs.Str.{encode_utf8_all}
use Rattle.std.specs.Borrow.{Bor}
use Rattle.std.specs.Str.Parse.{digits_value}
use Rattle.sq_base.specs.Xml.{is_xml_char}
use Rattle.sq_packet.specs.declared.mark.Mark.{Mark}
use Rattle.sq_packet.specs.declared.mark.Class.{Class}
use Rattle.sq_packet.specs.declared.mark.Class.TheVariants as class
use Rattle.sq_base.specs.Outcome.{Outcome, or_refused, ◌>>=◌}
use Rattle.sq_packet.specs.Marks.{mark, misfit, has_some, begins, run, skip_blanks}

-- a character and the marks behind what stands for it
abbrev pub Taken : Type 0
Taken = Option (ℕ × List Mark)

abbrev pub base_of : Class → ℕ
base_of class.HexDigit = 16
base_of other = 10

-- the character of a number, if an XML text may hold it
abbrev pub xml_char_of : ℕ → Option ℕ
xml_char_of number = if is_xml_char number then Some number else None

abbrev pub numeral : ℕ → List ℕ → Option ℕ
numeral base digits = if has_some digits then xml_char_of (digits_value base digits) else None

abbrev pub with_rest : List Mark → Option ℕ → Taken
with_rest rest None = None
with_rest rest (Some c) = Some (c, rest)

-- the character whose number digits of a class write, behind which a `;` stands
abbrev pub numeric_of : Class → List ℕ × List Mark → Taken
numeric_of of r = if begins (codes ";") r.1 then with_rest (drop 1 r.1) (numeral (base_of of) r.0) else None

abbrev pub numeric : Class → List Mark → Taken
numeric of ms = numeric_of of (run of ms)

-- the character that a reference names
unfoldable pub reference : List Mark → Taken
reference ms =
    if begins (codes "&lt;") ms then Some (60, drop 4 ms)
    else (if begins (codes "&gt;") ms then Some (62, drop 4 ms)
    else (if begins (codes "&amp;") ms then Some (38, drop 5 ms)
    else (if begins (codes "&quot;") ms then Some (34, drop 6 ms)
    else (if begins (codes "&apos;") ms then Some (39, drop 6 ms)
    else (if begins (codes "&#x") ms then numeric class.HexDigit (drop 3 ms)
    else (if begins (codes "&#") ms then numeric class.Digit (drop 2 ms)
    else None))))))

abbrev pub at_place : ℕ → ℕ × List Mark → Mark × List Mark
at_place at taken = (mark taken.0 at, taken.1)

-- the character at the front, itself or by a reference, with the place where it stands
unfoldable pub character : ℕ → List Mark → Outcome (Mark × List Mark)
character end [] = misfit end []
character end (m ∷ ms) =
    if m.c == 38 then (or_refused (reference (m ∷ ms)) 502 m.at >>= (λ taken. Ok (at_place m.at taken)))
    else (if is_xml_char m.c then Ok (m, ms) else misfit end (m ∷ ms))

-- the character at the front, or nothing at `stop`; a `<` may not stand there
unfoldable pub next_character : ℕ → ℕ → List Mark → Outcome (Option (Mark × List Mark))
next_character end stop [] = misfit end []
next_character end stop (m ∷ ms) =
    if m.c == stop then Ok None
    else (if m.c == 60 then misfit end (m ∷ ms)
    else (character end (m ∷ ms) >>= (λ one. Ok (Some one))))

-- characters in front of a text
abbrev pub onto_text : List Mark → Outcome (List Mark × List Mark) → Outcome (List Mark × List Mark)
onto_text front (Ok more) = Ok (front ++ more.0, more.1)
onto_text front (Err fault) = Err fault

abbrev pub text_by : (List Mark → Outcome (List Mark × List Mark)) → List Mark → Option (Mark × List Mark) → Outcome (List Mark × List Mark)
text_by next ms None = Ok ([], ms)
text_by next ms (Some one) = onto_text (one.0 ∷ []) (next one.1)

-- The characters up to `stop`, which stays. The number bounds the turns: each takes a mark, so one more than there are is enough.
unfoldable pub text_until : ℕ → ℕ → ℕ → List Mark → Outcome (List Mark × List Mark)
text_until zero end stop ms = misfit end ms
text_until (suc turns) end stop ms = next_character end stop ms >>= text_by (text_until turns end stop) ms

abbrev pub text_to : ℕ → ℕ → List Mark → Outcome (List Mark × List Mark)
text_to end stop ms = text_until (suc (length ms)) end stop ms

-- the bytes of characters
abbrev pub bytes_of : List Mark → List ℕ
bytes_of ms = encode_utf8_all (map (λ m. m.c) ms)

-- the characters without white space at both ends
abbrev pub trimmed : List Mark → List Mark
trimmed ms = reverse (skip_blanks (reverse (skip_blanks ms)))

-- what a call that takes a character answers
abbrev pub Takes : Option (ℕ × Bor (List Mark)) → Taken → Type 0
Takes None taken = taken ≡ None
Takes (Some (c, rest)) taken = taken ≡ Some (c, rest.now)

-- what a call that takes a character or stands at the end of a text answers
abbrev pub next_view : Option (Mark × Bor (List Mark)) → Option (Mark × List Mark)
next_view None = None
next_view (Some (m, rest)) = Some (m, rest.now)
