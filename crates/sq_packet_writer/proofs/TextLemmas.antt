-- A written text is read as itself.
use Rattle.std.proofs.Common.{◌≡◌, ℕ, zero, suc, ◌+◌, ◌<◌, ◌==◌, true, false, List, [], ◌∷◌, ◌++◌, length, chars, Option, Some, None, Ok, refl, sym, ◌∙◌, ap, subst, append_assoc, arith, length-append}
use Rattle.std.proofs.lemmas.Bool.{and_parts, eq-eqb}
use Rattle.std.specs.Prelude.{codes}
use Rattle.std.specs.Char.{encode_utf8}
use Rattle.std.specs.List.{list_all}
use Rattle.std.specs.Str.{chars as characters, encode_utf8_all as encoded}
use Rattle.sq_base.specs.Outcome.{Outcome, ◌>>=◌}
use Rattle.sq_base.specs.Xml.{is_xml_char}
use Rattle.sq_packet.specs.declared.mark.Mark.{Mark}
use Rattle.sq_packet.specs.Marks.{mark, marks_from}
use Rattle.sq_packet.specs.Texts.{reference, character, next_character, onto_text, text_by, text_until, text_to, bytes_of}
use Rattle.sq_response.specs.Escaped.{escaped_character}
use Rattle.sq_packet_writer.proofs.GivenLemmas.{IsXml, letters_of, xml_scalar, xml_scalars}
use Rattle.sq_packet_writer.proofs.LetterLemmas.{past, past-append, length-marks, escaped_by, letter, letters, chars_encode, length-letters}

-- what may end a text: it stands in none
pub record IsStop (stop : ℕ) : Type 0 where
  pub amp : (38 == stop) ≡ false
  pub apart : (c : ℕ) → (c == 60) ≡ false → (c == 34) ≡ false → (c == stop) ≡ false

pub less_stops : IsStop 60
less_stops = record { amp = refl; apart = λ c l q. l }

pub quote_stops : IsStop 34
quote_stops = record { amp = refl; apart = λ c l q. q }

abbrev ReadsLetter : ℕ → ℕ → ℕ → List ℕ → Type 0
ReadsLetter end stop c x = IsXml c → (at : ℕ) (tail : List ℕ)
    → next_character end stop (marks_from at (chars x ++ tail)) ≡ Ok (Some (mark c at, marks_from (past at (chars x)) tail))

named_reads : (end stop d at : ℕ) (ms rest : List Mark) → (38 == stop) ≡ false → reference (mark 38 at ∷ ms) ≡ Some (d, rest)
    → next_character end stop (mark 38 at ∷ ms) ≡ Ok (Some (mark d at, rest))
unfolding next_character character
named_reads end stop d at ms rest apart named = rw (apart, named) refl

plain_front : (end stop c at : ℕ) (rest : List Mark) → (c == stop) ≡ false → (c == 60) ≡ false → (c == 38) ≡ false → IsXml c
    → next_character end stop (mark c at ∷ rest) ≡ Ok (Some (mark c at, rest))
unfolding next_character character
plain_front end stop c at rest apart less amp xml = rw (apart, less, amp, xml) refl

plain_reads : (end stop c : ℕ) → (c == stop) ≡ false → (c == 60) ≡ false → (c == 38) ≡ false → ReadsLetter end stop c (encode_utf8 c)
plain_reads end stop c apart less amp xml at tail =
    subst (λ (w : List ℕ). next_character end stop (marks_from at (w ++ tail)) ≡ Ok (Some (mark c at, marks_from (past at w) tail))) (sym (chars_encode c (xml_scalar c xml)))
    (plain_front end stop c at (marks_from (at + length (encode_utf8 c)) tail) apart less amp xml)

amp_reads : (end stop : ℕ) → (38 == stop) ≡ false → ReadsLetter end stop 38 (codes "&amp;")
unfolding characters reference
amp_reads end stop apart xml at tail = named_reads end stop 38 at _ _ apart refl

less_reads : (end stop : ℕ) → (38 == stop) ≡ false → ReadsLetter end stop 60 (codes "&lt;")
unfolding characters reference
less_reads end stop apart xml at tail = named_reads end stop 60 at _ _ apart refl

greater_reads : (end stop : ℕ) → (38 == stop) ≡ false → ReadsLetter end stop 62 (codes "&gt;")
unfolding characters reference
greater_reads end stop apart xml at tail = named_reads end stop 62 at _ _ apart refl

quote_reads : (end stop : ℕ) → (38 == stop) ≡ false → ReadsLetter end stop 34 (codes "&quot;")
unfolding characters reference
quote_reads end stop apart xml at tail = named_reads end stop 34 at _ _ apart refl

tab_reads : (end stop : ℕ) → (38 == stop) ≡ false → ReadsLetter end stop 9 (codes "&#9;")
unfolding characters encode_utf8 reference is_xml_char
tab_reads end stop apart xml at tail = named_reads end stop 9 at _ _ apart refl

feed_reads : (end stop : ℕ) → (38 == stop) ≡ false → ReadsLetter end stop 10 (codes "&#10;")
unfolding characters encode_utf8 reference is_xml_char
feed_reads end stop apart xml at tail = named_reads end stop 10 at _ _ apart refl

return_reads : (end stop : ℕ) → (38 == stop) ≡ false → ReadsLetter end stop 13 (codes "&#13;")
unfolding characters encode_utf8 reference is_xml_char
return_reads end stop apart xml at tail = named_reads end stop 13 at _ _ apart refl

letter_reads : (end stop : ℕ) → IsStop stop → (c : ℕ) → ReadsLetter end stop c (escaped_character c)
letter_reads end stop is =
    escaped_by (ReadsLetter end stop) (amp_reads end stop is.amp) (less_reads end stop is.amp) (greater_reads end stop is.amp) (quote_reads end stop is.amp)
    (tab_reads end stop is.amp) (feed_reads end stop is.amp) (return_reads end stop is.amp)
    (λ c amp less quote. plain_reads end stop c (is.apart c less quote) less amp)

-- the characters, each where what stands for it begins
abbrev pub texts : ℕ → List ℕ → List Mark
texts at [] = []
texts at (c ∷ cs) = mark c at ∷ texts (past at (letter c)) cs

pub texts_are : (at : ℕ) (cs : List ℕ) → letters_of (texts at cs) ≡ cs
texts_are at [] = refl
texts_are at (c ∷ cs) = ap (λ (t : List ℕ). c ∷ t) (texts_are (past at (letter c)) cs)

stop_reads : (end stop at : ℕ) (rest : List Mark) → next_character end stop (mark stop at ∷ rest) ≡ Ok None
unfolding next_character
stop_reads end stop at rest = let same : (stop == stop) ≡ true = eq-eqb stop stop refl in rw same refl

until_reads : (turns end stop at : ℕ) (cs tail : List ℕ) → IsStop stop → list_all is_xml_char cs ≡ true → length cs < turns
    → text_until turns end stop (marks_from at (letters cs ++ stop ∷ tail)) ≡ Ok (texts at cs, marks_from (past at (letters cs)) (stop ∷ tail))
unfolding text_until
until_reads zero end stop at cs tail is xml low = absurd (omega arith)
until_reads (suc n) end stop at [] tail is xml low =
    ap (λ (o : Outcome (Option (Mark × List Mark))). o >>= text_by (text_until n end stop) (marks_from at (stop ∷ tail)))
    (stop_reads end stop at (marks_from (at + length (encode_utf8 stop)) tail))
until_reads (suc n) end stop at (c ∷ cs) tail is xml low =
    let parts = and_parts (is_xml_char c) (list_all is_xml_char cs) xml in
    let one = letter_reads end stop is c parts.0 at (letters cs ++ stop ∷ tail) in
    let more = until_reads n end stop (past at (letter c)) cs tail is parts.1 (omega arith) in
    ap (λ (t : List ℕ). text_until (suc n) end stop (marks_from at t)) (append_assoc (letter c) (letters cs) (stop ∷ tail))
    ∙ (ap (λ (o : Outcome (Option (Mark × List Mark))). o >>= text_by (text_until n end stop) (marks_from at (letter c ++ (letters cs ++ stop ∷ tail)))) one
    ∙ (ap (onto_text (mark c at ∷ [])) more
    ∙ ap (λ (p : ℕ). Ok (mark c at ∷ texts (past at (letter c)) cs, marks_from p (stop ∷ tail))) (sym (past-append at (letter c) (letters cs)))))

pub text_reads : (end stop at : ℕ) (cs tail : List ℕ) → IsStop stop → list_all is_xml_char cs ≡ true
    → text_to end stop (marks_from at (letters cs ++ stop ∷ tail)) ≡ Ok (texts at cs, marks_from (past at (letters cs)) (stop ∷ tail))
text_reads end stop at cs tail is xml =
    until_reads (suc (length (marks_from at (letters cs ++ stop ∷ tail)))) end stop at cs tail is xml
    (omega (arith, length-marks at (letters cs ++ stop ∷ tail), length-append (letters cs) (stop ∷ tail), length-letters cs (xml_scalars cs xml)))

pub texts_bytes : (at : ℕ) (cs : List ℕ) → bytes_of (texts at cs) ≡ encoded cs
texts_bytes at cs = ap encoded (texts_are at cs)
