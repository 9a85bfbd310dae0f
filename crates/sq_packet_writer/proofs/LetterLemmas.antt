-- The characters of written texts, and their places.
use Rattle.std.proofs.Common.{◌≡◌, ℕ, suc, ◌+◌, ◌<◌, ◌≤◌, nat_lt, ◌==◌, Bool, true, false, not, ◌&&◌, if◌then◌else◌, List, [], ◌∷◌, ◌++◌, length, chars, flat_map, IsUtf8, refl, sym, ◌∙◌, ap, subst, append-nil, arith, length-append}
use Rattle.std.proofs.lemmas.Bool.{and_from, and_parts, eqb-true, ltb-true}
use Rattle.std.proofs.lemmas.Bool.Decides.{nat_tests}
use Rattle.std.proofs.lemmas.Str.{chars-nil, chars-encodes, chars-append, encode_ascii, scalars-chars, IsUtf8-append, IsUtf8-nil}
use Rattle.std.specs.Prelude.{codes}
use Rattle.std.specs.Char.{encode_utf8}
use Rattle.std.specs.List.{list_all}
use Rattle.std.specs.Str.{chars as characters}
use lib.Utf8.{scalar, scalars}
use Rattle.sq_base.specs.Xml.{is_xml_char}
use Rattle.sq_packet.specs.Marks.{marks_from}
use Rattle.sq_response.specs.Escaped.{escaped_character, escaped}
use Rattle.sq_packet_writer.specs.Writable.{IsXmlText}
use Rattle.sq_packet_writer.proofs.GivenLemmas.{holds_if}

-- ---- places

-- the place behind characters
abbrev pub past : ℕ → List ℕ → ℕ
past at [] = at
past at (c ∷ cs) = past (at + length (encode_utf8 c)) cs

pub past-append : (at : ℕ) (xs ys : List ℕ) → past at (xs ++ ys) ≡ past (past at xs) ys
past-append at [] ys = refl
past-append at (x ∷ xs) ys = past-append (at + length (encode_utf8 x)) xs ys

pub length-marks : (at : ℕ) (cs : List ℕ) → length (marks_from at cs) ≡ length cs
length-marks at [] = refl
length-marks at (c ∷ cs) = ap suc (length-marks (at + length (encode_utf8 c)) cs)

-- ---- ASCII

abbrev pub is_ascii : List ℕ → Bool
is_ascii word = list_all (λ b. nat_lt b 128) word

pub chars_cons : (b : ℕ) (bs : List ℕ) → nat_lt b 128 ≡ true → chars (b ∷ bs) ≡ b ∷ chars bs
unfolding characters
chars_cons b [] low = rw low refl
chars_cons b (x ∷ xs) low = rw low refl

pub chars_word : (word rest : List ℕ) → is_ascii word ≡ true → chars (word ++ rest) ≡ word ++ chars rest
chars_word [] rest low = refl
chars_word (b ∷ bs) rest low =
    let parts = and_parts (nat_lt b 128) (is_ascii bs) low in
    chars_cons b (bs ++ rest) parts.0 ∙ ap (λ (t : List ℕ). b ∷ t) (chars_word bs rest parts.1)

chars_ascii : (word : List ℕ) → is_ascii word ≡ true → chars word ≡ word
chars_ascii word low = ap chars (sym (append-nil word)) ∙ (chars_word word [] low ∙ (ap (λ (t : List ℕ). word ++ t) chars-nil ∙ append-nil word))

-- ---- a character

choose : (P : ℕ → List ℕ → Type 0) (c d : ℕ) (x y : List ℕ) → P d x → ((c == d) ≡ false → P c y) → P c (if c == d then x else y)
choose P c d x y then_x else_y = holds_if (P c) (c == d) x y (λ is. subst (λ (k : ℕ). P k x) (sym (eqb-true c d is)) then_x) else_y

-- what holds of each reference, and of each character that stands for itself
pub escaped_by : (P : ℕ → List ℕ → Type 0) → P 38 (codes "&amp;") → P 60 (codes "&lt;") → P 62 (codes "&gt;") → P 34 (codes "&quot;") → P 9 (codes "&#9;")
    → P 10 (codes "&#10;") → P 13 (codes "&#13;") → ((c : ℕ) → (c == 38) ≡ false → (c == 60) ≡ false → (c == 34) ≡ false → P c (encode_utf8 c))
    → (c : ℕ) → P c (escaped_character c)
escaped_by P amp less greater quote tab feed return plain c =
    choose P c 38 _ _ amp
    (λ a. choose P c 60 _ _ less
    (λ l. choose P c 62 _ _ greater
    (λ _. choose P c 34 _ _ quote
    (λ q. choose P c 9 _ _ tab
    (λ _. choose P c 10 _ _ feed
    (λ _. choose P c 13 _ _ return
    (λ _. plain c a l q)))))))

encode_utf8_is : (c : ℕ) → scalar c ≡ true → IsUtf8 (encode_utf8 c)
encode_utf8_is c h = (c ∷ [], (and_from (scalar c) true h refl, append-nil (encode_utf8 c)))

low_is : (b : ℕ) → b < 128 → scalar b ≡ true
low_is b small = grind (arith, nat_tests)

pub ascii_utf8 : (word : List ℕ) → is_ascii word ≡ true → IsUtf8 word
ascii_utf8 [] low = IsUtf8-nil
ascii_utf8 (b ∷ bs) low =
    let parts = and_parts (nat_lt b 128) (is_ascii bs) low in
    let small : b < 128 = ltb-true b 128 parts.0 in
    let one : IsUtf8 (b ∷ []) = subst IsUtf8 (encode_ascii b small) (encode_utf8_is b (low_is b small)) in
    IsUtf8-append (b ∷ []) bs one (ascii_utf8 bs parts.1)

letter_utf8 : (c : ℕ) → scalar c ≡ true → IsUtf8 (escaped_character c)
letter_utf8 = escaped_by (λ c x. scalar c ≡ true → IsUtf8 x)
    (λ _. ascii_utf8 (codes "&amp;") refl) (λ _. ascii_utf8 (codes "&lt;") refl) (λ _. ascii_utf8 (codes "&gt;") refl) (λ _. ascii_utf8 (codes "&quot;") refl)
    (λ _. ascii_utf8 (codes "&#9;") refl) (λ _. ascii_utf8 (codes "&#10;") refl) (λ _. ascii_utf8 (codes "&#13;") refl) (λ c _ _ _ h. encode_utf8_is c h)

-- the characters that stand for a character
abbrev pub letter : ℕ → List ℕ
letter c = chars (escaped_character c)

abbrev pub letters : List ℕ → List ℕ
letters cs = flat_map letter cs

pub chars_encode : (c : ℕ) → scalar c ≡ true → chars (encode_utf8 c) ≡ c ∷ []
chars_encode c h = ap chars (sym (append-nil (encode_utf8 c))) ∙ chars-encodes (c ∷ []) (and_from (scalar c) true h refl)

some_letter : (c : ℕ) → scalar c ≡ true → 0 < length (letter c)
unfolding characters
some_letter = escaped_by (λ c x. scalar c ≡ true → 0 < length (chars x))
    (λ _. omega arith) (λ _. omega arith) (λ _. omega arith) (λ _. omega arith) (λ _. omega arith) (λ _. omega arith) (λ _. omega arith)
    (λ c _ _ _ h. omega (arith, ap length (chars_encode c h)))

pub length-letters : (cs : List ℕ) → scalars cs ≡ true → length cs ≤ length (letters cs)
length-letters [] h = omega arith
length-letters (c ∷ cs) h =
    let parts = and_parts (scalar c) (scalars cs) h in
    omega (arith, some_letter c parts.0, length-letters cs parts.1, length-append (letter c) (letters cs))

-- ---- texts

letters_utf8 : (cs : List ℕ) → scalars cs ≡ true → IsUtf8 (flat_map escaped_character cs)
letters_utf8 [] h = IsUtf8-nil
letters_utf8 (c ∷ cs) h =
    let parts = and_parts (scalar c) (scalars cs) h in
    IsUtf8-append (escaped_character c) (flat_map escaped_character cs) (letter_utf8 c parts.0) (letters_utf8 cs parts.1)

letters_are : (cs : List ℕ) → scalars cs ≡ true → chars (flat_map escaped_character cs) ≡ letters cs
letters_are [] h = chars-nil
letters_are (c ∷ cs) h =
    let parts = and_parts (scalar c) (scalars cs) h in
    chars-append (escaped_character c) (flat_map escaped_character cs) (letter_utf8 c parts.0) ∙ ap (λ (t : List ℕ). letter c ++ t) (letters_are cs parts.1)

pub escaped_utf8 : (text : List ℕ) → IsXmlText text → IsUtf8 (escaped text)
escaped_utf8 text h = letters_utf8 (chars text) (scalars-chars text h.utf8)

pub escaped_chars : (text rest : List ℕ) → IsXmlText text → chars (escaped text ++ rest) ≡ letters (chars text) ++ chars rest
escaped_chars text rest h =
    chars-append (escaped text) rest (escaped_utf8 text h) ∙ ap (λ (t : List ℕ). t ++ chars rest) (letters_are (chars text) (scalars-chars text h.utf8))

-- ---- texts that stand for themselves

abbrev pub is_plain : ℕ → Bool
is_plain c = nat_lt c 128 && not (c == 38) && not (c == 60) && not (c == 62) && not (c == 34) && nat_lt 31 c

plain_character : (c : ℕ) → is_plain c ≡ true → escaped_character c ≡ c ∷ []
plain_character c h =
    let low : c < 128 = grind (arith, nat_tests) in
    let a : (c == 38) ≡ false = grind (arith, nat_tests) in
    let l : (c == 60) ≡ false = grind (arith, nat_tests) in
    let g : (c == 62) ≡ false = grind (arith, nat_tests) in
    let q : (c == 34) ≡ false = grind (arith, nat_tests) in
    let t : (c == 9) ≡ false = grind (arith, nat_tests) in
    let f : (c == 10) ≡ false = grind (arith, nat_tests) in
    let r : (c == 13) ≡ false = grind (arith, nat_tests) in
    rw (a, l, g, q, t, f, r) (encode_ascii c low)

plain_letters : (cs : List ℕ) → list_all is_plain cs ≡ true → flat_map escaped_character cs ≡ cs
plain_letters [] h = refl
plain_letters (c ∷ cs) h =
    let parts = and_parts (is_plain c) (list_all is_plain cs) h in
    rw (plain_character c parts.0) (ap (λ (t : List ℕ). c ∷ t) (plain_letters cs parts.1))

plain_low : (c : ℕ) → is_plain c ≡ true → (nat_lt c 128 ≡ true) × (is_xml_char c ≡ true)
unfolding is_xml_char
plain_low c h = (grind (arith, nat_tests), grind (arith, nat_tests))

pub plain_ascii : (cs : List ℕ) → list_all is_plain cs ≡ true → (is_ascii cs ≡ true) × (list_all is_xml_char cs ≡ true)
plain_ascii [] h = (refl, refl)
plain_ascii (c ∷ cs) h =
    let parts = and_parts (is_plain c) (list_all is_plain cs) h in
    let one = plain_low c parts.0 in
    let more = plain_ascii cs parts.1 in
    (and_from (nat_lt c 128) (is_ascii cs) one.0 more.0, and_from (is_xml_char c) (list_all is_xml_char cs) one.1 more.1)

pub plain_escaped : (text : List ℕ) → list_all is_plain text ≡ true → escaped text ≡ text
plain_escaped text h = ap (λ (cs : List ℕ). flat_map escaped_character cs) (chars_ascii text (plain_ascii text h).0) ∙ plain_letters text h

pub plain_xml : (text : List ℕ) → list_all is_plain text ≡ true → IsXmlText text
plain_xml text h =
    let known = plain_ascii text h in
    record { utf8 = ascii_utf8 text known.0; xml = ap (list_all is_xml_char) (chars_ascii text known.0) ∙ known.1 }
