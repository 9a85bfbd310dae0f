-- What reading gives may be written: outcomes, characters and texts.
use Rattle.std.proofs.Common.{◌≡◌, ℕ, zero, suc, ◌==◌, Bool, true, false, if◌then◌else◌, List, [], ◌∷◌, length, drop, map, reverse, Option, Some, None, Ok, Err, refl, ◌∙◌, ap, subst, arith}
use Rattle.std.proofs.lemmas.Bool.{and_from, and_parts}
use Rattle.std.proofs.lemmas.Bool.Decides.{nat_tests}
use Rattle.std.proofs.lemmas.Str.{chars-encodes}
use Rattle.std.specs.Prelude.{codes}
use Rattle.std.specs.List.{list_all}
use Rattle.std.specs.Str.{encode_utf8_all as encoded}
use Rattle.std.specs.Str.Parse.{digits_value}
use lib.Utf8.{scalar, scalars}
use mathlib.Core.List.{reverse_aux}
use Rattle.sq_base.specs.Outcome.{Outcome, or_refused, ◌>>=◌}
use Rattle.sq_base.specs.Xml.{is_xml_char}
use Rattle.sq_packet.specs.declared.mark.Mark.{Mark}
use Rattle.sq_packet.specs.declared.mark.Class.{Class}
use Rattle.sq_packet.specs.declared.mark.Class.TheVariants as class
use Rattle.sq_packet.specs.Marks.{begins, has_some, is_blank, run, skip_blanks}
use Rattle.sq_packet.specs.Texts.{numeral, base_of, with_rest, numeric, reference, character, next_character, onto_text, text_by, text_until, text_to, bytes_of, trimmed}
use Rattle.sq_packet_writer.specs.Writable.{IsXmlText}

-- a fault, or a value of this kind
abbrev pub Yields : {A : Type 0} → (A → Type 0) → Outcome A → Type 0
Yields Q (Ok x) = Q x
Yields Q (Err fault) = Unit {0}

pub yields_on : {A B : Type 0} (Q : A → Type 0) (R : B → Type 0) (o : Outcome A) (f : A → Outcome B) → Yields Q o → ((x : A) → Q x → Yields R (f x)) → Yields R (o >>= f)
yields_on Q R (Ok x) f held next = next x held
yields_on Q R (Err fault) f held next = tt

-- whatever the value is
pub yields_any : {A B : Type 0} (R : B → Type 0) (o : Outcome A) (f : A → Outcome B) → ((x : A) → Yields R (f x)) → Yields R (o >>= f)
yields_any R (Ok x) f next = next x
yields_any R (Err fault) f next = tt

pub holds_if : {A : Type 0} (P : A → Type 0) (b : Bool) (x y : A) → (b ≡ true → P x) → (b ≡ false → P y) → P (if b then x else y)
holds_if P true x y then_x else_y = then_x refl
holds_if P false x y then_x else_y = else_y refl

pub or_yields : {A : Type 0} (Q : A → Type 0) (o : Option A) (code at : ℕ) → ((x : A) → o ≡ Some x → Q x) → Yields Q (or_refused o code at)
or_yields Q (Some x) code at next = next x refl
or_yields Q None code at next = tt

-- nothing, or a value of this kind
abbrev pub Holds : {X : Type 0} → (X → Type 0) → Option X → Type 0
Holds Q None = Unit {0}
Holds Q (Some x) = Q x

-- ---- characters

abbrev pub IsXml : ℕ → Type 0
IsXml c = is_xml_char c ≡ true

abbrev pub AreXml : List Mark → Type 0
AreXml [] = Unit {0}
AreXml (m ∷ ms) = IsXml m.c × AreXml ms

abbrev FirstXml : ℕ × List Mark → Type 0
FirstXml r = IsXml r.0

abbrev MarkXml : Mark × List Mark → Type 0
MarkXml r = IsXml r.0.c

abbrev pub TextXml : List Mark × List Mark → Type 0
TextXml r = AreXml r.0

numeral_xml : (base : ℕ) (digits : List ℕ) → Holds IsXml (numeral base digits)
numeral_xml base digits =
    holds_if (Holds IsXml) (has_some digits) _ _ (λ _. holds_if (Holds IsXml) (is_xml_char (digits_value base digits)) _ _ (λ xml. xml) (λ _. tt)) (λ _. tt)

rest_xml : (rest : List Mark) (o : Option ℕ) → Holds IsXml o → Holds FirstXml (with_rest rest o)
rest_xml rest None h = tt
rest_xml rest (Some c) h = h

numeric_xml : (of : Class) (ms : List Mark) → Holds FirstXml (numeric of ms)
numeric_xml of ms =
    holds_if (Holds FirstXml) (begins (codes ";") (run of ms).1) _ _
    (λ _. rest_xml (drop 1 (run of ms).1) (numeral (base_of of) (run of ms).0) (numeral_xml (base_of of) (run of ms).0)) (λ _. tt)

reference_xml : (ms : List Mark) → Holds FirstXml (reference ms)
unfolding reference is_xml_char
reference_xml ms =
    holds_if (Holds FirstXml) (begins (codes "&lt;") ms) _ _ (λ _. refl)
    (λ _. holds_if (Holds FirstXml) (begins (codes "&gt;") ms) _ _ (λ _. refl)
    (λ _. holds_if (Holds FirstXml) (begins (codes "&amp;") ms) _ _ (λ _. refl)
    (λ _. holds_if (Holds FirstXml) (begins (codes "&quot;") ms) _ _ (λ _. refl)
    (λ _. holds_if (Holds FirstXml) (begins (codes "&apos;") ms) _ _ (λ _. refl)
    (λ _. holds_if (Holds FirstXml) (begins (codes "&#x") ms) _ _ (λ _. numeric_xml class.HexDigit (drop 3 ms))
    (λ _. holds_if (Holds FirstXml) (begins (codes "&#") ms) _ _ (λ _. numeric_xml class.Digit (drop 2 ms)) (λ _. tt)))))))

character_xml : (end : ℕ) (ms : List Mark) → Yields MarkXml (character end ms)
unfolding character
character_xml end [] = tt
character_xml end (m ∷ ms) =
    holds_if (Yields MarkXml) (m.c == 38) _ _
    (λ _. yields_on FirstXml MarkXml (or_refused (reference (m ∷ ms)) 502 m.at) _
    (or_yields FirstXml (reference (m ∷ ms)) 502 m.at (λ x is. subst (Holds FirstXml) is (reference_xml (m ∷ ms)))) (λ x xml. xml))
    (λ _. holds_if (Yields MarkXml) (is_xml_char m.c) _ _ (λ xml. xml) (λ _. tt))

next_xml : (end stop : ℕ) (ms : List Mark) → Yields (Holds MarkXml) (next_character end stop ms)
unfolding next_character
next_xml end stop [] = tt
next_xml end stop (m ∷ ms) =
    holds_if (Yields (Holds MarkXml)) (m.c == stop) _ _ (λ _. tt)
    (λ _. holds_if (Yields (Holds MarkXml)) (m.c == 60) _ _ (λ _. tt)
    (λ _. yields_on MarkXml (Holds MarkXml) (character end (m ∷ ms)) _ (character_xml end (m ∷ ms)) (λ x one. one)))

-- ---- texts

onto_xml : (m : Mark) (o : Outcome (List Mark × List Mark)) → IsXml m.c → Yields TextXml o → Yields TextXml (onto_text (m ∷ []) o)
onto_xml m (Ok r) xml h = (xml, h)
onto_xml m (Err fault) xml h = tt

by_xml : (next : List Mark → Outcome (List Mark × List Mark)) (ms : List Mark) (o : Option (Mark × List Mark)) → Holds MarkXml o
    → ((rest : List Mark) → Yields TextXml (next rest)) → Yields TextXml (text_by next ms o)
by_xml next ms None one more = tt
by_xml next ms (Some r) one more = onto_xml r.0 (next r.1) one (more r.1)

until_xml : (turns end stop : ℕ) (ms : List Mark) → Yields TextXml (text_until turns end stop ms)
unfolding text_until
until_xml zero end stop ms = tt
until_xml (suc turns) end stop ms =
    yields_on (Holds MarkXml) TextXml (next_character end stop ms) _ (next_xml end stop ms)
    (λ x one. by_xml (text_until turns end stop) ms x one (λ rest. until_xml turns end stop rest))

pub text_xml : (end stop : ℕ) (ms : List Mark) → Yields TextXml (text_to end stop ms)
text_xml end stop ms = until_xml (suc (length ms)) end stop ms

skip_xml : (ms : List Mark) → AreXml ms → AreXml (skip_blanks ms)
skip_xml [] h = tt
skip_xml (m ∷ ms) h = holds_if AreXml (is_blank m.c) _ _ (λ _. skip_xml ms h.1) (λ _. h)

aux_xml : (ms done : List Mark) → AreXml ms → AreXml done → AreXml (reverse_aux ms done)
aux_xml [] done h k = k
aux_xml (m ∷ ms) done h k = aux_xml ms (m ∷ done) h.1 (h.0, k)

reverse_xml : (ms : List Mark) → AreXml ms → AreXml (reverse ms)
reverse_xml ms h = aux_xml ms [] h tt

pub trimmed_xml : (ms : List Mark) → AreXml ms → AreXml (trimmed ms)
trimmed_xml ms h = reverse_xml (skip_blanks (reverse (skip_blanks ms))) (skip_xml (reverse (skip_blanks ms)) (reverse_xml (skip_blanks ms) (skip_xml ms h)))

-- ---- bytes

abbrev pub letters_of : List Mark → List ℕ
letters_of ms = map (λ m. m.c) ms

pub letters_xml : (ms : List Mark) → AreXml ms → list_all is_xml_char (letters_of ms) ≡ true
letters_xml [] h = refl
letters_xml (m ∷ ms) h = and_from (is_xml_char m.c) (list_all is_xml_char (letters_of ms)) h.0 (letters_xml ms h.1)

pub xml_scalar : (c : ℕ) → IsXml c → scalar c ≡ true
unfolding is_xml_char
xml_scalar c h = grind (arith, nat_tests)

pub xml_scalars : (cs : List ℕ) → list_all is_xml_char cs ≡ true → scalars cs ≡ true
xml_scalars [] h = refl
xml_scalars (c ∷ cs) h =
    let parts = and_parts (is_xml_char c) (list_all is_xml_char cs) h in
    and_from (scalar c) (scalars cs) (xml_scalar c parts.0) (xml_scalars cs parts.1)

pub encoded_xml : (cs : List ℕ) → list_all is_xml_char cs ≡ true → IsXmlText (encoded cs)
encoded_xml cs h =
    let good = xml_scalars cs h in
    record { utf8 = (cs, (good, refl)); xml = ap (list_all is_xml_char) (chars-encodes cs good) ∙ h }

pub bytes_xml : (ms : List Mark) → AreXml ms → IsXmlText (bytes_of ms)
bytes_xml ms h = encoded_xml (letters_of ms) (letters_xml ms h)
