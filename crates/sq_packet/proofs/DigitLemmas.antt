-- Digits, and the characters and numbers that they write.
use Rattle.std.proofs.Common.{◌≡◌, ◌≢◌, ℕ, ◌<◌, ◌≤◌, ◌^◌, ◌⊎◌, inl, inr, Bool, true, false, List, [], ◌∷◌, length, None, Result, Err, refl, sym, ap, subst, rules, arith}
use Rattle.std.proofs.lemmas.Bool.Decides.{nat_tests}
use Rattle.std.proofs.lemmas.Str.{encode_ascii}
use Rattle.std.proofs.lemmas.Str.Parse.{IsNumeralModel, numerals_by_value, parse_digits, without_leading_plus_none}
use Rattle.std.specs.Char.{digit_value, is_ascii_digit, is_ascii_hexdigit, OutOfScalarRange}
use Rattle.std.specs.List.{list_all}
use Rattle.std.specs.Str.Parse.{AllDigits, ParsesUnsigned, digits_value}
use Rattle.sq_base.specs.Xml.{is_xml_char}
use Rattle.sq_packet.specs.declared.mark.Mark.{Mark}
use Rattle.sq_packet.specs.declared.mark.Class.{Class}
use Rattle.sq_packet.specs.declared.mark.Class.TheVariants as class
use Rattle.sq_packet.specs.Digits.{IsDigits}
use Rattle.sq_packet.specs.Marks.{run, is_in}
use Rattle.sq_packet.specs.Texts.{base_of, numeral, xml_char_of}
use Rattle.sq_packet.specs.Words.{whole_of}

digits_are : IsNumeralModel (λ ds. list_all is_ascii_digit ds ≡ true) (digits_value 10)
digits_are = numerals_by_value _ (search rules)

pub whole_failed : {E : Type 0} (text : List ℕ) (r : Result ℕ E) (e : E) → list_all is_ascii_digit text ≡ true → ParsesUnsigned 32 10 text r → r ≡ Err e → None ≡ whole_of text
whole_failed text r e digits parsed is =
    let no = rw is at (parse_digits digits_are 32 text r parsed digits) in
    grind (arith, nat_tests, no)

-- ---- numeric references

digit_is : (c : ℕ) → is_ascii_digit c ≡ true → (c < 128) × (digit_value c < 10)
digit_is c h = (grind (arith, nat_tests), grind (arith, nat_tests))

hex_is : (c : ℕ) → is_ascii_hexdigit c ≡ true → (c < 128) × (digit_value c < 16)
hex_is c h = (grind (arith, nat_tests), grind (arith, nat_tests))

in_class : (of : Class) (c : ℕ) → IsDigits of → is_in of c ≡ true → (c < 128) × (digit_value c < base_of of)
in_class class.Digit c known h = digit_is c h
in_class class.HexDigit c known h = hex_is c h
in_class class.Name c known h = absurd known
in_class class.AttributeName c known h = absurd known

digits_by : (of : Class) (m : Mark) (ms : List Mark) (b : Bool) → is_in of m.c ≡ b → IsDigits of → AllDigits (base_of of) (run of ms).0 → AllDigits (base_of of) (run of (m ∷ ms)).0
digits_by of m ms true is known more = let digit = in_class of m.c known is in rw (is, encode_ascii m.c digit.0) (digit.1, more)
digits_by of m ms false is known more = rw is tt

run_digits : (of : Class) (ms : List Mark) → IsDigits of → AllDigits (base_of of) (run of ms).0
run_digits of [] known = tt
run_digits of (m ∷ ms) known = digits_by of m ms (is_in of m.c) refl known (run_digits of ms known)

pub digits_of_run : (of : Class) (ms : List Mark) (digits : List ℕ) (rest : List Mark) → IsDigits of → run of ms ≡ (digits, rest) → AllDigits (base_of of) digits
digits_of_run of ms digits rest known is =
    subst (λ (ds : List ℕ). AllDigits (base_of of) ds) (ap (λ (r : List ℕ × List Mark). r.0) is) (run_digits of ms known)

pub big_is_none : (n : ℕ) → 2 ^ 32 ≤ n → xml_char_of n ≡ None
unfolding is_xml_char
big_is_none n big = grind (arith, nat_tests)

pub xml_none : (n : ℕ) → OutOfScalarRange n → xml_char_of n ≡ None
unfolding is_xml_char
xml_none n out = grind (arith, nat_tests)

no_plus : (base d : ℕ) → (base ≡ 10) ⊎ (base ≡ 16) → digit_value d < base → d ≢ 43
no_plus base d (inl ten) digit plus = let e : digit_value d ≡ 36 = rw plus refl in absurd (omega arith)
no_plus base d (inr sixteen) digit plus = let e : digit_value d ≡ 36 = rw plus refl in absurd (omega arith)

refused_is_big : {E : Type 0} (base : ℕ) (digits : List ℕ) (r : Result ℕ E) (e : E) → (base ≡ 10) ⊎ (base ≡ 16) → AllDigits base digits → 0 < length digits
    → ParsesUnsigned 32 base digits r → r ≡ Err e → 2 ^ 32 ≤ digits_value base digits
refused_is_big base [] r e known all some parsed is = absurd (omega arith)
refused_is_big base (d ∷ ds) r e known all some parsed is =
    let plain = without_leading_plus_none (d ∷ ds) (no_plus base d known all.0) in
    let no = rw (plain, is) at parsed in
    grind (arith, nat_tests, no, all)

pub numeral_failed : {E : Type 0} (base : ℕ) (digits : List ℕ) (r : Result ℕ E) (e : E) → (base ≡ 10) ⊎ (base ≡ 16) → AllDigits base digits
    → ParsesUnsigned 32 base digits r → r ≡ Err e → None ≡ numeral base digits
numeral_failed base [] r e known all parsed is = refl
numeral_failed base (d ∷ ds) r e known all parsed is =
    sym (big_is_none (digits_value base (d ∷ ds)) (refused_is_big base (d ∷ ds) r e known all (omega arith) parsed is))
