-- What the fields are that are written, and that they are read back.
use Rattle.std.proofs.Common.{◌≡◌, ℕ, ◌<◌, ◌≤◌, Bool, true, false, cond, not, ◌&&◌, ◌||◌, ◌==◌, nat_le, nat_lt, List, [], ◌∷◌, ◌++◌, length, refl, ap, sym, subst, ◌∙◌, arith, chars, encode_utf8_all, IsUtf8, Some, option_map, Result, Ok, Err, ℤ, ◌≤ℤ◌, int_le, FitsSigned, lit<}
use Rattle.std.specs.Prelude.{codes}
use lib.Utf8.{scalar}
use Rattle.std.specs.List.{list_all, flat_map}
use Rattle.std.specs.Str.{all_scalars, is_utf8}
use Rattle.std.specs.Str.Parse.{starts_with_minus, digits_value}
use Rattle.std.specs.Char.{is_control, is_ascii_digit}
use Rattle.std.specs.Int.{w64}
use Rattle.std.proofs.lemmas.Str.{IsUtf8-from_is_utf8, chars-encodes, encodes-chars, scalars-chars}
use Rattle.std.proofs.lemmas.Bool.Decides.{nat_tests}
use Rattle.std.proofs.lemmas.Int.{ints}
use Rattle.std.proofs.lemmas.List.Concat.{flat_map-cons}
use Rattle.std.proofs.lemmas.List.Folds.{list_all-append}
use Rattle.sq_base.specs.Xml.{is_xml_char, is_xml_text}
use Rattle.sq_base.specs.Limits.{most_corpus_bytes}
use Rattle.sq_schema.specs.Names as schema_names
use Rattle.sq_schema.specs.declared.values.NumberFault.{NumberFault}
use Rattle.sq_schema.specs.declared.values.NumberFault.TheVariants.{Shape}
use Rattle.sq_schema.specs.Values.{is_numeral, behind_minus, number_of, signed_64}
use Rattle.sq_schema.specs.Bounds.{least_number, greatest_number}
use Rattle.sq_model.specs.Limits.{most_name_bytes}
use Rattle.sq_model.specs.Valid.{is_name, is_text}
use Rattle.sq_corpus.specs.Escapes.{escaped, unescaped, behind_backslash, text_of}
use Rattle.sq_corpus.specs.Written.{escape, spelled}
use Rattle.sq_corpus.proofs.CleanLemmas.{both_true, left_true, right_true, apart}
use Rattle.sq_corpus.proofs.PlainLemmas.{in_field, Spelt, Plain, spelt_nil, spelt_cons, spelt_weaker, spelt_chars, scalars_append}

pub never : false ≡ true → ⊥
never e = cc

-- Characters that stand as they are.

xml_at : (a b c d e f : Bool) → d ≡ true → (a || b || c || d || e || f) ≡ true
xml_at true b c d e f p = refl
xml_at false true c d e f p = refl
xml_at false false true d e f p = refl
xml_at false false false true e f p = refl
xml_at false false false false e f p = cc

apart_by : (separator c : ℕ) → (c ≡ separator → ⊥) → apart separator c ≡ true
unfolding apart
apart_by separator c other = not_at (c == separator) (λ e. other (grind (arith, nat_tests, e)))
  where
    not_at : (t : Bool) → (t ≡ true → ⊥) → not t ≡ true
    not_at true none = absurd (none refl)
    not_at false none = refl

visible_xml : (c : ℕ) → 32 ≤ c → c < 127 → is_xml_char c ≡ true
unfolding is_xml_char
visible_xml c low high =
    xml_at (c == 9) (c == 10) (c == 13) (nat_le 32 c && nat_le c 55_295) (nat_le 57_344 c && nat_le c 65_533) (nat_le 65_536 c && nat_le c 1_114_111)
    (both_true (nat_le 32 c) (nat_le c 55_295) (grind (arith, nat_tests, low)) (grind (arith, nat_tests, high)))

pub visible : (c : ℕ) → 32 ≤ c → c < 127 → in_field c ≡ true
visible c low high =
    both_true _ _ (apart_by 9 c (λ e. omega (arith, low, e))) (both_true _ _ (visible_xml c low high) (apart_by 10 c (λ e. omega (arith, low, e))))

pub cons_visible : (c : ℕ) (rest : List ℕ) → 32 ≤ c → c < 127 → Plain rest → Plain (c ∷ rest)
cons_visible c rest low high behind = spelt_cons in_field c rest (omega (arith, high)) (visible c low high) behind

xml_in_field : (c : ℕ) → is_xml_char c ≡ true → (c ≡ 9 → ⊥) → (c ≡ 10 → ⊥) → in_field c ≡ true
xml_in_field c xml tab feed = both_true _ _ (apart_by 9 c tab) (both_true _ _ xml (apart_by 10 c feed))

-- Escapes.

-- one character with its escape
record Escaped (c : ℕ) (letters : List ℕ) : Type 0 where
  scalar : all_scalars letters ≡ true
  good : list_all in_field letters ≡ true
  back : (rest : List ℕ) → unescaped (letters ++ rest) ≡ option_map (λ text. c ∷ text) (unescaped rest)

escape_at : (one two three four : Bool) (c : ℕ) → scalar c ≡ true → is_xml_char c ≡ true
    → (one ≡ true → c ≡ 9) → (two ≡ true → c ≡ 10) → (three ≡ true → c ≡ 13) → (four ≡ true → c ≡ 92)
    → (one ≡ false → c ≡ 9 → ⊥) → (two ≡ false → c ≡ 10 → ⊥) → (four ≡ false → (c == 92) ≡ false)
    → Escaped c (cond one (codes "\\t") (cond two (codes "\\n") (cond three (codes "\\r") (cond four (codes "\\\\") (c ∷ [])))))
unfolding escaped is_xml_char apart
escape_at true two three four c scalar xml is9 is10 is13 is92 not9 not10 not92 =
    let P : ℕ → Type 0 = λ k. Escaped k (codes "\\t") in
    subst P (sym (is9 refl)) (record { scalar = refl; good = refl; back = λ rest. refl })
escape_at false true three four c scalar xml is9 is10 is13 is92 not9 not10 not92 =
    let P : ℕ → Type 0 = λ k. Escaped k (codes "\\n") in
    subst P (sym (is10 refl)) (record { scalar = refl; good = refl; back = λ rest. refl })
escape_at false false true four c scalar xml is9 is10 is13 is92 not9 not10 not92 =
    let P : ℕ → Type 0 = λ k. Escaped k (codes "\\r") in
    subst P (sym (is13 refl)) (record { scalar = refl; good = refl; back = λ rest. refl })
escape_at false false false true c scalar xml is9 is10 is13 is92 not9 not10 not92 =
    let P : ℕ → Type 0 = λ k. Escaped k (codes "\\\\") in
    subst P (sym (is92 refl)) (record { scalar = refl; good = refl; back = λ rest. refl })
escape_at false false false false c scalar xml is9 is10 is13 is92 not9 not10 not92 = record {
  scalar = both_true _ _ scalar refl;
  good = both_true _ _ (xml_in_field c xml (not9 refl) (not10 refl)) refl;
  back = λ rest. ap (λ t. cond t (behind_backslash rest) (option_map (λ text. c ∷ text) (unescaped rest))) (not92 refl);
}

is_at_true : (c n : ℕ) → (c == n) ≡ true → c ≡ n
is_at_true c n e = grind (arith, nat_tests, e)

is_at_false : (c n : ℕ) → (c == n) ≡ false → c ≡ n → ⊥
is_at_false c n e is = absurd (grind (arith, nat_tests, e, is))

escape_one : (c : ℕ) → scalar c ≡ true → is_xml_char c ≡ true → Escaped c (escape c)
unfolding escape
escape_one c scalar xml =
    escape_at (c == 9) (c == 10) (c == 13) (c == 92) c scalar xml (is_at_true c 9) (is_at_true c 10) (is_at_true c 13) (is_at_true c 92)
    (is_at_false c 9) (is_at_false c 10) (λ e. e)

-- a text of these characters, with its escapes
record EscapedText (cs : List ℕ) : Type 0 where
  scalar : all_scalars (flat_map escape cs) ≡ true
  good : list_all in_field (flat_map escape cs) ≡ true
  back : unescaped (flat_map escape cs) ≡ Some cs

escape_all : (cs : List ℕ) → all_scalars cs ≡ true → list_all is_xml_char cs ≡ true → EscapedText cs
escape_all [] scalars xml = record { scalar = refl; good = refl; back = refl }
escape_all (c ∷ cs) scalars xml =
    let one = escape_one c (left_true (scalar c) (all_scalars cs) scalars) (left_true (is_xml_char c) (list_all is_xml_char cs) xml) in
    let rest = escape_all cs (right_true (scalar c) (all_scalars cs) scalars) (right_true (is_xml_char c) (list_all is_xml_char cs) xml) in
    let split : flat_map escape (c ∷ cs) ≡ escape c ++ flat_map escape cs = flat_map-cons escape c cs in
    record {
      scalar = ap all_scalars split ∙ scalars_append (escape c) (flat_map escape cs) one.scalar rest.scalar;
      good = ap (list_all in_field) split ∙ list_all-append in_field (escape c) (flat_map escape cs) ∙ both_true _ _ one.good rest.good;
      back = ap unescaped split ∙ one.back (flat_map escape cs) ∙ ap (option_map (λ text. c ∷ text)) rest.back;
    }

-- a url or a text
record GoodText (text : List ℕ) : Type 0 where
  utf8 : IsUtf8 text
  xml : is_xml_text text ≡ true

good_text : (text : List ℕ) → is_text text ≡ true → GoodText text
good_text text good =
    let front = left_true (is_utf8 text && is_xml_text text) (nat_lt (length text) most_corpus_bytes) good in
    record {
      utf8 = IsUtf8-from_is_utf8 text (left_true (is_utf8 text) (is_xml_text text) front);
      xml = right_true (is_utf8 text) (is_xml_text text) front;
    }

pub spelled_plain : (text : List ℕ) → is_text text ≡ true → Plain (spelled text)
spelled_plain text good =
    let t = good_text text good in
    let all = escape_all (chars text) (scalars-chars text t.utf8) t.xml in
    record { letters = flat_map escape (chars text); scalar = all.scalar; good = all.good; is = refl }

pub spelled_back : (text : List ℕ) → is_text text ≡ true → text_of (spelled text) ≡ Some text
spelled_back text good =
    let t = good_text text good in
    let all = escape_all (chars text) (scalars-chars text t.utf8) t.xml in
    ap (λ cs. option_map encode_utf8_all (unescaped cs)) (chars-encodes (flat_map escape (chars text)) all.scalar)
    ∙ ap (option_map encode_utf8_all) all.back
    ∙ ap (λ t. Some t) (encodes-chars text t.utf8)

-- Texts that are written as they are.

-- a visible character that isn't the backslash
abbrev pub is_bare : ℕ → Bool
is_bare c = nat_le 32 c && nat_lt c 127 && not (c == 92)

abbrev pub Bare : List ℕ → Type 0
Bare = Spelt is_bare

record BareCharacter (c : ℕ) : Type 0 where
  low : 32 ≤ c
  high : c < 127
  other : (c == 92) ≡ false

bare_character : (c : ℕ) → is_bare c ≡ true → BareCharacter c
bare_character c good =
    let range : (nat_le 32 c && nat_lt c 127) ≡ true = left_true (nat_le 32 c && nat_lt c 127) (not (c == 92)) good in
    record {
      low = by_nat_le 32 c (left_true (nat_le 32 c) (nat_lt c 127) range);
      high = by_nat_lt c 127 (right_true (nat_le 32 c) (nat_lt c 127) range);
      other = of_not (c == 92) (right_true (nat_le 32 c && nat_lt c 127) (not (c == 92)) good);
    }
  where
    by_nat_le : (a b : ℕ) → nat_le a b ≡ true → a ≤ b
    by_nat_le a b e = grind (arith, nat_tests, e)

    by_nat_lt : (a b : ℕ) → nat_lt a b ≡ true → a < b
    by_nat_lt a b e = grind (arith, nat_tests, e)

    of_not : (t : Bool) → not t ≡ true → t ≡ false
    of_not true e = cc
    of_not false e = refl

is_other : (c n : ℕ) → n < 32 → 32 ≤ c → (c == n) ≡ false
is_other c n below above = grind (arith, nat_tests, below, above)

as_it_is : (one two three four : Bool) (c : ℕ) → one ≡ false → two ≡ false → three ≡ false → four ≡ false
    → cond one (codes "\\t") (cond two (codes "\\n") (cond three (codes "\\r") (cond four (codes "\\\\") (c ∷ [])))) ≡ c ∷ []
as_it_is true two three four c p q r s = cc
as_it_is false true three four c p q r s = cc
as_it_is false false true four c p q r s = cc
as_it_is false false false true c p q r s = cc
as_it_is false false false false c p q r s = refl

escape_bare : (c : ℕ) → is_bare c ≡ true → escape c ≡ c ∷ []
unfolding escape
escape_bare c good =
    let b = bare_character c good in
    as_it_is (c == 9) (c == 10) (c == 13) (c == 92) c (is_other c 9 (lit< tt) b.low) (is_other c 10 (lit< tt) b.low) (is_other c 13 (lit< tt) b.low) b.other

escapes_bare : (cs : List ℕ) → list_all is_bare cs ≡ true → flat_map escape cs ≡ cs
escapes_bare [] good = refl
escapes_bare (c ∷ cs) good =
    flat_map-cons escape c cs
    ∙ ap (λ front. front ++ flat_map escape cs) (escape_bare c (left_true (is_bare c) (list_all is_bare cs) good))
    ∙ ap (λ rest. c ∷ rest) (escapes_bare cs (right_true (is_bare c) (list_all is_bare cs) good))

pub bare_same : (text : List ℕ) → Bare text → spelled text ≡ text
bare_same text p =
    ap (λ cs. encode_utf8_all (flat_map escape cs)) (spelt_chars is_bare text p)
    ∙ ap encode_utf8_all (escapes_bare p.letters p.good)
    ∙ p.is

pub bare_plain : (text : List ℕ) → Bare text → Plain text
bare_plain text p = spelt_weaker is_bare in_field text (λ c good. let b = bare_character c good in visible c b.low b.high) p

below_backslash : (c : ℕ) → 32 ≤ c → c < 92 → is_bare c ≡ true
below_backslash c low high =
    let above : nat_le 32 c ≡ true = grind (arith, nat_tests, low) in
    let below : nat_lt c 127 ≡ true = grind (arith, nat_tests, high) in
    let other : (c == 92) ≡ false = grind (arith, nat_tests, high) in
    both_true (nat_le 32 c && nat_lt c 127) (not (c == 92)) (both_true (nat_le 32 c) (nat_lt c 127) above below) (ap not other)

pub cons_bare : (c : ℕ) (rest : List ℕ) → 32 ≤ c → c < 92 → Bare rest → Bare (c ∷ rest)
cons_bare c rest low high behind = spelt_cons is_bare c rest (omega (arith, high)) (below_backslash c low high) behind

pub bare_word : (word : List ℕ) → list_all is_bare word ≡ true → Bare word
bare_word [] good = spelt_nil is_bare
bare_word (c ∷ word) good =
    let here : is_bare c ≡ true = left_true (is_bare c) (list_all is_bare word) good in
    let b = bare_character c here in
    spelt_cons is_bare c word (omega (arith, b.high)) here (bare_word word (right_true (is_bare c) (list_all is_bare word) good))

-- Names.

no_control : (c : ℕ) → not (is_control c) ≡ true → (c ≡ 9 → ⊥) × (c ≡ 10 → ⊥)
no_control c good =
    let P : ℕ → Type 0 = λ k. not (is_control k) ≡ true in
    ((λ is. never (subst P is good)), (λ is. never (subst P is good)))

name_letters : (cs : List ℕ) → list_all is_xml_char cs ≡ true → list_all (λ c. not (is_control c)) cs ≡ true → list_all in_field cs ≡ true
name_letters [] xml good = refl
name_letters (c ∷ cs) xml good =
    let none = no_control c (left_true (not (is_control c)) (list_all (λ d. not (is_control d)) cs) good) in
    both_true _ _ (xml_in_field c (left_true (is_xml_char c) (list_all is_xml_char cs) xml) none.0 none.1)
    (name_letters cs (right_true (is_xml_char c) (list_all is_xml_char cs) xml)
    (right_true (not (is_control c)) (list_all (λ d. not (is_control d)) cs) good))

pub name_plain : (name : List ℕ) → is_name name ≡ true → Plain name
name_plain name good =
    let long : Bool = nat_le 1 (length name) in
    let short : Bool = nat_le (length name) most_name_bytes in
    let control = right_true (is_utf8 name && long && short && is_xml_text name) (list_all (λ c. not (is_control c)) (chars name)) good in
    let front = left_true (is_utf8 name && long && short && is_xml_text name) (list_all (λ c. not (is_control c)) (chars name)) good in
    let xml = right_true (is_utf8 name && long && short) (is_xml_text name) front in
    let lengths = left_true (is_utf8 name && long && short) (is_xml_text name) front in
    let utf8 = IsUtf8-from_is_utf8 name (left_true (is_utf8 name) long (left_true (is_utf8 name && long) short lengths)) in
    record { letters = chars name; scalar = scalars-chars name utf8; good = name_letters (chars name) xml control; is = encodes-chars name utf8 }

name_byte : (b : ℕ) → schema_names.is_name_byte b ≡ true → (32 ≤ b) × (b < 127)
unfolding schema_names.is_name_byte
name_byte b good = (grind (arith, nat_tests, good), grind (arith, nat_tests, good))

name_bytes : (name : List ℕ) → list_all schema_names.is_name_byte name ≡ true → Plain name
name_bytes [] good = spelt_nil in_field
name_bytes (b ∷ name) good =
    let byte = name_byte b (left_true (schema_names.is_name_byte b) (list_all schema_names.is_name_byte name) good) in
    cons_visible b name byte.0 byte.1 (name_bytes name (right_true (schema_names.is_name_byte b) (list_all schema_names.is_name_byte name) good))

pub row_name_plain : (name : List ℕ) → schema_names.is_name name ≡ true → Plain name
unfolding schema_names.is_name
row_name_plain name good = name_bytes name (right_true _ _ good)

-- Numbers.

digit_byte : (b : ℕ) → is_ascii_digit b ≡ true → (32 ≤ b) × (b < 92)
digit_byte b good = (grind (arith, nat_tests, good), grind (arith, nat_tests, good))

digits_bare : (digits : List ℕ) → list_all is_ascii_digit digits ≡ true → Bare digits
digits_bare [] good = spelt_nil is_bare
digits_bare (b ∷ digits) good =
    let byte = digit_byte b (left_true (is_ascii_digit b) (list_all is_ascii_digit digits) good) in
    cons_bare b digits byte.0 byte.1 (digits_bare digits (right_true (is_ascii_digit b) (list_all is_ascii_digit digits) good))

numeral_bare : (digits : List ℕ) → is_numeral digits ≡ true → Bare digits
unfolding is_numeral
numeral_bare digits good = digits_bare digits (right_true (nat_lt 0 (length digits)) (list_all is_ascii_digit digits) good)

minus_at : (t : Bool) (c : ℕ) (rest : List ℕ) → (t ≡ true → c ≡ 45) → is_numeral (cond t rest (c ∷ rest)) ≡ true → Bare (c ∷ rest)
minus_at true c rest is good =
    let minus : c ≡ 45 = is refl in
    cons_bare c rest (omega (arith, minus)) (omega (arith, minus)) (numeral_bare rest good)
minus_at false c rest is good = numeral_bare (c ∷ rest) good

behind_bare : (text : List ℕ) → is_numeral (behind_minus text) ≡ true → Bare text
unfolding behind_minus
behind_bare [] good = spelt_nil is_bare
behind_bare (c ∷ rest) good = minus_at (c == 45) c rest (is_at_true c 45) good

numeral_of : (t : Bool) (r : Result ℤ NumberFault) (n : ℤ) → cond t r (Err Shape) ≡ Ok n → t ≡ true
numeral_of true r n e = refl
numeral_of false r n e = cc

pub number_bare : (text : List ℕ) (n : ℤ) → number_of text ≡ Ok n → Bare text
unfolding number_of
number_bare text n e =
    behind_bare text (numeral_of (is_numeral (behind_minus text)) (signed_64 (starts_with_minus text) (digits_value 10 (behind_minus text))) n e)

pub fits_64 : (low high n : ℤ) → least_number ≤ℤ low → high ≤ℤ greatest_number
    → (int_le low n && int_le n high) ≡ true → FitsSigned w64 n
fits_64 low high n first last test =
    let above : int_le low n ≡ true = left_true (int_le low n) (int_le n high) test in
    let below : int_le n high ≡ true = right_true (int_le low n) (int_le n high) test in
    grind (arith, ints, first, last, above, below)
