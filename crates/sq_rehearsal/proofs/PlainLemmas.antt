-- Short texts of printing ASCII characters are texts of a corpus.
use Rattle.std.proofs.Common.{arith, ◌≡◌, ℕ, zero, suc, ◌+◌, ◌*◌, ◌<◌, ◌≤◌, ◌^◌, Bool, true, false, not, ◌&&◌, nat_le, nat_lt, List, [], ◌∷◌, ◌++◌, length, length-append, refl, ap, ◌∙◌}
use Rattle.std.specs.Prelude.{decimal, chars, IsAscii, flat_map}
use Rattle.std.specs.List.{list_all}
use Rattle.std.specs.Char.{is_control}
use Rattle.std.specs.Str.{is_utf8}
use Rattle.std.specs.Str.Parse.{AllDigits}
use Rattle.std.proofs.lemmas.Bool.Decides.{nat_tests}
use Rattle.std.proofs.lemmas.Fmt.{decimal_is_IsNumeral, length-decimal-le}
use Rattle.std.proofs.lemmas.List.Folds.{list_all-append}
use Rattle.std.proofs.lemmas.Str.{IsUtf8-from_ascii, chars-IsAscii, is_utf8-from_IsUtf8}
use Rattle.std.proofs.lemmas.Str.Parse.{digit_from_value}
use Rattle.sq_base.specs.Xml.{is_xml_char, is_xml_text}
use Rattle.sq_model.specs.Valid.{is_text, is_name}

pub both : (a b : Bool) → a ≡ true → b ≡ true → (a && b) ≡ true
both a b h k = ap (λ t. t && b) h ∙ k

left : (a b : Bool) → (a && b) ≡ true → a ≡ true
left true b h = refl
left false b h = h

right : (a b : Bool) → (a && b) ≡ true → b ≡ true
right true b h = h
right false b h = absurd (grind arith)

pub below : (a b : ℕ) → a ≤ b → nat_le a b ≡ true
below a b h = grind (arith, nat_tests)

pub under : (a b : ℕ) → a < b → nat_lt a b ≡ true
under a b h = grind (arith, nat_tests)

-- a blank, or an ASCII character that prints
abbrev pub prints : ℕ → Bool
prints c = nat_le 32 c && nat_le c 126

-- at most so many characters that print
pub record Plain (text : List ℕ) (most : ℕ) : Type 0 where
  pub printing : list_all prints text ≡ true
  pub short : length text ≤ most

pub plain_append : (a b : List ℕ) (m n : ℕ) → Plain a m → Plain b n → Plain (a ++ b) (m + n)
plain_append a b m n p q = record {
  printing = list_all-append prints a b ∙ both (list_all prints a) (list_all prints b) p.printing q.printing;
  short = omega (arith, length-append a b, p.short, q.short);
}

pub plain_each : (f : ℕ → List ℕ) (most : ℕ) → ((x : ℕ) → Plain (f x) most) → (xs : List ℕ) (bound : ℕ) → bound ≡ length xs * most → Plain (flat_map f xs) bound
plain_each f most each [] bound e = record { printing = refl; short = omega arith }
plain_each f most each (x ∷ xs) bound e =
    let all = plain_append (f x) (flat_map f xs) most (length xs * most) (each x) (plain_each f most each xs (length xs * most) refl) in
    record { printing = all.printing; short = omega (arith, all.short, e) }

digits_print : (ds : List ℕ) → AllDigits 10 ds → list_all prints ds ≡ true
digits_print [] all = refl
digits_print (c ∷ cs) all =
    let at = digit_from_value c all.0 in
    both (prints c) (list_all prints cs) (both (nat_le 32 c) (nat_le c 126) (below 32 c (omega (arith, at))) (below c 126 (omega (arith, at)))) (digits_print cs all.1)

pub plain_decimal : (most n : ℕ) → 0 < most → n < 10 ^ most → n < 2 ^ 64 → Plain (decimal n) most
plain_decimal most n some fits small = record {
  printing = digits_print (decimal n) (decimal_is_IsNumeral n small).0.1;
  short = length-decimal-le most n some fits small;
}

prints_low : (c : ℕ) → prints c ≡ true → c < 128
prints_low c h = let low = right (nat_le 32 c) (nat_le c 126) h in grind (arith, nat_tests, low)

ascii : (text : List ℕ) → list_all prints text ≡ true → IsAscii text
ascii [] h i = omega arith
ascii (c ∷ cs) h zero = prints_low c (left (prints c) (list_all prints cs) h)
ascii (c ∷ cs) h (suc i) = ascii cs (right (prints c) (list_all prints cs) h) i

prints_xml : (c : ℕ) → prints c ≡ true → is_xml_char c ≡ true
unfolding is_xml_char
prints_xml c h =
    let low = left (nat_le 32 c) (nat_le c 126) h in
    let high = right (nat_le 32 c) (nat_le c 126) h in
    grind (arith, nat_tests, low, high)

all_xml : (text : List ℕ) → list_all prints text ≡ true → list_all is_xml_char text ≡ true
all_xml [] h = refl
all_xml (c ∷ cs) h =
    both (is_xml_char c) (list_all is_xml_char cs) (prints_xml c (left (prints c) (list_all prints cs) h)) (all_xml cs (right (prints c) (list_all prints cs) h))

pub plain_text : (text : List ℕ) (most : ℕ) → Plain text most → most < 67_108_864 → is_text text ≡ true
plain_text text most plain few =
    let low = ascii text plain.printing in
    let utf8 = is_utf8-from_IsUtf8 text (IsUtf8-from_ascii text low) in
    let xml : is_xml_text text ≡ true = ap (list_all is_xml_char) (chars-IsAscii text low) ∙ all_xml text plain.printing in
    both (is_utf8 text && is_xml_text text) (nat_lt (length text) 67_108_864) (both (is_utf8 text) (is_xml_text text) utf8 xml)
    (under (length text) 67_108_864 (omega (arith, plain.short, few)))

prints_on : (c : ℕ) → prints c ≡ true → not (is_control c) ≡ true
prints_on c h =
    let low = left (nat_le 32 c) (nat_le c 126) h in
    let high = right (nat_le 32 c) (nat_le c 126) h in
    grind (arith, nat_tests, low, high)

no_controls : (text : List ℕ) → list_all prints text ≡ true → list_all (λ c. not (is_control c)) text ≡ true
no_controls [] h = refl
no_controls (c ∷ cs) h =
    both (not (is_control c)) (list_all (λ d. not (is_control d)) cs) (prints_on c (left (prints c) (list_all prints cs) h)) (no_controls cs (right (prints c) (list_all prints cs) h))

pub plain_name : (text : List ℕ) (most : ℕ) → 1 ≤ length text → Plain text most → most ≤ 128 → is_name text ≡ true
plain_name text most some plain few =
    let low = ascii text plain.printing in
    let same = chars-IsAscii text low in
    let utf8 = is_utf8-from_IsUtf8 text (IsUtf8-from_ascii text low) in
    let xml : is_xml_text text ≡ true = ap (list_all is_xml_char) same ∙ all_xml text plain.printing in
    let on : list_all (λ c. not (is_control c)) (chars text) ≡ true = ap (list_all (λ c. not (is_control c))) same ∙ no_controls text plain.printing in
    both (is_utf8 text && nat_le 1 (length text) && nat_le (length text) 128 && is_xml_text text) (list_all (λ c. not (is_control c)) (chars text))
    (both (is_utf8 text && nat_le 1 (length text) && nat_le (length text) 128) (is_xml_text text)
    (both (is_utf8 text && nat_le 1 (length text)) (nat_le (length text) 128)
    (both (is_utf8 text) (nat_le 1 (length text)) utf8 (below 1 (length text) some))
    (below (length text) 128 (omega (arith, plain.short, few)))) xml) on

pub letters : (text : List ℕ) (most : ℕ) → list_all prints text ≡ true → length text ≤ most → Plain text most
letters text most printing short = record { printing = printing; short = short }
