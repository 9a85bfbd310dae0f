-- Printed numbers are read as their values.
use Rattle.std.proofs.Common.{◌≡◌, ℕ, suc, ◌+◌, ◌*◌, ◌-◌, ◌<◌, ◌≤◌, ◌^◌, ◌==◌, nat_lt, true, false, [], ◌∷◌, length, Some, refl, ◌∙◌, ap, rules, arith, ℤ, pos, negsuc, neg_ℤ}
use Rattle.std.specs.Prelude.{unsigned_abs}
use Rattle.std.specs.Option.{option_map}
use Rattle.std.proofs.lemmas.Bool.Decides.{nat_tests}
use Rattle.std.proofs.lemmas.Fmt.{decimal_nonempty, digits_decimal, digits_value-decimal}
use Rattle.std.proofs.lemmas.Str.Parse.{IsNumeralModel, numerals_by_fold}
use Rattle.std.specs.Fmt.{decimal, signed_decimal}
use Rattle.std.specs.Char.{is_ascii_digit}
use Rattle.std.specs.List.{list_all}
use Rattle.sq_lex.specs.Bytes.{TextBytes}
use Rattle.sq_fql.specs.Number.{size_from, size, natural, whole}
use Rattle.sq_fql.proofs.CanonLexLemmas.{both_left, both_right}

abbrev value_from : ℕ → TextBytes → ℕ
value_from n [] = n
value_from n (b ∷ z) = value_from (10 * n + (b - 48)) z

value_grows : (n : ℕ) (z : TextBytes) → n ≤ value_from n z
value_grows n [] = omega arith
value_grows n (b ∷ z) = let more = value_grows (10 * n + (b - 48)) z in omega arith

size_whole : (n : ℕ) (z : TextBytes) (limit : ℕ) → list_all is_ascii_digit z ≡ true → value_from n z ≤ limit → size_from n z limit ≡ Some (value_from n z)
size_whole n [] limit all small = refl
size_whole n (b ∷ z) limit all small =
    let first = both_left (is_ascii_digit b) (list_all is_ascii_digit z) all in
    let others = both_right (is_ascii_digit b) (list_all is_ascii_digit z) all in
    let grows = value_grows (10 * n + (b - 48)) z in
    let test : nat_lt limit (10 * n + (b - 48)) ≡ false = grind (arith, nat_tests, grows, small) in
    rw (first, test) (size_whole (10 * n + (b - 48)) z limit others small)

own : IsNumeralModel (λ ds. list_all is_ascii_digit ds ≡ true) (value_from 0)
own = numerals_by_fold _ (search rules) value_from (record { empty = λ n. refl; more = λ n c cs in_range. let same : 10 * n + (c - 48) ≡ n * 10 + (c - 48) = omega arith in ap (λ m. value_from m cs) same })

module _ (n : ℕ) (wide : n < 2 ^ 64) where
  pub decimal_digits : list_all is_ascii_digit (decimal n) ≡ true
  decimal_digits = digits_decimal own n wide

  decimal_value : value_from 0 (decimal n) ≡ n
  decimal_value = digits_value-decimal own n wide

some_size : (z : TextBytes) (n limit : ℕ) → 0 < length z → list_all is_ascii_digit z ≡ true → value_from 0 z ≡ n → n ≤ limit → size z limit ≡ Some n
some_size [] n limit some all is small = absurd (omega arith)
some_size (b ∷ z) n limit some all is small = size_whole 0 (b ∷ z) limit all (omega (arith, is)) ∙ ap (λ m. Some m) is

unsigned : (z : TextBytes) (limit : ℕ) → list_all is_ascii_digit z ≡ true → natural z limit ≡ size z limit
unsigned [] limit all = refl
unsigned (b ∷ z) limit all =
    let first = both_left (is_ascii_digit b) (list_all is_ascii_digit z) all in
    let plain : (b == 45) ≡ false = grind (arith, nat_tests, first) in rw plain refl

positive : (z : TextBytes) (limit : ℕ) → 0 < length z → list_all is_ascii_digit z ≡ true → whole z limit ≡ option_map pos (size z limit)
positive [] limit some all = absurd (omega arith)
positive (b ∷ z) limit some all =
    let first = both_left (is_ascii_digit b) (list_all is_ascii_digit z) all in
    let plain : (b == 45) ≡ false = grind (arith, nat_tests, first) in rw plain refl

pub natural_decimal : (n limit : ℕ) → n ≤ limit → limit < 2 ^ 64 → natural (decimal n) limit ≡ Some n
natural_decimal n limit small low =
    let wide : n < 2 ^ 64 = omega arith in
    unsigned (decimal n) limit (decimal_digits n wide) ∙ some_size (decimal n) n limit (decimal_nonempty n wide) (decimal_digits n wide) (decimal_value n wide) small

pub whole_decimal : (cb : ℤ) (limit : ℕ) → unsigned_abs cb ≤ limit → limit < 2 ^ 64 → whole (signed_decimal cb) limit ≡ Some cb
whole_decimal (pos n) limit small low =
    let wide : n < 2 ^ 64 = omega arith in
    positive (decimal n) limit (decimal_nonempty n wide) (decimal_digits n wide)
    ∙ ap (option_map pos) (some_size (decimal n) n limit (decimal_nonempty n wide) (decimal_digits n wide) (decimal_value n wide) small)
whole_decimal (negsuc n) limit small low =
    let wide : suc n < 2 ^ 64 = omega arith in
    ap (option_map (λ m. neg_ℤ (pos m))) (some_size (decimal (suc n)) (suc n) limit (decimal_nonempty (suc n) wide) (decimal_digits (suc n) wide) (decimal_value (suc n) wide) small)
