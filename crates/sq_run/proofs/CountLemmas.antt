-- What is read as a count.
use Rattle.std.proofs.Common.{rules, ◌≡◌, ℕ, ◌+◌, ◌*◌, ◌^◌, ◌<◌, ◌≤◌, Bool, true, false, ◌&&◌, List, [], ◌∷◌, length, get_or, Some, None, Result, Ok, Err, refl, arith}
use Rattle.std.specs.Prelude.{nat_le}
use Rattle.std.specs.Char.{is_ascii_digit, digit_value}
use Rattle.std.specs.List.{list_all}
use Rattle.std.specs.Str.Parse.{digits_value, digits_value_after, ParsesUnsigned}
use Rattle.std.specs.Result.{OkIff}
use Rattle.std.proofs.lemmas.Bool.Decides.{nat_tests}
use Rattle.std.proofs.lemmas.Str.Parse.{IsNumeralModel, numerals_by_value, parse_plain}
use Rattle.sq_run.specs.Command.{is_plain, count_to}

own : IsNumeralModel (λ ds. list_all is_ascii_digit ds ≡ true) (digits_value 10)
own = numerals_by_value _ (search (rules, arith, nat_tests))

-- digits behind a number make it no smaller
grows : (n : ℕ) (cs : List ℕ) → n ≤ digits_value_after 10 n cs
grows n [] = omega arith
grows n (c ∷ cs) = omega (arith, grows (n * 10 + digit_value c) cs)

plain : (c : ℕ) (cs : List ℕ) → 49 ≤ c → c ≤ 57 → list_all is_ascii_digit cs ≡ true → is_plain (c ∷ cs) ≡ true
plain c cs low high digits = grind (arith, nat_tests, digits)

digits_of : (c : ℕ) (cs : List ℕ) → 49 ≤ c → c ≤ 57 → list_all is_ascii_digit cs ≡ true → list_all is_ascii_digit (c ∷ cs) ≡ true
digits_of c cs low high digits = grind (arith, nat_tests, digits)

rest_of : (c : ℕ) (cs : List ℕ) → 49 ≤ c → c ≤ 57 → list_all is_ascii_digit (c ∷ cs) ≡ true → list_all is_ascii_digit cs ≡ true
rest_of c cs low high digits = grind (arith, nat_tests, digits)

some_value : (c : ℕ) (cs : List ℕ) → 49 ≤ c → c ≤ 57 → 1 ≤ digits_value 10 (c ∷ cs)
some_value c cs low high =
    let digit : digit_value c + 48 ≡ c = grind (arith, nat_tests) in
    omega (arith, grows (0 * 10 + digit_value c) cs, digit, low)

module _ {E : Type 0} (most c : ℕ) (cs : List ℕ) (low : 49 ≤ c) (high : c ≤ 57) where
  parsed : (r : Result ℕ E) → ParsesUnsigned 32 10 (c ∷ cs) r
      → OkIff r ((list_all is_ascii_digit (c ∷ cs) ≡ true) × (0 < length (c ∷ cs)) × (digits_value 10 (c ∷ cs) < 2 ^ 32)) (digits_value 10 (c ∷ cs))
  parsed r h = parse_plain own 32 (c ∷ cs) r h (λ plus. omega (arith, plus, low))

  few : (n : ℕ) (r : Result ℕ E) → r ≡ Ok n → ParsesUnsigned 32 10 (c ∷ cs) r → n ≤ most → (Some n ≡ count_to most (c ∷ cs)) × (1 ≤ n)
  few n r is h small =
      let told : ((list_all is_ascii_digit (c ∷ cs) ≡ true) × (0 < length (c ∷ cs)) × (digits_value 10 (c ∷ cs) < 2 ^ 32)) × (n ≡ digits_value 10 (c ∷ cs)) =
      rw is at (parsed r h) in
      let bound : nat_le (digits_value 10 (c ∷ cs)) most ≡ true = grind (arith, nat_tests, told.1, small) in
      (rw (plain c cs low high (rest_of c cs low high told.0.0), bound, told.1) refl, omega (arith, told.1, some_value c cs low high))

  unread : (digits : Bool) → list_all is_ascii_digit cs ≡ digits → (e : E) (r : Result ℕ E) → r ≡ Err e → ParsesUnsigned 32 10 (c ∷ cs) r → most < 2 ^ 32
      → (is_plain (c ∷ cs) && nat_le (digits_value 10 (c ∷ cs)) most) ≡ false
  unread false none e r is h small = grind (arith, nat_tests, none)
  unread true all e r is h small =
      let no : ¬ ((list_all is_ascii_digit (c ∷ cs) ≡ true) × (0 < length (c ∷ cs)) × (digits_value 10 (c ∷ cs) < 2 ^ 32)) = rw is at (parsed r h) in
      let digits : list_all is_ascii_digit (c ∷ cs) ≡ true = digits_of c cs low high all in
      let some : 0 < length (c ∷ cs) = omega arith in
      let large : ¬ (digits_value 10 (c ∷ cs) < 2 ^ 32) = λ below. no (digits, some, below) in
      grind (arith, nat_tests, large, small)

-- a text that begins with a digit that isn't 0, and was read as a number
pub number_read : {E : Type 0} (most : ℕ) (bs : List ℕ) (n : ℕ) (r : Result ℕ E) → 1 ≤ length bs → 49 ≤ get_or bs 0 0 → get_or bs 0 0 ≤ 57 → r ≡ Ok n
    → ParsesUnsigned 32 10 bs r → n ≤ most → (Some n ≡ count_to most bs) × (1 ≤ n)
number_read most [] n r len low high is h small = absurd (omega (arith, len))
number_read most (c ∷ cs) n r len low high is h small = few most c cs low high n r is h small

-- and one that wasn't
pub nothing_read : {E : Type 0} (most : ℕ) (bs : List ℕ) (e : E) (r : Result ℕ E) → 1 ≤ length bs → 49 ≤ get_or bs 0 0 → get_or bs 0 0 ≤ 57 → r ≡ Err e
    → ParsesUnsigned 32 10 bs r → most < 2 ^ 32 → None ≡ count_to most bs
nothing_read most [] e r len low high is h small = absurd (omega (arith, len))
nothing_read most (c ∷ cs) e r len low high is h small = rw (unread most c cs low high (list_all is_ascii_digit cs) refl e r is h small) refl
