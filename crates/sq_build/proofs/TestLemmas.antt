-- Tests joined by and, and less of numbers.
use Rattle.std.proofs.Common.{◌≡◌, ℕ, ◌<◌, ◌&&◌, nat_lt, Bool, true, false, refl, arith}
use Rattle.std.proofs.lemmas.Bool.Decides.{nat_tests}

pub both_true : (a b : Bool) → a ≡ true → b ≡ true → (a && b) ≡ true
both_true true b p q = q
both_true false b p q = absurd (cc)

pub first_true : (a b : Bool) → (a && b) ≡ true → a ≡ true
first_true true b p = refl
first_true false b p = absurd (cc)

pub second_true : (a b : Bool) → (a && b) ≡ true → b ≡ true
second_true true b p = p
second_true false b p = absurd (cc)

pub to_lt : (a b : ℕ) → nat_lt a b ≡ true → a < b
to_lt a b p = grind (arith, nat_tests)

pub from_lt : (a b : ℕ) → a < b → nat_lt a b ≡ true
from_lt a b l = grind (arith, nat_tests)
