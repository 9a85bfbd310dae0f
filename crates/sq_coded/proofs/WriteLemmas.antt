-- The steps of the loops that write codes.
use Rattle.std.proofs.Common.{◌≡◌, ℕ, ◌+◌, ◌-◌, ◌*◌, ◌/◌, ◌%◌, ◌^◌, ◌<◌, ◌≤◌, true, false, nat_lt, List, [], ◌∷◌, length, drop, get_or, refl, ap, ◌∙◌, arith, zero, suc, cond}
use Rattle.std.proofs.Math.Nat.{pow-succ'}
use Rattle.std.proofs.lemmas.Bool.Decides.{nat_tests}
use Rattle.sq_coded.specs.Coded.{digits, number_bytes, packed, last_row}
use Rattle.sq_coded.specs.declared.posting.Posting.{Posting}

digits_enough : (more n : ℕ) → n < 128 ^ suc more → digits more n ≡ digits (suc more) n
digits_enough zero n l =
    let test : nat_lt n 128 ≡ true = let k : n < 128 = l in grind (arith, nat_tests) in rw test refl
digits_enough (suc more) n l =
    ap (λ rest. cond (nat_lt n 128) (n ∷ []) ((128 + n % 128) ∷ rest)) (digits_enough more (n / 128) (let p = pow-succ' 128 (suc more) in omega (arith, l, p)))

pub number_more : (n : ℕ) → 128 ≤ n → n < 2 ^ 32 → number_bytes n ≡ (128 + n % 128) ∷ number_bytes (n / 128)
unfolding number_bytes
number_more n big l =
    let test : nat_lt n 128 ≡ false = grind (arith, nat_tests) in
    let k : n < 4_294_967_296 = l in
    let m : n / 128 < 268_435_456 = omega (arith, k) in
    ap (λ b. cond b (n ∷ []) ((128 + n % 128) ∷ digits 3 (n / 128))) test ∙ ap (λ rest. (128 + n % 128) ∷ rest) (digits_enough 3 (n / 128) m)

pub number_last : (n : ℕ) → n < 128 → number_bytes n ≡ n ∷ []
unfolding number_bytes
number_last n l =
    let test : nat_lt n 128 ≡ true = grind (arith, nat_tests) in
    ap (λ b. cond b (n ∷ []) ((128 + n % 128) ∷ digits 3 (n / 128))) test

-- one more word
pub packed_more : (at : ℕ) (bytes : List ℕ) → at < length bytes →
    packed (drop at bytes) ≡ ((get_or bytes at 0 + 256 * get_or bytes (at + 1) 0) + 65_536 * (get_or bytes (at + 2) 0 + 256 * get_or bytes (at + 3) 0)) ∷ packed (drop (at + 4) bytes)
packed_more at [] l = absurd (omega (arith, l))
packed_more zero (a ∷ []) l = let e : a ≡ (a + 256 * 0) + 65_536 * (0 + 256 * 0) = omega arith in ap (λ w. w ∷ []) e
packed_more zero (a ∷ b ∷ []) l = let e : a + 256 * b ≡ (a + 256 * b) + 65_536 * (0 + 256 * 0) = omega arith in ap (λ w. w ∷ []) e
packed_more zero (a ∷ b ∷ c ∷ []) l = let e : a + 256 * (b + 256 * c) ≡ (a + 256 * b) + 65_536 * (c + 256 * 0) = omega arith in ap (λ w. w ∷ []) e
packed_more zero (a ∷ b ∷ c ∷ d ∷ bytes) l =
    let e : a + 256 * (b + 256 * (c + 256 * d)) ≡ (a + 256 * b) + 65_536 * (c + 256 * d) = omega arith in ap (λ w. w ∷ packed bytes) e
packed_more (suc at) (b ∷ bytes) l =
    let one : suc at + 1 ≡ suc (at + 1) = omega arith in
    let two : suc at + 2 ≡ suc (at + 2) = omega arith in
    let three : suc at + 3 ≡ suc (at + 3) = omega arith in
    let four : suc at + 4 ≡ suc (at + 4) = omega arith in
    rw (one, two, three, four) (packed_more at bytes (omega (arith, l)))

pub length-packed_is : (bytes : List ℕ) → length (packed bytes) ≡ (length bytes + 3) / 4
length-packed_is [] = omega arith
length-packed_is (a ∷ []) = omega arith
length-packed_is (a ∷ b ∷ []) = omega arith
length-packed_is (a ∷ b ∷ c ∷ []) = omega arith
length-packed_is (a ∷ b ∷ c ∷ d ∷ bytes) = omega (arith, length-packed_is bytes)

pub last_row_at : (entries : List Posting) (d : Posting) → 0 < length entries → (get_or entries (length entries - 1) d).row ≡ last_row entries
last_row_at [] d l = absurd (omega (arith, l))
last_row_at (e ∷ []) d l = refl
last_row_at (e ∷ f ∷ entries) d l =
    let n : suc (suc (length entries)) - 1 ≡ suc (suc (length entries) - 1) = omega arith in
    rw n (last_row_at (f ∷ entries) d (omega arith))
