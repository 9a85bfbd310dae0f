-- Numbers and words are read back from their bytes.
use Rattle.std.proofs.Common.{◌≡◌, ℕ, ◌+◌, ◌-◌, ◌*◌, ◌/◌, ◌%◌, ◌^◌, ◌<◌, ◌≤◌, Bool, true, false, nat_lt, List, [], ◌∷◌, ◌++◌, length, refl, ap, ◌∙◌, arith, zero, suc, cond, append_assoc, length-append}
use Rattle.std.proofs.Math.Nat.{pow-succ'}
use Rattle.std.proofs.lemmas.Bool.Decides.{nat_tests}
use Rattle.std.specs.Prelude.{⊤}
use Rattle.sq_coded.specs.Coded.{AreWords, digits, number_bytes, numbers_bytes, number_of, numbers_of, packed, unpacked, word_bytes}
use Rattle.sq_coded.specs.declared.posting.Posting.{Posting}

-- ---- numbers

quotient : (n k : ℕ) → n < 128 * k → n / 128 < k
quotient n k l = omega (arith, l)

digits_back : (more n : ℕ) (bytes : List ℕ) → n < 128 ^ suc more → number_of (digits more n ++ bytes) ≡ (n, bytes)
digits_back zero n bytes l =
    let test : nat_lt n 128 ≡ true = let k : n < 128 = l in grind (arith, nat_tests) in rw test refl
digits_back (suc more) n bytes l = at (nat_lt n 128) refl (λ k. digits_back more (n / 128) bytes k)
  where
    at : (b : Bool) → nat_lt n 128 ≡ b → (n / 128 < 128 ^ suc more → number_of (digits more (n / 128) ++ bytes) ≡ (n / 128, bytes)) →
        number_of ((cond b (n ∷ []) ((128 + n % 128) ∷ digits more (n / 128))) ++ bytes) ≡ (n, bytes)
    at true e more' = rw e refl
    at false e more' =
        let small : n / 128 < 128 ^ suc more = quotient n (128 ^ suc more) (omega (arith, l, pow-succ' 128 (suc more))) in
        let test : nat_lt (128 + n % 128) 128 ≡ false = grind (arith, nat_tests) in
        let value : 128 + n % 128 - 128 + 128 * (n / 128) ≡ n = omega arith in
        rw (test, more' small, value) refl

pub number_back : (n : ℕ) (bytes : List ℕ) → n < 2 ^ 32 → number_of (number_bytes n ++ bytes) ≡ (n, bytes)
unfolding number_bytes
number_back n bytes l = digits_back 4 n bytes (let k : n < 4_294_967_296 = l in let m : n < 34_359_738_368 = omega (arith, k) in m)

pub numbers_back : (d : Posting) (bytes : List ℕ) → AreWords d → numbers_of (numbers_bytes d ++ bytes) ≡ (d, bytes)
numbers_back d bytes w =
    rw (
      append_assoc,
      append_assoc,
      number_back d.row (number_bytes d.ordinal ++ (number_bytes d.place ++ bytes)) w.row,
      number_back d.ordinal (number_bytes d.place ++ bytes) w.ordinal,
      number_back d.place bytes w.place,
    ) refl

-- ---- bytes

abbrev pub AreBytes : List ℕ → Type 0
AreBytes [] = ⊤
AreBytes (b ∷ bytes) = (b < 256) × AreBytes bytes

pub AreBytes-append : (xs ys : List ℕ) → AreBytes xs → AreBytes ys → AreBytes (xs ++ ys)
AreBytes-append [] ys p q = q
AreBytes-append (x ∷ xs) ys p q = (p.0, AreBytes-append xs ys p.1 q)

AreBytes-digits : (more n : ℕ) → n < 128 ^ suc more → AreBytes (digits more n)
AreBytes-digits zero n l = (let k : n < 128 = l in omega (arith, k), tt)
AreBytes-digits (suc more) n l = at (nat_lt n 128) refl (λ k. AreBytes-digits more (n / 128) k)
  where
    at : (b : Bool) → nat_lt n 128 ≡ b → (n / 128 < 128 ^ suc more → AreBytes (digits more (n / 128))) →
        AreBytes (cond b (n ∷ []) ((128 + n % 128) ∷ digits more (n / 128)))
    at true e more' = (let k : n < 128 = grind (arith, nat_tests) in omega (arith, k), tt)
    at false e more' = (omega arith, more' (quotient n (128 ^ suc more) (omega (arith, l, pow-succ' 128 (suc more)))))

AreBytes-number : (n : ℕ) → n < 2 ^ 32 → AreBytes (number_bytes n)
unfolding number_bytes
AreBytes-number n l = AreBytes-digits 4 n (let k : n < 4_294_967_296 = l in let m : n < 34_359_738_368 = omega (arith, k) in m)

pub AreBytes-numbers : (d : Posting) → AreWords d → AreBytes (numbers_bytes d)
AreBytes-numbers d w = AreBytes-append _ _ (AreBytes-number d.row w.row) (AreBytes-append _ _ (AreBytes-number d.ordinal w.ordinal) (AreBytes-number d.place w.place))

length-digits : (more n : ℕ) → length (digits more n) ≤ suc more
length-digits zero n = omega arith
length-digits (suc more) n = at (nat_lt n 128) (length-digits more (n / 128))
  where
    at : (b : Bool) → length (digits more (n / 128)) ≤ suc more → length (cond b (n ∷ []) ((128 + n % 128) ∷ digits more (n / 128))) ≤ suc (suc more)
    at true l = omega arith
    at false l = omega (arith, l)

length-number : (n : ℕ) → length (number_bytes n) ≤ 5
unfolding number_bytes
length-number n = length-digits 4 n

pub length-numbers : (d : Posting) → length (numbers_bytes d) ≤ 15
length-numbers d =
    omega (
      arith,
      length-append (number_bytes d.row) (number_bytes d.ordinal ++ number_bytes d.place),
      length-append (number_bytes d.ordinal) (number_bytes d.place),
      length-number d.row,
      length-number d.ordinal,
      length-number d.place,
    )

-- ---- words

pub length-packed : (bytes : List ℕ) → 4 * length (packed bytes) ≤ length bytes + 3
length-packed [] = omega arith
length-packed (a ∷ []) = omega arith
length-packed (a ∷ b ∷ []) = omega arith
length-packed (a ∷ b ∷ c ∷ []) = omega arith
length-packed (a ∷ b ∷ c ∷ d ∷ bytes) = omega (arith, length-packed bytes)

low_byte : (a x : ℕ) → a < 256 → (a + 256 * x) % 256 ≡ a
low_byte a x l = omega (arith, l)

high_bytes : (a x : ℕ) → a < 256 → (a + 256 * x) / 256 ≡ x
high_bytes a x l = omega (arith, l)

-- the zeros that fill up the last word
abbrev pub filling : List ℕ → List ℕ
filling [] = []
filling (a ∷ []) = 0 ∷ 0 ∷ 0 ∷ []
filling (a ∷ b ∷ []) = 0 ∷ 0 ∷ []
filling (a ∷ b ∷ c ∷ []) = 0 ∷ []
filling (a ∷ b ∷ c ∷ d ∷ bytes) = filling bytes

word_back : (a b c d : ℕ) → a < 256 → b < 256 → c < 256 → d < 256 → word_bytes 4 (a + 256 * (b + 256 * (c + 256 * d))) ≡ a ∷ b ∷ c ∷ d ∷ []
word_back a b c d la lb lc ld =
    rw (
      low_byte a (b + 256 * (c + 256 * d)) la,
      high_bytes a (b + 256 * (c + 256 * d)) la,
      low_byte b (c + 256 * d) lb,
      high_bytes b (c + 256 * d) lb,
      low_byte c d lc,
      high_bytes c d lc,
      let e : d % 256 ≡ d = omega (arith, ld) in e,
    ) refl

pub packed_back : (bytes : List ℕ) → AreBytes bytes → unpacked (packed bytes) ≡ bytes ++ filling bytes
packed_back [] p = refl
packed_back (a ∷ []) p =
    let e : a ≡ a + 256 * (0 + 256 * (0 + 256 * 0)) = omega arith in
    ap (λ w. word_bytes 4 w ++ []) e ∙ ap (λ w. w ++ []) (word_back a 0 0 0 p.0 (omega arith) (omega arith) (omega arith))
packed_back (a ∷ b ∷ []) p =
    let e : a + 256 * b ≡ a + 256 * (b + 256 * (0 + 256 * 0)) = omega arith in
    ap (λ w. word_bytes 4 w ++ []) e ∙ ap (λ w. w ++ []) (word_back a b 0 0 p.0 p.1.0 (omega arith) (omega arith))
packed_back (a ∷ b ∷ c ∷ []) p =
    let e : a + 256 * (b + 256 * c) ≡ a + 256 * (b + 256 * (c + 256 * 0)) = omega arith in
    ap (λ w. word_bytes 4 w ++ []) e ∙ ap (λ w. w ++ []) (word_back a b c 0 p.0 p.1.0 p.1.1.0 (omega arith))
packed_back (a ∷ b ∷ c ∷ d ∷ bytes) p =
    ap (λ w. w ++ unpacked (packed bytes)) (word_back a b c d p.0 p.1.0 p.1.1.0 p.1.1.1.0)
    ∙ ap (λ w. a ∷ b ∷ c ∷ d ∷ w) (packed_back bytes p.1.1.1.1)

pub unpacked-append : (xs ys : List ℕ) → unpacked (xs ++ ys) ≡ unpacked xs ++ unpacked ys
unpacked-append [] ys = refl
unpacked-append (x ∷ xs) ys =
    ap (λ w. word_bytes 4 x ++ w) (unpacked-append xs ys)

pub five_bytes : (n : ℕ) → n < 2 ^ 32 → n < 128 ^ suc 4
five_bytes n l = let k : n < 4_294_967_296 = l in let m : n < 34_359_738_368 = omega (arith, k) in m
