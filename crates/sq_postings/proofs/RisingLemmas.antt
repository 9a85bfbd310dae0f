-- Lists that rise.
use Rattle.std.proofs.Common.{◌≡◌, inl, inr, ℕ, zero, suc, ◌<◌, Bool, true, List, [], ◌∷◌, length, get_or, refl, subst, arith}
use Rattle.std.proofs.lemmas.Bool.{cases_lt}
use Rattle.std.specs.List.{list_all}
use Rattle.std.specs.List.Sorted.{IsPartitionedBy}
use Rattle.std.specs.Prelude.{nat_lt}
use Rattle.std.proofs.lemmas.Bool.Decides.{nat_tests}
use Rattle.sq_cursor.specs.Rows.{AllAbove, IsRising}
use Rattle.sq_postings.specs.Rising.{rises}
use Rattle.sq_postings.proofs.OrderLemmas.{and_left, and_right}

pub all_at : {X : Type 0} (p : X → Bool) (xs : List X) (i : ℕ) (d : X) → list_all p xs ≡ true → i < length xs → p (get_or xs i d) ≡ true
all_at p [] i d h l = absurd (omega (arith, l))
all_at p (x ∷ xs) zero d h l = and_left (p x) (list_all p xs) h
all_at p (x ∷ xs) (suc i) d h l = all_at p xs i d (and_right (p x) (list_all p xs) h) (omega (arith, l))

pub rises_tail : {X : Type 0} (comes_before : X → X → Bool) (x : X) (xs : List X) → rises comes_before (x ∷ xs) ≡ true → rises comes_before xs ≡ true
rises_tail comes_before x [] h = refl
rises_tail comes_before x (y ∷ xs) h = and_right (comes_before x y) (rises comes_before (y ∷ xs)) h

module _ {X : Type 0} (comes_before : X → X → Bool) (chain : (x y z : X) → comes_before x y ≡ true → comes_before y z ≡ true → comes_before x z ≡ true) where
  -- the first comes before all later ones
  pub first_before : (x : X) (xs : List X) (j : ℕ) (d : X) → rises comes_before (x ∷ xs) ≡ true → j < length xs → comes_before x (get_or xs j d) ≡ true
  first_before x [] j d h l = absurd (omega (arith, l))
  first_before x (y ∷ xs) zero d h l = and_left (comes_before x y) (rises comes_before (y ∷ xs)) h
  first_before x (y ∷ xs) (suc j) d h l =
      chain x y (get_or xs j d) (and_left (comes_before x y) (rises comes_before (y ∷ xs)) h)
      (first_before y xs j d (and_right (comes_before x y) (rises comes_before (y ∷ xs)) h) (omega (arith, l)))

  pub rises_at : (xs : List X) (i j : ℕ) (d : X) → rises comes_before xs ≡ true → i < j → j < length xs → comes_before (get_or xs i d) (get_or xs j d) ≡ true
  rises_at [] i j d h l m = absurd (omega (arith, m))
  rises_at (x ∷ xs) i zero d h l m = absurd (omega (arith, l))
  rises_at (x ∷ xs) zero (suc j) d h l m = first_before x xs j d h (omega (arith, m))
  rises_at (x ∷ xs) (suc i) (suc j) d h l m = rises_at xs i j d (rises_tail comes_before x xs h) (omega (arith, l)) (omega (arith, m))

  -- a test that holds of what comes before one that passes it parts the list
  pub parted : (p : X → Bool) → ((x y : X) → comes_before x y ≡ true → p y ≡ true → p x ≡ true) → (xs : List X) → rises comes_before xs ≡ true → IsPartitionedBy p xs
  parted p down xs h i j d l m passes = elim (cases_lt i j) [
    | inl less ↦ down (get_or xs i d) (get_or xs j d) (rises_at xs i j d h less m) passes
    | inr same ↦ (let k : j ≡ i = omega (arith, l, same) in subst (λ n. p (get_or xs n d) ≡ true) k passes)
  ]

above : (low : ℕ) (x : ℕ) (xs : List ℕ) → low < x → AllAbove x xs → AllAbove low xs
above low x [] l h = tt
above low x (y ∷ xs) l h = let m = h.0 in (omega (arith, l, m), above low x xs l h.1)

-- rows that rise from each to the next one rise
pub rising_rows : (xs : List ℕ) → rises nat_lt xs ≡ true → IsRising xs
rising_rows [] h = tt
rising_rows (x ∷ []) h = (tt, tt)
rising_rows (x ∷ y ∷ xs) h =
    let more = rising_rows (y ∷ xs) (and_right (nat_lt x y) (rises nat_lt (y ∷ xs)) h) in
    let first : nat_lt x y ≡ true = and_left (nat_lt x y) (rises nat_lt (y ∷ xs)) h in
    let less : x < y = grind (arith, nat_tests) in
    ((less, above x y xs less more.0), more)
