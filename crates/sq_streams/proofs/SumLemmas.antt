-- Sums, and what counts at one number alone.
use Rattle.std.proofs.Common.{◌≡◌, ◌≤◌, ℕ, ◌+◌, ◌*◌, Bool, true, false, not, ◌&&◌, ◌||◌, List, [], ◌∷◌, length, refl, sym, ap, subst, arith, cond}
use Rattle.std.specs.Prelude.{nat_eq, if◌then◌else◌, sum_by, filter}
use Rattle.std.specs.List.{list_any}
use Rattle.std.proofs.lemmas.Bool.{eqb-true}
use Rattle.std.proofs.lemmas.List.Sums.{sum_by-cons}
use Rattle.sq_streams.specs.TreePrices.{are_distinct}

pub and_left : (a b : Bool) → (a && b) ≡ true → a ≡ true
and_left true b e = refl
and_left false b e = e

pub and_right : (a b : Bool) → (a && b) ≡ true → b ≡ true
and_right true b e = e
and_right false b e = cc

pub or_left_false : (a b : Bool) → (a || b) ≡ false → a ≡ false
or_left_false true b e = e
or_left_false false b e = refl

pub or_right_false : (a b : Bool) → (a || b) ≡ false → b ≡ false
or_right_false true b e = cc
or_right_false false b e = e

not_true : (a : Bool) → not a ≡ true → a ≡ false
not_true true e = cc
not_true false e = refl

module _ {X : Type 0} where
  pub sum_zero : (f : X → ℕ) (xs : List X) → ((x : X) → f x ≡ 0) → sum_by f xs ≡ 0
  sum_zero f [] h = refl
  sum_zero f (x ∷ xs) h = let e = sum_by-cons f x xs in let first = h x in let more = sum_zero f xs h in omega (arith, e, first, more)

  pub sum_both : (f g : X → ℕ) (xs : List X) → sum_by (λ x. f x + g x) xs ≡ sum_by f xs + sum_by g xs
  sum_both f g [] = refl
  sum_both f g (x ∷ xs) =
      let e = sum_by-cons (λ x. f x + g x) x xs in let a = sum_by-cons f x xs in let b = sum_by-cons g x xs in let more = sum_both f g xs in
      omega (arith, e, a, b, more)

  pub sum_same : (f g : X → ℕ) (xs : List X) → ((x : X) → f x ≡ g x) → sum_by f xs ≡ sum_by g xs
  sum_same f g [] h = refl
  sum_same f g (x ∷ xs) h =
      let a = sum_by-cons f x xs in let b = sum_by-cons g x xs in let first = h x in let more = sum_same f g xs h in
      omega (arith, a, b, first, more)

  pub sum_bound : (f : X → ℕ) (most : ℕ) (xs : List X) → ((x : X) → f x ≤ most) → sum_by f xs ≤ length xs * most
  sum_bound f most [] h = omega arith
  sum_bound f most (x ∷ xs) h =
      let a = sum_by-cons f x xs in let first = h x in let more = sum_bound f most xs h in
      let whole : length (x ∷ xs) * most ≡ most + length xs * most = grind arith in
      omega (arith, a, first, more, whole)

-- ---- numbers that differ

-- what counts at one number alone
abbrev pub at_one : ℕ → ℕ → ℕ → ℕ
at_one n most v = if nat_eq n v then most else 0

none_of : (n most : ℕ) (vs : List ℕ) → list_any (nat_eq n) vs ≡ false → sum_by (at_one n most) vs ≡ 0
none_of n most [] e = refl
none_of n most (v ∷ vs) e =
    let first : at_one n most v ≡ 0 = ap (λ b. if b then most else 0) (or_left_false (nat_eq n v) (list_any (nat_eq n) vs) e) in
    let more = none_of n most vs (or_right_false (nat_eq n v) (list_any (nat_eq n) vs) e) in
    let whole = sum_by-cons (at_one n most) v vs in
    omega (arith, first, more, whole)

pub once : (n most : ℕ) (vs : List ℕ) → are_distinct vs ≡ true → sum_by (at_one n most) vs ≤ most
once n most [] d = omega arith
once n most (v ∷ vs) d = at (nat_eq n v) refl (once n most vs (and_right (not (list_any (nat_eq v) vs)) (are_distinct vs) d))
  where
    alone : list_any (nat_eq v) vs ≡ false
    alone = not_true (list_any (nat_eq v) vs) (and_left (not (list_any (nat_eq v) vs)) (are_distinct vs) d)

    at : (b : Bool) → nat_eq n v ≡ b → sum_by (at_one n most) vs ≤ most → sum_by (at_one n most) (v ∷ vs) ≤ most
    at true same more =
        let first : at_one n most v ≡ most = ap (λ b. if b then most else 0) same in
        let none = none_of n most vs (subst (λ k. list_any (nat_eq k) vs ≡ false) (sym (eqb-true n v same)) alone) in
        let whole = sum_by-cons (at_one n most) v vs in
        omega (arith, first, none, whole)
    at false same more =
        let first : at_one n most v ≡ 0 = ap (λ b. if b then most else 0) same in
        let whole = sum_by-cons (at_one n most) v vs in
        omega (arith, first, more, whole)

-- each of some things counts at its number alone: together they count at most once
module _ {X : Type 0} (number cost : X → ℕ) where
  abbrev at_number : List X → ℕ → ℕ
  at_number xs v = sum_by cost (filter (λ x. nat_eq (number x) v) xs)

  at_first : (x : X) (xs : List X) (v : ℕ) → at_number (x ∷ xs) v ≡ at_one (number x) (cost x) v + at_number xs v
  at_first x xs v = at (nat_eq (number x) v)
    where
      at : (b : Bool) → sum_by cost (cond b (x ∷ filter (λ x. nat_eq (number x) v) xs) (filter (λ x. nat_eq (number x) v) xs)) ≡ (if b then cost x else 0) + at_number xs v
      at true = sum_by-cons cost x (filter (λ x. nat_eq (number x) v) xs)
      at false = omega arith

  pub each_once : (xs : List X) (vs : List ℕ) → are_distinct vs ≡ true → sum_by (at_number xs) vs ≤ sum_by cost xs
  each_once [] vs d = let none = sum_zero (at_number []) vs (λ v. refl) in omega (arith, none)
  each_once (x ∷ xs) vs d =
      let split = sum_same (at_number (x ∷ xs)) (λ v. at_one (number x) (cost x) v + at_number xs v) vs (at_first x xs) in
      let both = sum_both (at_one (number x) (cost x)) (at_number xs) vs in
      let first = once (number x) (cost x) vs d in
      let more = each_once xs vs d in
      let whole = sum_by-cons cost x xs in
      omega (arith, split, both, first, more, whole)
