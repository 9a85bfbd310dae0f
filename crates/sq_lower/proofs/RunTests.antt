-- Tests of all and of some members of a list.
use Rattle.std.proofs.Common.{◌≡◌, ℕ, Bool, true, false, not, ◌&&◌, ◌||◌, cond, List, [], ◌∷◌, map, refl, sym, ◌∙◌, ap, ap₂, Some, None, Option}
use Rattle.std.proofs.lemmas.Bool.{eqb-true}
use Rattle.std.specs.Prelude.{nat_eq}
use Rattle.std.specs.List.{list_any, list_all, filter, cons_option}
use Rattle.std.specs.Option.{option_eq}

pub and-true : (b : Bool) → (b && true) ≡ b
and-true true = refl
and-true false = refl

pub or-false : (b : Bool) → (b || false) ≡ b
or-false true = refl
or-false false = refl

pub or-true : (b : Bool) → (b || true) ≡ true
or-true true = refl
or-true false = refl

swap-and : (a b c d : Bool) → ((a && b) && (c && d)) ≡ ((a && c) && (b && d))
swap-and true b true d = refl
swap-and true true false d = refl
swap-and true false false d = refl
swap-and false b c d = refl

de_morgan : (a b c : Bool) → ((not a || not b) && not c) ≡ not ((a && b) || c)
de_morgan true true c = refl
de_morgan true false c = refl
de_morgan false b c = refl

pub and_left : (a b : Bool) → (a && b) ≡ true → a ≡ true
and_left true b e = refl
and_left false b e = cc

pub and_right : (a b : Bool) → (a && b) ≡ true → b ≡ true
and_right true b e = e
and_right false b e = cc

module _ {X : Type 0} where
  pub all_same : (p q : X → Bool) → ((x : X) → p x ≡ q x) → (xs : List X) → list_all p xs ≡ list_all q xs
  all_same p q e [] = refl
  all_same p q e (x ∷ xs) = ap₂ (λ a b. a && b) (e x) (all_same p q e xs)

  pub any_same : (p q : X → Bool) → ((x : X) → p x ≡ q x) → (xs : List X) → list_any p xs ≡ list_any q xs
  any_same p q e [] = refl
  any_same p q e (x ∷ xs) = ap₂ (λ a b. a || b) (e x) (any_same p q e xs)

  pub all_both : (p q : X → Bool) (xs : List X) → list_all (λ x. p x && q x) xs ≡ (list_all p xs && list_all q xs)
  all_both p q [] = refl
  all_both p q (x ∷ xs) = ap (λ b. (p x && q x) && b) (all_both p q xs) ∙ swap-and (p x) (q x) (list_all p xs) (list_all q xs)

  any_cond : (p : X → Bool) (b : Bool) (x : X) (xs : List X) → list_any p (cond b (x ∷ xs) xs) ≡ ((b && p x) || list_any p xs)
  any_cond p true x xs = refl
  any_cond p false x xs = refl

  pub any_filter : (test p : X → Bool) (xs : List X) → list_any p (filter test xs) ≡ list_any (λ x. test x && p x) xs
  any_filter test p [] = refl
  any_filter test p (x ∷ xs) = any_cond p (test x) x (filter test xs) ∙ ap (λ b. (test x && p x) || b) (any_filter test p xs)

  -- what no element that is left out passes is passed as well without these
  pub any_without : (test p : X → Bool) → ((x : X) → test x ≡ true → p x ≡ false) → (xs : List X) → list_any p (filter (λ x. not (test x)) xs) ≡ list_any p xs
  any_without test p none xs = any_filter (λ x. not (test x)) p xs ∙ any_same (λ x. not (test x) && p x) p (λ x. kept x (test x) refl) xs
    where
      kept : (x : X) (b : Bool) → test x ≡ b → (not (test x) && p x) ≡ p x
      kept x true e = ap (λ b. not b && p x) e ∙ sym (none x e)
      kept x false e = ap (λ b. not b && p x) e

  all_cond : (p : X → Bool) (b : Bool) (x : X) (xs : List X) → list_all p (cond b (x ∷ xs) xs) ≡ ((not b || p x) && list_all p xs)
  all_cond p true x xs = refl
  all_cond p false x xs = refl

  pub all_filter : (test p : X → Bool) (xs : List X) → list_all p (filter test xs) ≡ list_all (λ x. not (test x) || p x) xs
  all_filter test p [] = refl
  all_filter test p (x ∷ xs) = all_cond p (test x) x (filter test xs) ∙ ap (λ b. (not (test x) || p x) && b) (all_filter test p xs)

  pub none_both : (p q : X → Bool) (xs : List X) → list_all (λ x. not (p x) || not (q x)) xs ≡ not (list_any (λ x. p x && q x) xs)
  none_both p q [] = refl
  none_both p q (x ∷ xs) = ap (λ b. (not (p x) || not (q x)) && b) (none_both p q xs) ∙ de_morgan (p x) (q x) (list_any (λ x. p x && q x) xs)

pub any_map : {X Y : Type 0} (p : Y → Bool) (f : X → Y) (xs : List X) → list_any p (map f xs) ≡ list_any (λ x. p (f x)) xs
any_map p f [] = refl
any_map p f (x ∷ xs) = ap (λ b. p (f x) || b) (any_map p f xs)

-- a test of the number, where there is one
abbrev pub given : (ℕ → Bool) → Option ℕ → Bool
given p None = true
given p (Some n) = p n

module _ (p : ℕ → Bool) where
  absorb_one : (n m : ℕ) (b : Bool) → p n ≡ true → nat_eq n m ≡ b → (not (not b) || p m) ≡ p m
  absorb_one n m true e same = sym (ap p (sym (eqb-true n m same)) ∙ e)
  absorb_one n m false e same = refl

  absorb : (n : ℕ) (ms : List ℕ) (b : Bool) → p n ≡ b → (p n && list_all p (filter (λ m. not (nat_eq n m)) ms)) ≡ (p n && list_all p ms)
  absorb n ms true e = ap (λ v. p n && v)
      (all_filter (λ m. not (nat_eq n m)) p ms ∙ all_same (λ m. not (not (nat_eq n m)) || p m) p (λ m. absorb_one n m (nat_eq n m) e refl) ms)
  absorb n ms false e = ap (λ v. v && list_all p (filter (λ m. not (nat_eq n m)) ms)) e ∙ sym (ap (λ v. v && list_all p ms) e)

  -- a test of all is the same where the first one is tested once
  pub all_once : (q : Option ℕ) (ms : List ℕ) → list_all p (cons_option q (filter (λ m. not (option_eq nat_eq q (Some m))) ms)) ≡ (given p q && list_all p ms)
  all_once None ms = all_filter (λ m. true) p ms
  all_once (Some n) ms = absorb n ms (p n) refl
