-- The first elements of a list in order, and how they change as an element comes.
use Rattle.std.proofs.Common.{◌≡◌, ℕ, ◌+◌, ◌≤◌, Bool, true, false, if◌then◌else◌, zero, suc, List, [], ◌∷◌, ◌++◌, length, take, inl, inr, ⊎_elim, Some, refl, sym, ◌∙◌, ap, subst, arith, lit≤}
use native.Mathlib.Numerals.{unary_clauses}
use Rattle.std.specs.Cmp.{IsStrictWeakOrder}
use Rattle.std.specs.Prelude.{slice_get, ◌-◌}
use Rattle.std.specs.List.Sorted.{IsSortedBy}
use Rattle.std.proofs.lemmas.List.{take-take, length-take}
use Rattle.sq_base.specs.Sorting.{put, in_order}
use Rattle.sq_ranking.proofs.MemberLemmas.{Member, Within}

-- none comes before the one in front of it
abbrev Falls : {X : Type 0} → (X → X → Bool) → List X → Type 0
Falls before [] = Unit
Falls before (x ∷ []) = Unit
Falls before (x ∷ (y ∷ ys)) = (before y x ≡ false) × Falls before (y ∷ ys)

module _ {X : Type 0} where
  front : (n : ℕ) (y : X) (ys : List X) → take n (y ∷ ys) ≡ take n (y ∷ take n ys)
  front zero y ys = refl
  front (suc n) y ys = ap (λ zs. y ∷ zs) (sym (take-take n (suc n) ys (omega arith)))

  take_more : (n : ℕ) (xs : List X) (y : X) → Member y (take n xs) → Member y (take (suc n) xs)
  take_more zero xs y there = elim there [ ]
  take_more (suc n) [] y there = there
  take_more (suc n) (x ∷ xs) y (inl here) = inl here
  take_more (suc n) (x ∷ xs) y (inr there) = inr (take_more n xs y there)

  pub of_take : (n : ℕ) (xs : List X) → Within (take n xs) xs
  of_take zero xs y there = elim there [ ]
  of_take (suc n) [] y there = there
  of_take (suc n) (x ∷ xs) y (inl here) = inl here
  of_take (suc n) (x ∷ xs) y (inr there) = inr (of_take n xs y there)

module _ {X : Type 0} (before : X → X → Bool) where
  -- which n are first is settled by the first n of the others
  pub take_put : (n : ℕ) (x : X) (ys : List X) → take n (put before x ys) ≡ take n (put before x (take n ys))
  take_put zero x ys = refl
  take_put (suc n) x [] = refl
  take_put (suc n) x (y ∷ ys) =
      elim (before y x) as (λ b. take (suc n) (if b then y ∷ put before x ys else x ∷ y ∷ ys) ≡ take (suc n) (if b then y ∷ put before x (take n ys) else x ∷ y ∷ take n ys)) [
        | true ↦ ap (λ zs. y ∷ zs) (take_put n x ys)
        | false ↦ ap (λ zs. x ∷ zs) (front n y ys)
      ]

  -- an element behind the first n changes none of them
  pub put_behind : (n : ℕ) (x : X) (ys : List X) → n ≤ length ys → ((y : X) → Member y (take n ys) → before y x ≡ true) → take n (put before x ys) ≡ take n ys
  put_behind zero x ys many each = refl
  put_behind (suc n) x [] many each = absurd (omega (arith, many))
  put_behind (suc n) x (y ∷ ys) many each =
      ap (λ b. take (suc n) (if b then y ∷ put before x ys else x ∷ y ∷ ys)) (each y (inl refl))
      ∙ ap (λ zs. y ∷ zs) (put_behind n x ys (omega (arith, many)) (λ z there. each z (inr there)))

  length_put : (x : X) (ys : List X) → length (put before x ys) ≡ length ys + 1
  length_put x [] = refl
  length_put x (y ∷ ys) = let more = length_put x ys in grind (arith, more)

  pub full_put : (n : ℕ) (x : X) (ys : List X) → n ≤ length (take n ys) → n ≤ length (take n (put before x ys))
  full_put n x ys many =
      let one = length-take n ys in
      let other = length-take n (put before x ys) in
      let more = length_put x ys in
      omega (arith, one, other, more, many)

  sorted_falls : (ys : List X) → IsSortedBy before ys → Falls before ys
  sorted_falls [] up = tt
  sorted_falls (y ∷ []) up = tt
  sorted_falls (y ∷ (z ∷ zs)) up = (up 0 y (lit≤ tt) (omega arith), sorted_falls (z ∷ zs) (λ k d low high. simp unary_clauses (simp unary_clauses at (up (k + 1) d (omega arith) (omega (arith, high))))))

  falls_take : (n : ℕ) (ys : List X) → Falls before ys → Falls before (take n ys)
  falls_take zero ys up = tt
  falls_take (suc n) [] up = tt
  falls_take (suc zero) (y ∷ []) up = tt
  falls_take (suc (suc n)) (y ∷ []) up = tt
  falls_take (suc zero) (y ∷ (z ∷ zs)) up = tt
  falls_take (suc (suc n)) (y ∷ (z ∷ zs)) up = (up.0, falls_take (suc n) (z ∷ zs) up.1)

  falls_in_order : (ys : List X) → Falls before ys → in_order before ys ≡ ys
  falls_in_order [] up = refl
  falls_in_order (y ∷ []) up = refl
  falls_in_order (y ∷ (z ∷ zs)) up =
      ap (put before y) (falls_in_order (z ∷ zs) up.1) ∙ ap (λ b. if b then z ∷ put before y zs else y ∷ z ∷ zs) up.0

  -- the first elements of a sorted list are in order
  pub in_order_take : (n : ℕ) (ys : List X) → IsSortedBy before ys → in_order before (take n ys) ≡ take n ys
  in_order_take n ys up = falls_in_order (take n ys) (falls_take n ys (sorted_falls ys up))

module _ {X : Type 0} (before : X → X → Bool) (order : IsStrictWeakOrder before) where
  not_itself : (x : X) → before x x ≡ false
  not_itself x = grind (arith, order.one_way x x)

  last_of_falling : (x : X) (xs : List X) (bar : X) → Falls before (x ∷ xs) → slice_get (x ∷ xs) (length xs) ≡ Some bar → (y : X) → Member y (x ∷ xs) → before bar y ≡ false
  last_of_falling x [] bar up last y (inl here) = let self = not_itself x in grind (arith, last, here, self)
  last_of_falling x [] bar up last y (inr there) = elim there [ ]
  last_of_falling x (z ∷ zs) bar up last y (inl here) =
      let next = last_of_falling z zs bar up.1 last z (inl refl) in
      let both = order.chain bar z x next up.0 in
      subst (λ w. before bar w ≡ false) (sym here) both
  last_of_falling x (z ∷ zs) bar up last y (inr there) = last_of_falling z zs bar up.1 last y there

  -- the last of the first elements of a sorted list comes before none of them
  pub last_of_sorted : (n : ℕ) (ys : List X) (bar : X) → IsSortedBy before ys → slice_get (take n ys) (length (take n ys) - 1) ≡ Some bar → (y : X) → Member y (take n ys) → before bar y ≡ false
  last_of_sorted n ys bar up last y there = last_of (take n ys) (falls_take before n ys (sorted_falls before ys up)) last there
    where
      last_of : (zs : List X) → Falls before zs → slice_get zs (length zs - 1) ≡ Some bar → Member y zs → before bar y ≡ false
      last_of [] up last there = elim there [ ]
      last_of (z ∷ zs) up last there = last_of_falling z zs bar up (ap (λ i. slice_get (z ∷ zs) i) (omega arith) ∙ last) y there

  -- what comes before none of the first n comes before none of them as an element comes
  pub barred_put : (n : ℕ) (bar x : X) (ys : List X) → n ≤ length (take n ys) → ((y : X) → Member y (take n ys) → before bar y ≡ false) → (y : X) → Member y (take n (put before x ys)) → before bar y ≡ false
  barred_put zero bar x ys many each y there = elim there [ ]
  barred_put (suc n) bar x [] many each y there = absurd (omega (arith, many))
  barred_put (suc n) bar x (z ∷ zs) many each y there =
      (elim (before z x) as (λ b. before z x ≡ b → Member y (take (suc n) (if b then z ∷ put before x zs else x ∷ z ∷ zs)) → before bar y ≡ false) [
        | true ↦ λ is at. ⊎_elim (λ here. each y (inl here)) (λ behind. barred_put n bar x zs (omega (arith, many)) (λ w deep. each w (inr deep)) y behind) at
        | false ↦ λ is at. ⊎_elim (λ here. subst (λ w. before bar w ≡ false) (sym here) (order.chain bar z x (each z (inl refl)) is)) (λ behind. each y (take_more n (z ∷ zs) y behind)) at
      ]) refl there

module _ {X : Type 0} (before : X → X → Bool) (order : IsStrictWeakOrder before) (all : List X) (same : (x y : X) → Member x all → Member y all → before x y ≡ false → before y x ≡ false → x ≡ y) where
  put_twice : (a b : X) (xs : List X) → Member a all → Member b all → put before a (put before b xs) ≡ put before b (put before a xs)
  put_twice a b [] one two = grind (arith, order.one_way a b, order.one_way b a, same a b one two)
  put_twice a b (y ∷ ys) one two =
      grind (arith, put_twice a b ys one two, order.one_way a b, order.one_way b a, same a b one two, order.chain a y b, order.chain b y a)

  -- an element that comes last is put among the others
  pub in_order_more : (x : X) (xs : List X) → Member x all → Within xs all → in_order before (xs ++ x ∷ []) ≡ put before x (in_order before xs)
  in_order_more x [] here within = refl
  in_order_more x (y ∷ ys) here within =
      ap (put before y) (in_order_more x ys here (λ z there. within z (inr there))) ∙ put_twice y x (in_order before ys) (within y (inl refl)) here
