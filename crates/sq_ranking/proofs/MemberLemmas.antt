-- Elements of lists, and of lists put in order.
use Rattle.std.proofs.Common.{◌≡◌, Bool, true, false, if◌then◌else◌, ◌⊎◌, inl, inr, ⊎_elim, ℕ, ◌<◌, List, [], ◌∷◌, ◌++◌, map, refl, sym, ◌∙◌, subst, arith}
use Rattle.std.specs.List.{AllByRecursion}
use Rattle.sq_base.specs.Sorting.{put, in_order}
use Rattle.sq_model.specs.Valid.{are_rising}

-- the element is one of the list
abbrev pub Member : {X : Type 0} → X → List X → Type 0
Member x [] = ⊥
Member x (y ∷ ys) = (x ≡ y) ⊎ Member x ys

-- each element of the list is one of the whole
abbrev pub Within : {X : Type 0} → List X → List X → Type 0
Within {X} xs whole = (z : X) → Member z xs → Member z whole

module _ {X : Type 0} where
  pub of_all : (P : X → Type 0) (xs : List X) → AllByRecursion P xs → (z : X) → Member z xs → P z
  of_all P [] all z there = elim there [ ]
  of_all P (x ∷ xs) all z (inl here) = subst P (sym here) all.0
  of_all P (x ∷ xs) all z (inr there) = of_all P xs all.1 z there

  pub all_of : (P : X → Type 0) (xs : List X) → ((z : X) → Member z xs → P z) → AllByRecursion P xs
  all_of P [] each = tt
  all_of P (x ∷ xs) each = (each x (inl refl), all_of P xs (λ z there. each z (inr there)))

  pub without : (x : X) (front behind : List X) → Within (front ++ behind) (front ++ x ∷ behind)
  without x [] behind z there = inr there
  without x (y ∷ front) behind z (inl here) = inl here
  without x (y ∷ front) behind z (inr there) = inr (without x front behind z there)

  pub in_front : (front behind : List X) → Within front (front ++ behind)
  in_front [] behind z there = elim there [ ]
  in_front (y ∷ front) behind z (inl here) = inl here
  in_front (y ∷ front) behind z (inr there) = inr (in_front front behind z there)

  swapped : (x y : X) (ys zs : List X) (z : X) → (Member z zs → (z ≡ x) ⊎ Member z ys) → Member z (y ∷ zs) → (z ≡ x) ⊎ Member z (y ∷ ys)
  swapped x y ys zs z behind (inl here) = inr (inl here)
  swapped x y ys zs z behind (inr there) = ⊎_elim (λ one. inl one) (λ other. inr (inr other)) (behind there)

  module _ (before : X → X → Bool) where
    pub of_put : (x : X) (ys : List X) (z : X) → Member z (put before x ys) → (z ≡ x) ⊎ Member z ys
    of_put x [] z there = there
    of_put x (y ∷ ys) z there =
        (elim (before y x) as (λ b. Member z (if b then y ∷ put before x ys else x ∷ y ∷ ys) → (z ≡ x) ⊎ Member z (y ∷ ys)) [
          | true ↦ λ at. swapped x y ys (put before x ys) z (of_put x ys z) at
          | false ↦ λ at. at
        ]) there

    pub of_order : (xs : List X) → Within (in_order before xs) xs
    of_order [] z there = there
    of_order (x ∷ xs) z there = ⊎_elim (λ one. inl one) (λ other. inr (of_order xs z other)) (of_put x (in_order before xs) z there)

-- elements that have numbers, which rise along the list
module _ {X : Type 0} (number : X → ℕ) where
  pub rising_tail : (n : ℕ) (ns : List ℕ) → are_rising (n ∷ ns) ≡ true → are_rising ns ≡ true
  rising_tail n [] up = refl
  rising_tail n (next ∷ ns) up = grind (arith, up)

  pub above : (n : ℕ) (xs : List X) → are_rising (n ∷ map number xs) ≡ true → (z : X) → Member z xs → n < number z
  above n [] up z there = elim there [ ]
  above n (y ∷ ys) up z (inl here) = grind (arith, up, here)
  above n (y ∷ ys) up z (inr there) =
      let further = above (number y) ys (rising_tail n (number y ∷ map number ys) up) z there in grind (arith, up, further)

  pub one_of_number : (xs : List X) → are_rising (map number xs) ≡ true → (x y : X) → Member x xs → Member y xs → number x ≡ number y → x ≡ y
  one_of_number [] up x y here there equal = elim here [ ]
  one_of_number (z ∷ zs) up x y (inl here) (inl there) equal = here ∙ sym there
  one_of_number (z ∷ zs) up x y (inl here) (inr there) equal =
      let higher = above (number z) zs up y there in absurd (grind (arith, higher, equal, here))
  one_of_number (z ∷ zs) up x y (inr here) (inl there) equal =
      let higher = above (number z) zs up x here in absurd (grind (arith, higher, equal, there))
  one_of_number (z ∷ zs) up x y (inr here) (inr there) equal = one_of_number zs (rising_tail (number z) (map number zs) up) x y here there equal
