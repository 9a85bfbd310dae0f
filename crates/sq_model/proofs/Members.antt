-- Members of lists, and of the lists that filter, map and flat_map make of them.
use Rattle.std.proofs.Common.{◌≡◌, ◌⊎◌, inl, inr, Bool, true, false, cond, List, [], ◌∷◌, ◌++◌, map, refl, sym, ◌∙◌, ap, subst, Some, None, Option}
use Rattle.std.specs.List.{filter, filter_map, flat_map, cons_option}

-- x is one of the list
abbrev pub IsIn : {X : Type 0} → X → List X → Type 0
IsIn x [] = ⊥
IsIn x (y ∷ ys) = (x ≡ y) ⊎ IsIn x ys

module _ {X : Type 0} where
  pub in_append_left : (x : X) (xs ys : List X) → IsIn x xs → IsIn x (xs ++ ys)
  in_append_left x [] ys h = absurd h
  in_append_left x (y ∷ xs) ys (inl e) = inl e
  in_append_left x (y ∷ xs) ys (inr h) = inr (in_append_left x xs ys h)

  pub in_append_right : (x : X) (xs ys : List X) → IsIn x ys → IsIn x (xs ++ ys)
  in_append_right x [] ys h = h
  in_append_right x (y ∷ xs) ys h = inr (in_append_right x xs ys h)

  pub in_append : (x : X) (xs ys : List X) → IsIn x (xs ++ ys) → IsIn x xs ⊎ IsIn x ys
  in_append x [] ys h = inr h
  in_append x (y ∷ xs) ys (inl e) = inl (inl e)
  in_append x (y ∷ xs) ys (inr h) = elim (in_append x xs ys h) [ inl k ↦ inl (inr k) | inr k ↦ inr k ]

  in_cond : (x y : X) (zs : List X) (b : Bool) → IsIn x zs → IsIn x (cond b (y ∷ zs) zs)
  in_cond x y zs true h = inr h
  in_cond x y zs false h = h

  pub to_filter : (test : X → Bool) (x : X) (xs : List X) → IsIn x xs → test x ≡ true → IsIn x (filter test xs)
  to_filter test x [] h e = absurd h
  to_filter test x (y ∷ xs) (inl p) e = let t : test y ≡ true = ap test (sym p) ∙ e in rw t (inl p)
  to_filter test x (y ∷ xs) (inr h) e = in_cond x y (filter test xs) (test y) (to_filter test x xs h e)

  out_cond : (x y : X) (zs : List X) (b : Bool) → IsIn x (cond b (y ∷ zs) zs) → ((x ≡ y) × (b ≡ true)) ⊎ IsIn x zs
  out_cond x y zs true (inl p) = inl (p, refl)
  out_cond x y zs true (inr h) = inr h
  out_cond x y zs false h = inr h

  pub of_filter : (test : X → Bool) (x : X) (xs : List X) → IsIn x (filter test xs) → IsIn x xs × (test x ≡ true)
  of_filter test x [] h = absurd h
  of_filter test x (y ∷ xs) h = elim (out_cond x y (filter test xs) (test y) h) [
    | inl p ↦ (inl p.0, ap test p.0 ∙ p.1)
    | inr k ↦ (let r = of_filter test x xs k in (inr r.0, r.1))
  ]

module _ {Y : Type 0} where
  in_cons_option : (y : Y) (o : Option Y) (ys : List Y) → IsIn y ys → IsIn y (cons_option o ys)
  in_cons_option y None ys h = h
  in_cons_option y (Some z) ys h = inr h

  out_cons_option : (y : Y) (o : Option Y) (ys : List Y) → IsIn y (cons_option o ys) → (o ≡ Some y) ⊎ IsIn y ys
  out_cons_option y None ys h = inr h
  out_cons_option y (Some z) ys (inl p) = inl (ap Some (sym p))
  out_cons_option y (Some z) ys (inr h) = inr h

module _ {X Y : Type 0} where
  pub to_map : (f : X → Y) (x : X) (xs : List X) → IsIn x xs → IsIn (f x) (map f xs)
  to_map f x [] h = absurd h
  to_map f x (y ∷ xs) (inl p) = inl (ap f p)
  to_map f x (y ∷ xs) (inr h) = inr (to_map f x xs h)

  pub of_map : (f : X → Y) (y : Y) (xs : List X) → IsIn y (map f xs) → (x : X) × IsIn x xs × (y ≡ f x)
  of_map f y [] h = absurd h
  of_map f y (x ∷ xs) (inl p) = (x, inl refl, p)
  of_map f y (x ∷ xs) (inr h) = let r = of_map f y xs h in (r.0, inr r.1, r.2)

  pub to_flat_map : (f : X → List Y) (y : Y) (x : X) (xs : List X) → IsIn x xs → IsIn y (f x) → IsIn y (flat_map f xs)
  to_flat_map f y x [] h k = absurd h
  to_flat_map f y x (z ∷ xs) (inl p) k = in_append_left y (f z) (flat_map f xs) (let P : X → Type 0 = λ w. IsIn y (f w) in subst P p k)
  to_flat_map f y x (z ∷ xs) (inr h) k = in_append_right y (f z) (flat_map f xs) (to_flat_map f y x xs h k)

  pub of_flat_map : (f : X → List Y) (y : Y) (xs : List X) → IsIn y (flat_map f xs) → (x : X) × IsIn x xs × IsIn y (f x)
  of_flat_map f y [] h = absurd h
  of_flat_map f y (x ∷ xs) h = elim (in_append y (f x) (flat_map f xs) h) [
    | inl k ↦ (x, inl refl, k)
    | inr k ↦ (let r = of_flat_map f y xs k in (r.0, inr r.1, r.2))
  ]

  pub to_filter_map : (f : X → Option Y) (y : Y) (x : X) (xs : List X) → IsIn x xs → f x ≡ Some y → IsIn y (filter_map f xs)
  to_filter_map f y x [] h e = absurd h
  to_filter_map f y x (z ∷ xs) (inl p) e = let t : f z ≡ Some y = ap f (sym p) ∙ e in rw t (inl refl)
  to_filter_map f y x (z ∷ xs) (inr h) e = in_cons_option y (f z) (filter_map f xs) (to_filter_map f y x xs h e)

  pub of_filter_map : (f : X → Option Y) (y : Y) (xs : List X) → IsIn y (filter_map f xs) → (x : X) × IsIn x xs × (f x ≡ Some y)
  of_filter_map f y [] h = absurd h
  of_filter_map f y (x ∷ xs) h = elim (out_cons_option y (f x) (filter_map f xs) h) [
    | inl e ↦ (x, inl refl, e)
    | inr k ↦ (let r = of_filter_map f y xs k in (r.0, inr r.1, r.2))
  ]
