-- A sorted permutation is the list in order, where elements of which neither comes before the other are equal.
use Rattle.std.proofs.Common.{◌≡◌, ◌≢◌, ℕ, ◌+◌, Bool, true, false, if◌then◌else◌, List, [], ◌∷◌, ◌++◌, sum_by, refl, sym, ◌∙◌, ap, subst, arith, lit≤, not, ◌&&◌}
use native.Mathlib.Numerals.{unary_clauses}
use Rattle.std.specs.Cmp.{IsStrictWeakOrder}
use Rattle.std.specs.List.Sorted.{IsPermutation, IsSortedBy}
use Rattle.std.proofs.lemmas.List.Sorted.{sum_by-IsPermutation}
use Rattle.std.proofs.lemmas.List.Sums.{sum_by-append, sum_by-cons}
use Rattle.sq_base.specs.Sorting.{put, in_order}

-- 1 where neither comes before the other, else 0
abbrev pub tie : {X : Type 0} → (X → X → Bool) → X → X → ℕ
tie before x y = if not (before x y) && not (before y x) then 1 else 0

-- the element stands somewhere in the list
record Split {X : Type 0} (x : X) (ys : List X) : Type 0 where
  front : List X
  behind : List X
  whole : ys ≡ front ++ x ∷ behind

abbrev pub SameSums : {X : Type 0} → List X → List X → Type 0
SameSums {X} xs ys = (f : X → ℕ) → sum_by f ys ≡ sum_by f xs

cancelled : {X : Type 0} (x : X) (xs front behind : List X) → SameSums (x ∷ xs) (front ++ x ∷ behind) → SameSums xs (front ++ behind)
cancelled x xs front behind sums f =
    let whole = sums f in
    let left = sum_by-append f front (x ∷ behind) in
    let right = sum_by-append f front behind in
    let here = sum_by-cons f x behind in
    let there = sum_by-cons f x xs in
    omega (arith, whole, left, right, here, there)

further : {X : Type 0} (x y : X) (ys : List X) → Split x ys → Split x (y ∷ ys)
further x y ys deeper = record { front = y ∷ deeper.front; behind = deeper.behind; whole = ap (λ zs. y ∷ zs) deeper.whole }

module _ {X : Type 0} (before : X → X → Bool) where
  behind_of : (x y : X) (ys : List X) → sum_by (tie before x) (y ∷ ys) ≢ 0 → tie before x y ≡ 0 → sum_by (tie before x) ys ≢ 0
  behind_of x y ys some none nothing = some (sum_by-cons (tie before x) y ys ∙ omega (arith, none, nothing))

  kept : (y z : X) (zs : List X) → before z y ≡ false → put before y (z ∷ zs) ≡ y ∷ z ∷ zs
  kept y z zs later = grind (arith, later)

module _ {X : Type 0} (before : X → X → Bool) (order : IsStrictWeakOrder before) (same : (x y : X) → before x y ≡ false → before y x ≡ false → x ≡ y) where
  put_twice : (a b : X) (xs : List X) → put before a (put before b xs) ≡ put before b (put before a xs)
  put_twice a b [] = grind (arith, order.one_way a b, order.one_way b a, same a b)
  put_twice a b (y ∷ ys) = grind (arith, put_twice a b ys, order.one_way a b, order.one_way b a, same a b, order.chain a y b, order.chain b y a)

  put_first : (x : X) (front behind : List X) → in_order before (front ++ x ∷ behind) ≡ put before x (in_order before (front ++ behind))
  put_first x [] behind = refl
  put_first x (y ∷ front) behind = ap (put before y) (put_first x front behind) ∙ put_twice y x (in_order before (front ++ behind))

  tie_self : (x : X) → tie before x x ≡ 1
  tie_self x = grind (arith, order.one_way x x)

  found : (x : X) (ys : List X) → sum_by (tie before x) ys ≢ 0 → Split x ys
  found x [] some = absurd (some refl)
  found x (y ∷ ys) some =
      elim (before x y) as (λ b. before x y ≡ b → Split x (y ∷ ys)) [
        | true ↦ λ is. further x y ys (found x ys (behind_of before x y ys some (grind (arith, is))))
        | false ↦ λ is. elim (before y x) as (λ b. before y x ≡ b → Split x (y ∷ ys)) [
          | true ↦ λ back. further x y ys (found x ys (behind_of before x y ys some (grind (arith, is, back))))
          | false ↦ λ back. record { front = []; behind = ys; whole = ap (λ z. z ∷ ys) (same y x back is) }
        ] refl
      ] refl

  permuted : (xs ys : List X) → SameSums xs ys → in_order before xs ≡ in_order before ys
  permuted [] [] sums = refl
  permuted [] (y ∷ ys) sums = absurd (let whole = sums (λ _. 1) in let here = sum_by-cons (λ _. 1) y ys in omega (arith, whole, here))
  permuted (x ∷ xs) ys sums =
      let some : sum_by (tie before x) ys ≢ 0 = λ none. (let whole = sums (tie before x) in let here = sum_by-cons (tie before x) x xs in let self = tie_self x in omega (arith, whole, here, self, none)) in
      let split = found x ys some in
      let rest = cancelled x xs split.front split.behind (subst (λ zs. SameSums (x ∷ xs) zs) split.whole sums) in
      ap (put before x) (permuted xs (split.front ++ split.behind) rest) ∙ sym (put_first x split.front split.behind) ∙ ap (in_order before) (sym split.whole)

  sorted : (ys : List X) → IsSortedBy before ys → in_order before ys ≡ ys
  sorted [] up = refl
  sorted (y ∷ []) up = refl
  sorted (y ∷ (z ∷ zs)) up =
      ap (put before y) (sorted (z ∷ zs) (λ k d low high. simp unary_clauses (simp unary_clauses at (up (k + 1) d (omega arith) (omega (arith, high)))))) ∙ kept before y z zs (up 0 y (lit≤ tt) (omega arith))

  pub in_order-sorted : (xs ys : List X) → IsPermutation xs ys → IsSortedBy before ys → ys ≡ in_order before xs
  in_order-sorted xs ys moved up = sym (permuted xs ys (λ f. sum_by-IsPermutation f xs ys moved) ∙ sorted ys up)
