-- A sorted permutation is the list in order, where those elements of the list of which neither comes before the other are one.
use Rattle.std.proofs.Common.{◌≡◌, ◌≢◌, ℕ, ◌+◌, Bool, true, false, List, [], ◌∷◌, ◌++◌, inl, inr, sum_by, refl, sym, ◌∙◌, ap, subst, arith, lit≤}
use native.Mathlib.Numerals.{unary_clauses}
use Rattle.std.specs.Cmp.{IsStrictWeakOrder}
use Rattle.std.specs.List.Sorted.{IsPermutation, IsSortedBy}
use Rattle.std.proofs.lemmas.List.Elements.{recursion_from_All, All-from_recursion}
use Rattle.std.proofs.lemmas.List.Sorted.{sum_by-IsPermutation, All-permutation}
use Rattle.std.proofs.lemmas.List.Sums.{sum_by-append, sum_by-cons}
use Rattle.sq_base.specs.Sorting.{put, in_order}
use Rattle.sq_base.proofs.SortingLemmas.{tie}
use Rattle.sq_ranking.proofs.MemberLemmas.{Member, Within, of_all, all_of, without, in_front}

-- the element stands somewhere in the list
record Split {X : Type 0} (x : X) (ys : List X) : Type 0 where
  front : List X
  behind : List X
  whole : ys ≡ front ++ x ∷ behind

abbrev SameSums : {X : Type 0} → List X → List X → Type 0
SameSums {X} xs ys = (f : X → ℕ) → sum_by f ys ≡ sum_by f xs

cancelled : {X : Type 0} (x : X) (xs front behind : List X) → SameSums (x ∷ xs) (front ++ x ∷ behind) → SameSums xs (front ++ behind)
cancelled x xs front behind sums f =
    let whole = sums f in
    let left = sum_by-append f front (x ∷ behind) in
    let right = sum_by-append f front behind in
    let here = sum_by-cons f x behind in
    let there = sum_by-cons f x xs in
    omega (arith, whole, left, right, here, there)

further : {X : Type 0} (x y : X) (ys : List X) → Split x ys → Split x (y ∷ ys)
further x y ys deeper = record { front = y ∷ deeper.front; behind = deeper.behind; whole = ap (λ zs. y ∷ zs) deeper.whole }

module _ {X : Type 0} (before : X → X → Bool) where
  behind_of : (x y : X) (ys : List X) → sum_by (tie before x) (y ∷ ys) ≢ 0 → tie before x y ≡ 0 → sum_by (tie before x) ys ≢ 0
  behind_of x y ys some none nothing = some (sum_by-cons (tie before x) y ys ∙ omega (arith, none, nothing))

  kept : (y z : X) (zs : List X) → before z y ≡ false → put before y (z ∷ zs) ≡ y ∷ z ∷ zs
  kept y z zs later = grind (arith, later)

  sorted : (ys : List X) → IsSortedBy before ys → in_order before ys ≡ ys
  sorted [] up = refl
  sorted (y ∷ []) up = refl
  sorted (y ∷ (z ∷ zs)) up =
      ap (put before y) (sorted (z ∷ zs) (λ k d low high. simp unary_clauses (simp unary_clauses at (up (k + 1) d (omega arith) (omega (arith, high)))))) ∙ kept y z zs (up 0 y (lit≤ tt) (omega arith))

module _ {X : Type 0} (before : X → X → Bool) (order : IsStrictWeakOrder before) (all : List X) (same : (x y : X) → Member x all → Member y all → before x y ≡ false → before y x ≡ false → x ≡ y) where
  put_twice : (a b : X) (xs : List X) → Member a all → Member b all → put before a (put before b xs) ≡ put before b (put before a xs)
  put_twice a b [] one two = grind (arith, order.one_way a b, order.one_way b a, same a b one two)
  put_twice a b (y ∷ ys) one two =
      grind (arith, put_twice a b ys one two, order.one_way a b, order.one_way b a, same a b one two, order.chain a y b, order.chain b y a)

  put_first : (x : X) (front behind : List X) → Member x all → Within front all → in_order before (front ++ x ∷ behind) ≡ put before x (in_order before (front ++ behind))
  put_first x [] behind here within = refl
  put_first x (y ∷ front) behind here within =
      ap (put before y) (put_first x front behind here (λ z there. within z (inr there))) ∙ put_twice y x (in_order before (front ++ behind)) (within y (inl refl)) here

  tie_self : (x : X) → tie before x x ≡ 1
  tie_self x = grind (arith, order.one_way x x)

  found : (x : X) (ys : List X) → Member x all → Within ys all → sum_by (tie before x) ys ≢ 0 → Split x ys
  found x [] here within some = absurd (some refl)
  found x (y ∷ ys) here within some =
      let behind : sum_by (tie before x) ys ≢ 0 → Split x (y ∷ ys) = λ more. further x y ys (found x ys here (λ z there. within z (inr there)) more) in
      elim (before x y) as (λ b. before x y ≡ b → Split x (y ∷ ys)) [
        | true ↦ λ is. behind (behind_of before x y ys some (grind (arith, is)))
        | false ↦ λ is. elim (before y x) as (λ b. before y x ≡ b → Split x (y ∷ ys)) [
          | true ↦ λ back. behind (behind_of before x y ys some (grind (arith, is, back)))
          | false ↦ λ back. record { front = []; behind = ys; whole = ap (λ z. z ∷ ys) (same y x (within y (inl refl)) here back is) }
        ] refl
      ] refl

  permuted : (xs ys : List X) → Within xs all → Within ys all → SameSums xs ys → in_order before xs ≡ in_order before ys
  permuted [] [] left right sums = refl
  permuted [] (y ∷ ys) left right sums = absurd (let whole = sums (λ _. 1) in let here = sum_by-cons (λ _. 1) y ys in omega (arith, whole, here))
  permuted (x ∷ xs) ys left right sums =
      let some : sum_by (tie before x) ys ≢ 0 = λ none. (let whole = sums (tie before x) in let here = sum_by-cons (tie before x) x xs in let self = tie_self x in omega (arith, whole, here, self, none)) in
      let here : Member x all = left x (inl refl) in
      let split : Split x ys = found x ys here right some in
      let cut : Within (split.front ++ x ∷ split.behind) all = subst (λ zs. Within zs all) split.whole right in
      let rest : SameSums xs (split.front ++ split.behind) = cancelled x xs split.front split.behind (subst (λ zs. SameSums (x ∷ xs) zs) split.whole sums) in
      let equal = permuted xs (split.front ++ split.behind) (λ z there. left z (inr there)) (λ z there. cut z (without x split.front split.behind z there)) rest in
      ap (put before x) equal
      ∙ sym (put_first x split.front split.behind here (λ z there. cut z (in_front split.front (x ∷ split.behind) z there)))
      ∙ ap (in_order before) (sym split.whole)

  pub in_order-sorted_within : (ys : List X) → IsPermutation all ys → IsSortedBy before ys → ys ≡ in_order before all
  in_order-sorted_within ys moved up =
      let each = All-from_recursion (λ z. Member z all) all (all_of (λ z. Member z all) all (λ z there. there)) in
      let within : Within ys all = of_all (λ z. Member z all) ys (recursion_from_All (λ z. Member z all) ys (All-permutation (λ z. Member z all) all ys moved each)) in
      sym (permuted all ys (λ z there. there) within (λ f. sum_by-IsPermutation f all ys moved) ∙ sorted before ys up)
