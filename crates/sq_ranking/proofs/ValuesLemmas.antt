-- Numbers, each once, the least first; and how often a number stands in a list.
use Rattle.std.proofs.Common.{◌≡◌, ℤ, ◌+◌, Bool, true, false, cond, if◌then◌else◌, ◌||◌, ◌==◌, List, [], ◌∷◌, refl, sym, ◌∙◌, ap, subst, arith}
use Rattle.std.proofs.lemmas.Int.{ints}
use Rattle.std.proofs.lemmas.List.Sums.{sum_by-cons}
use Rattle.std.proofs.lemmas.List.Sorted.{sum_by-IsPermutation}
use Rattle.std.proofs.lemmas.List.Kept.{IsStrictlySortedBy-dedup}
use Rattle.std.specs.Cmp.{int_cmp_total}
use Rattle.std.specs.List.{AllByRecursion, count_by, list_any, dedup, dedup_from}
use Rattle.std.specs.List.Sorted.{IsPermutation, IsSorted, IsStrictlySortedBy}
use Rattle.std.specs.Ordering.{int_cmp, int_eq}
use Rattle.std.specs.declared.cmp.Ordering.TheVariants.{Less}
use Rattle.std.specs.Prelude.{int_lt}
use Rattle.sq_base.specs.Sorting.{put, in_order}
use Rattle.sq_ranking.specs.Ranking.{has, distinct, values}

same : (a b : ℤ) → int_eq a b ≡ true → a ≡ b
same a b equal = grind (arith, ints, equal)

self : (a : ℤ) → int_eq a a ≡ true
self a = grind (arith, ints)

-- each number is below those behind it
abbrev Rises : List ℤ → Type 0
Rises [] = Unit
Rises (x ∷ xs) = ((v : ℤ) → has v xs ≡ true → int_lt x v ≡ true) × Rises xs

-- ---- two lists that rise and have the same numbers are one

first_below : (x y : ℤ) (xs ys : List ℤ) → Rises (x ∷ xs) → Rises (y ∷ ys) → has x (y ∷ ys) ≡ true → has y (x ∷ xs) ≡ true → x ≡ y
first_below x y xs ys one two left right = grind (arith, ints, left, right, one.0 y, two.0 x)

rest_alike : (x : ℤ) (xs ys : List ℤ) → Rises (x ∷ xs) → Rises (x ∷ ys) → ((v : ℤ) → has v (x ∷ xs) ≡ has v (x ∷ ys)) → (v : ℤ) → has v xs ≡ has v ys
rest_alike x xs ys one two alike v = grind (arith, ints, alike v, one.0 v, two.0 v)

one_list : (xs ys : List ℤ) → Rises xs → Rises ys → ((v : ℤ) → has v xs ≡ has v ys) → xs ≡ ys
one_list [] [] one two alike = refl
one_list [] (y ∷ ys) one two alike = absurd (let here = alike y in grind (arith, ints, here))
one_list (x ∷ xs) [] one two alike = absurd (let here = alike x in grind (arith, ints, here))
one_list (x ∷ xs) (y ∷ ys) one two alike =
    let left : has x (y ∷ ys) ≡ true = sym (alike x) ∙ grind (arith, ints) in
    let right : has y (x ∷ xs) ≡ true = alike y ∙ grind (arith, ints) in
    let head : x ≡ y = first_below x y xs ys one two left right in
    let two' : Rises (x ∷ ys) = subst (λ z. Rises (z ∷ ys)) (sym head) two in
    let alike' : (v : ℤ) → has v (x ∷ xs) ≡ has v (x ∷ ys) = subst (λ z. (v : ℤ) → has v (x ∷ xs) ≡ has v (z ∷ ys)) (sym head) alike in
    ap (λ zs. x ∷ zs) (one_list xs ys one.1 two'.1 (rest_alike x xs ys one two' alike')) ∙ ap (λ z. z ∷ ys) head

-- ---- the values rise, and are the numbers

has_put : (v x : ℤ) (ys : List ℤ) → has v (put int_lt x ys) ≡ (int_eq v x || has v ys)
has_put v x [] = refl
has_put v x (y ∷ ys) = grind (arith, has_put v x ys)

has_in_order : (v : ℤ) (xs : List ℤ) → has v (in_order int_lt xs) ≡ has v xs
has_in_order v [] = refl
has_in_order v (x ∷ xs) = has_put v x (in_order int_lt xs) ∙ ap (λ b. int_eq v x || b) (has_in_order v xs)

has_at : (v x : ℤ) (xs : List ℤ) → has x xs ≡ true → int_eq v x ≡ true → has v xs ≡ true
has_at v x xs there equal = subst (λ z. has z xs ≡ true) (sym (same v x equal)) there

has_distinct : (v : ℤ) (xs : List ℤ) → has v (distinct xs) ≡ has v xs
has_distinct v [] = refl
has_distinct v (x ∷ xs) = grind (arith, has_distinct v xs, has_at v x xs)

pub has_values : (v : ℤ) (xs : List ℤ) → has v (values xs) ≡ has v xs
has_values v xs = has_in_order v (distinct xs) ∙ has_distinct v xs

rises_put : (x : ℤ) (ys : List ℤ) → Rises ys → has x ys ≡ false → Rises (put int_lt x ys)
rises_put x [] up new = ((λ v there. grind (arith, there)), tt)
rises_put x (y ∷ ys) up new =
    let apart : int_eq x y ≡ false = grind (arith, new) in
    let fresh : has x ys ≡ false = grind (arith, new) in
    elim (int_lt y x) as (λ b. int_lt y x ≡ b → Rises (if b then y ∷ put int_lt x ys else x ∷ y ∷ ys)) [
      | true ↦ λ less. ((λ v there. grind (arith, ints, less, there, has_put v x ys, up.0 v)), rises_put x ys up.1 fresh)
      | false ↦ λ more. ((λ v there. grind (arith, ints, more, apart, there, up.0 v)), up)
    ] refl

rises_values : (xs : List ℤ) → Rises (values xs)
rises_values [] = tt
rises_values (x ∷ xs) =
    elim (has x xs) as (λ b. has x xs ≡ b → Rises (in_order int_lt (if b then distinct xs else x ∷ distinct xs))) [
      | true ↦ λ old. rises_values xs
      | false ↦ λ new. rises_put x (values xs) (rises_values xs) (has_values x xs ∙ new)
    ] refl

pub values_alike : (xs ys : List ℤ) → ((v : ℤ) → has v xs ≡ has v ys) → values xs ≡ values ys
values_alike xs ys alike = one_list (values xs) (values ys) (rises_values xs) (rises_values ys) (λ v. has_values v xs ∙ alike v ∙ sym (has_values v ys))

-- ---- how often a number stands there

counted : (v x : ℤ) (xs : List ℤ) → count_by (int_eq v) (x ∷ xs) ≡ cond (int_eq v x) 1 0 + count_by (int_eq v) xs
counted v x xs = sum_by-cons (λ y. cond (int_eq v y) 1 0) x xs

-- a test counts something just where it finds something
pub any_counted : {X : Type 0} (p : X → Bool) (xs : List X) → list_any p xs ≡ cond (count_by p xs == 0) false true
any_counted p [] = refl
any_counted p (x ∷ xs) = let here = sum_by-cons (λ y. cond (p y) 1 0) x xs in grind (arith, here, any_counted p xs)

pub has_permuted : (xs ys : List ℤ) → IsPermutation xs ys → (v : ℤ) → has v ys ≡ has v xs
has_permuted xs ys moved v =
    any_counted (int_eq v) ys ∙ ap (λ n. cond (n == 0) false true) (sum_by-IsPermutation (λ y. cond (int_eq v y) 1 0) xs ys moved) ∙ sym (any_counted (int_eq v) xs)

once_at_most : (v : ℤ) (xs : List ℤ) → Rises xs → count_by (int_eq v) xs ≡ cond (has v xs) 1 0
once_at_most v [] up = refl
once_at_most v (x ∷ xs) up =
    let here = counted v x xs in
    let there = once_at_most v xs up.1 in
    grind (arith, ints, here, there, up.0 v)

pub counted_once : (v : ℤ) (xs : List ℤ) → count_by (int_eq v) (values xs) ≡ cond (has v xs) 1 0
counted_once v xs = once_at_most v (values xs) (rises_values xs) ∙ ap (λ b. cond b 1 0) (has_values v xs)

-- ---- sorted and without repetition

strict_rises : (x : ℤ) (xs : List ℤ) → AllByRecursion (λ y. int_cmp x y ≡ Less) xs → (v : ℤ) → has v xs ≡ true → int_lt x v ≡ true
strict_rises x [] all v there = grind (arith, there)
strict_rises x (y ∷ ys) all v there =
    let less = all.0 in
    let behind = strict_rises x ys all.1 v in
    grind (arith, ints, less, there, behind)

rises_strict : (xs : List ℤ) → IsStrictlySortedBy int_cmp xs → Rises xs
unfolding IsStrictlySortedBy
rises_strict [] up = tt
rises_strict (x ∷ xs) up = (strict_rises x xs up.0, rises_strict xs up.1)

has_dedup_from : (v k : ℤ) (xs : List ℤ) → has v (dedup_from int_eq k xs) ≡ (int_eq v k || has v xs)
has_dedup_from v k [] = refl
has_dedup_from v k (x ∷ xs) = grind (arith, ints, has_dedup_from v k xs, has_dedup_from v x xs)

has_dedup : (v : ℤ) (xs : List ℤ) → has v (dedup int_eq xs) ≡ has v xs
has_dedup v [] = refl
has_dedup v (x ∷ xs) = has_dedup_from v x xs

pub sorted_once : (numbers sorted : List ℤ) → IsPermutation numbers sorted → IsSorted int_cmp sorted → dedup int_eq sorted ≡ values numbers
sorted_once numbers sorted moved up =
    one_list (dedup int_eq sorted) (values numbers)
    (rises_strict (dedup int_eq sorted) (IsStrictlySortedBy-dedup int_cmp_total (λ x y. refl) sorted up))
    (rises_values numbers)
    (λ v. has_dedup v sorted ∙ has_permuted numbers sorted moved v ∙ sym (has_values v numbers))
