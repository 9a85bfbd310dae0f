-- The numbers of a property rise by row and then number.
use Rattle.std.proofs.Common.{◌≡◌, ℕ, ◌+◌, ◌<◌, ◌==◌, nat_lt, ℤ, int_lt, Bool, true, false, cond, ◌&&◌, ◌||◌, List, [], ◌∷◌, ◌++◌, map, refl, ap, arith, zero, suc}
use Rattle.std.specs.Prelude.{int_le}
use Rattle.std.specs.List.{list_all, range_with_len}
use Rattle.std.proofs.lemmas.Int.{ints}
use Rattle.std.proofs.lemmas.Bool.Decides.{nat_tests}
use Rattle.sq_base.specs.Sorting.{put, in_order}
use Rattle.sq_model.specs.declared.corpus.Item.{Item}
use Rattle.sq_model.specs.Passages.{numbers}
use Rattle.sq_postings.specs.Rising.{rises, pair_up_to}
use Rattle.sq_postings.specs.Occurrences.{numbered, numbers_from}
use Rattle.sq_build.specs.Numbers.{numbers_of_property, numbers_by_property}
use Rattle.sq_build.proofs.TestLemmas.{both_true, first_true, second_true, from_lt}

-- ---- numbers in order rise

le_from_lt : (x y : ℤ) → int_lt x y ≡ true → int_le x y ≡ true
le_from_lt x y p = grind (arith, ints)

le_from_not : (x y : ℤ) → int_lt y x ≡ false → int_le x y ≡ true
le_from_not x y p = grind (arith, ints)

put_rises : (x y : ℤ) (ys : List ℤ) → int_le y x ≡ true → rises int_le (y ∷ ys) ≡ true → rises int_le (y ∷ put int_lt x ys) ≡ true
put_rises x y [] low up = both_true (int_le y x) true low refl
put_rises x y (z ∷ zs) low up = at (int_lt z x) refl (λ p. put_rises x z zs (le_from_lt z x p) (second_true (int_le y z) _ up))
  where
    at : (b : Bool) → int_lt z x ≡ b → (int_lt z x ≡ true → rises int_le (z ∷ put int_lt x zs) ≡ true)
        → rises int_le (y ∷ cond b (z ∷ put int_lt x zs) (x ∷ z ∷ zs)) ≡ true
    at true p more = both_true (int_le y z) _ (first_true (int_le y z) _ up) (more p)
    at false p more = both_true (int_le y x) _ low (both_true (int_le x z) _ (le_from_not x z p) (second_true (int_le y z) _ up))

put_all : (x : ℤ) (ys : List ℤ) → rises int_le ys ≡ true → rises int_le (put int_lt x ys) ≡ true
put_all x [] up = refl
put_all x (y ∷ ys) up = at (int_lt y x) refl
  where
    at : (b : Bool) → int_lt y x ≡ b → rises int_le (cond b (y ∷ put int_lt x ys) (x ∷ y ∷ ys)) ≡ true
    at true p = put_rises x y ys (le_from_lt y x p) up
    at false p = both_true (int_le x y) _ (le_from_not x y p) up

pub in_order_rises : (xs : List ℤ) → rises int_le (in_order int_lt xs) ≡ true
in_order_rises [] = refl
in_order_rises (x ∷ xs) = put_all x (in_order int_lt xs) (in_order_rises xs)

-- ---- and so do their pairs

-- the first pair, if there is one, is of a later row
abbrev is_later : ℕ → List (ℕ × ℤ) → Bool
is_later row [] = true
is_later row (pair ∷ pairs) = nat_lt row pair.0

pair_later : (row : ℕ) (n : ℤ) (pair : ℕ × ℤ) → nat_lt row pair.0 ≡ true → pair_up_to (row, n) pair ≡ true
pair_later row n pair l = ap (λ b. b || ((row == pair.0) && int_le n pair.1)) l

pair_same : (row : ℕ) (n m : ℤ) → int_le n m ≡ true → pair_up_to (row, n) (row, m) ≡ true
pair_same row n m l = grind (arith, nat_tests)

pairs_rise : (row : ℕ) (ns : List ℤ) (pairs : List (ℕ × ℤ)) → rises int_le ns ≡ true → is_later row pairs ≡ true → rises pair_up_to pairs ≡ true
    → rises pair_up_to (map (numbered row) ns ++ pairs) ≡ true
pairs_rise row [] pairs up later held = held
pairs_rise row (n ∷ []) [] up later held = refl
pairs_rise row (n ∷ []) (pair ∷ pairs) up later held = both_true (pair_up_to (row, n) pair) _ (pair_later row n pair later) held
pairs_rise row (n ∷ (m ∷ ns)) pairs up later held =
    both_true (pair_up_to (row, n) (row, m)) _ (pair_same row n m (first_true (int_le n m) _ up))
    (pairs_rise row (m ∷ ns) pairs (second_true (int_le n m) _ up) later held)

later_from : (row next property : ℕ) (items : List Item) → row < next → is_later row (numbers_from next property items) ≡ true
later_from row next property [] l = refl
later_from row next property (item ∷ items) l = at (in_order int_lt (numbers item.values property)) (later_from row (next + 1) property items (omega arith))
  where
    at : (ns : List ℤ) → is_later row (numbers_from (next + 1) property items) ≡ true → is_later row (map (numbered next) ns ++ numbers_from (next + 1) property items) ≡ true
    at [] more = more
    at (n ∷ ns) more = from_lt row next l

pub numbers_rise : (row property : ℕ) (items : List Item) → rises pair_up_to (numbers_from row property items) ≡ true
numbers_rise row property [] = refl
numbers_rise row property (item ∷ items) =
    pairs_rise row (in_order int_lt (numbers item.values property)) (numbers_from (row + 1) property items) (in_order_rises (numbers item.values property))
    (later_from row (row + 1) property items (omega arith)) (numbers_rise (row + 1) property items)

all_rise : (items : List Item) (a n : ℕ) → list_all (rises pair_up_to) (map (numbers_of_property items) (range_with_len a n)) ≡ true
all_rise items a zero = refl
all_rise items a (suc n) = both_true (rises pair_up_to (numbers_of_property items a)) _ (numbers_rise 0 a items) (all_rise items (a + 1) n)

pub by_property_rise : (properties : ℕ) (items : List Item) → list_all (rises pair_up_to) (numbers_by_property properties items) ≡ true
by_property_rise properties items = all_rise items 0 properties
