-- The numbers of rows among pairs that rise, and the keys of rows.
use Rattle.std.proofs.Common.{◌≡◌, ℕ, zero, suc, ℤ, ◌+◌, ◌<◌, ◌≤◌, Bool, true, false, cond, List, [], ◌∷◌, ◌++◌, map, filter, length, option_to_list, Option, Some, None, refl, ap, sym, ◌∙◌, arith}
use Rattle.std.specs.Prelude.{nat_le, nat_lt, ◌&&◌, ◌||◌, ◌==◌, slice_get, int_le, int_lt}
use Rattle.std.specs.List.{list_all}
use Rattle.std.proofs.lemmas.Bool.Decides.{nat_tests}
use Rattle.std.proofs.lemmas.Int.{ints, clamps}
use Rattle.std.specs.Int.{int_min, int_max}
use Rattle.std.proofs.lemmas.List.{map-append, length-append, length-map, append-nil}
use Rattle.std.proofs.lemmas.List.Elements.{filter-append}
use Rattle.std.proofs.lemmas.List.Sums.{sum_by-cons}
use Rattle.sq_base.specs.Sorting.{put, in_order}
use Rattle.sq_model.specs.Cost.{number_count}
use Rattle.sq_model.specs.Passages.{numbers}
use Rattle.sq_model.specs.declared.corpus.Item.{Item}
use Rattle.sq_packet.specs.declared.request.Direction.{Direction}
use Rattle.sq_packet.specs.declared.request.Direction.TheVariants.{Ascending, Descending}
use Rattle.sq_postings.specs.Rising.{rises, pair_up_to}
use Rattle.sq_postings.specs.Left.{without_first_pair, pairs_from}
use Rattle.sq_postings.specs.Occurrences.{numbered, numbers_from}
use Rattle.sq_collect.specs.Counted.{numbers_at, number_of, is_in_row}
use Rattle.sq_engine.specs.Answer.{key_among, least, greatest}
use Rattle.sq_service.specs.Keys.{AreFrom}
use Rattle.sq_service.proofs.SortLemmas.{key_none, key_step}

and_left : (a b : Bool) → a && b ≡ true → a ≡ true
and_left true b e = refl
and_left false b e = absurd (cc)

and_right : (a b : Bool) → a && b ≡ true → b ≡ true
and_right true b e = e
and_right false b e = absurd (cc)

rises_tail : (pair : ℕ × ℤ) (pairs : List (ℕ × ℤ)) → rises pair_up_to (pair ∷ pairs) ≡ true → rises pair_up_to pairs ≡ true
rises_tail pair [] h = refl
rises_tail pair (next ∷ pairs) h = and_right (pair_up_to pair next) (rises pair_up_to (next ∷ pairs)) h

other_row : (row : ℕ) (pair : ℕ × ℤ) (pairs : List (ℕ × ℤ)) → (pair.0 == row) ≡ false → numbers_at row (pair ∷ pairs) ≡ numbers_at row pairs
other_row row pair pairs other = ap (λ b. map number_of (cond b (pair ∷ filter (is_in_row row) pairs) (filter (is_in_row row) pairs))) other

this_row : (row : ℕ) (pair : ℕ × ℤ) (pairs : List (ℕ × ℤ)) → (pair.0 == row) ≡ true → numbers_at row (pair ∷ pairs) ≡ pair.1 ∷ numbers_at row pairs
this_row row pair pairs this = ap (λ b. map number_of (cond b (pair ∷ filter (is_in_row row) pairs) (filter (is_in_row row) pairs))) this

with_same : (b : Bool) (pair : ℕ × ℤ) (xs ys : List (ℕ × ℤ)) → map number_of xs ≡ map number_of ys → map number_of (cond b (pair ∷ xs) xs) ≡ map number_of (cond b (pair ∷ ys) ys)
with_same true pair xs ys same = ap (λ ns. pair.1 ∷ ns) same
with_same false pair xs ys same = same

pass_one : (row r : ℕ) (pair : ℕ × ℤ) (pairs : List (ℕ × ℤ)) → row ≤ r → numbers_at r (pairs_from row pairs) ≡ numbers_at r pairs
    → (b : Bool) → nat_le row pair.0 ≡ b → numbers_at r (cond b (pair ∷ pairs_from row pairs) (pairs_from row pairs)) ≡ numbers_at r (pair ∷ pairs)
pass_one row r pair pairs from rest true e = with_same (pair.0 == r) pair _ _ rest
pass_one row r pair pairs from rest false e =
    let other : (pair.0 == r) ≡ false = grind (arith, nat_tests, e, from) in
    rest ∙ sym (other_row r pair pairs other)

-- pairs of rows before are none of a row from there on
pub passed : (row r : ℕ) (pairs : List (ℕ × ℤ)) → row ≤ r → numbers_at r (pairs_from row pairs) ≡ numbers_at r pairs
passed row r [] from = refl
passed row r (pair ∷ pairs) from = pass_one row r pair pairs from (passed row r pairs from) (nat_le row pair.0) refl

from_one : (row : ℕ) (pair : ℕ × ℤ) (pairs : List (ℕ × ℤ)) → AreFrom row pairs → (b : Bool) → nat_le row pair.0 ≡ b → AreFrom row (cond b (pair ∷ pairs) pairs)
from_one row pair pairs rest true e = rw e rest
from_one row pair pairs rest false e = rest

pub all_from : (row : ℕ) (pairs : List (ℕ × ℤ)) → AreFrom row (pairs_from row pairs)
all_from row [] = refl
all_from row (pair ∷ pairs) = from_one row pair (pairs_from row pairs) (all_from row pairs) (nat_le row pair.0) refl

not_lower : (p q : ℕ × ℤ) → pair_up_to p q ≡ true → p.0 ≤ q.0
not_lower p q e = at (nat_lt p.0 q.0) (p.0 == q.0) refl refl e
  where
    at : (less same : Bool) → nat_lt p.0 q.0 ≡ less → (p.0 == q.0) ≡ same → (less || (same && int_le p.1 q.1)) ≡ true → p.0 ≤ q.0
    at true same l s e = grind (arith, nat_tests, l)
    at false true l s e = grind (arith, nat_tests, s)
    at false false l s e = absurd (cc)

-- behind a pair of a later row stands none of this row
pub none_behind : (row : ℕ) (pair : ℕ × ℤ) (pairs : List (ℕ × ℤ)) → rises pair_up_to (pair ∷ pairs) ≡ true → row < pair.0 → numbers_at row (pair ∷ pairs) ≡ []
none_behind row pair [] rising later =
    let other : (pair.0 == row) ≡ false = grind (arith, nat_tests, later) in other_row row pair [] other
none_behind row pair (next ∷ pairs) rising later =
    let other : (pair.0 == row) ≡ false = grind (arith, nat_tests, later) in
    let further : row < next.0 = omega (arith, later, not_lower pair next (and_left (pair_up_to pair next) (rises pair_up_to (next ∷ pairs)) rising)) in
    other_row row pair (next ∷ pairs) other ∙ none_behind row next pairs (rises_tail pair (next ∷ pairs) rising) further

module _ (direction : Direction) (row : ℕ) (best : Option ℤ) (pairs : List (ℕ × ℤ)) (from : AreFrom row pairs) where
  -- the row's pairs are gone through
  pub key_end : slice_get pairs 0 ≡ None → key_among direction (option_to_list best ++ numbers_at row pairs) ≡ best
  key_end here = at pairs here
    where
      at : (left : List (ℕ × ℤ)) → slice_get left 0 ≡ None → key_among direction (option_to_list best ++ numbers_at row left) ≡ best
      at [] here = key_none direction best
      at (pair ∷ left) here = absurd (cc)

  module _ (pair : ℕ × ℤ) (here : slice_get pairs 0 ≡ Some pair) where
    pub key_stop : rises pair_up_to pairs ≡ true → (pair.0 == row) ≡ false → key_among direction (option_to_list best ++ numbers_at row pairs) ≡ best
    key_stop rising other = at pairs from here rising
      where
        at : (left : List (ℕ × ℤ)) → AreFrom row left → slice_get left 0 ≡ Some pair → rises pair_up_to left ≡ true → key_among direction (option_to_list best ++ numbers_at row left) ≡ best
        at [] from here rising = absurd (cc)
        at (first ∷ left) from here rising =
            let same : first ≡ pair = cc in
            let low : nat_le row first.0 ≡ true = and_left (nat_le row first.0) (list_all (λ (p : ℕ × ℤ). nat_le row p.0) left) from in
            let apart : (first.0 == row) ≡ false = ap (λ (p : ℕ × ℤ). p.0 == row) same ∙ other in
            let later : row < first.0 = grind (arith, nat_tests, low, apart) in
            ap (λ ns. key_among direction (option_to_list best ++ ns)) (none_behind row first left rising later) ∙ key_none direction best

    -- one pair more of the row
    pub key_next : (more : Option ℤ) → (pair.0 == row) ≡ true → more ≡ key_among direction (option_to_list best ++ pair.1 ∷ [])
        → key_among direction (option_to_list more ++ numbers_at row (without_first_pair pairs)) ≡ key_among direction (option_to_list best ++ numbers_at row pairs)
    key_next more this is = at pairs here
      where
        at : (left : List (ℕ × ℤ)) → slice_get left 0 ≡ Some pair
            → key_among direction (option_to_list more ++ numbers_at row (without_first_pair left)) ≡ key_among direction (option_to_list best ++ numbers_at row left)
        at [] here = absurd (cc)
        at (first ∷ left) here =
            let same : first ≡ pair = cc in
            ap (λ one. key_among direction (option_to_list one ++ numbers_at row left)) is
            ∙ key_step direction best pair.1 (numbers_at row left)
            ∙ ap (λ ns. key_among direction (option_to_list best ++ ns)) (sym (this_row row pair left this) ∙ ap (λ p. numbers_at row (p ∷ left)) (sym same))

-- behind the first pair all is from there too
pub from_next : (row : ℕ) (pairs : List (ℕ × ℤ)) → AreFrom row pairs → AreFrom row (without_first_pair pairs)
from_next row [] from = refl
from_next row (pair ∷ pairs) from = and_right (nat_le row pair.0) (list_all (λ (p : ℕ × ℤ). nat_le row p.0) pairs) from

-- later rows lose nothing
pub later_next : (row r : ℕ) (pairs : List (ℕ × ℤ)) (pair : ℕ × ℤ) → slice_get pairs 0 ≡ Some pair → (pair.0 == row) ≡ true → row < r
    → numbers_at r (without_first_pair pairs) ≡ numbers_at r pairs
later_next row r [] pair here this later = refl
later_next row r (first ∷ pairs) pair here this later =
    let same : first ≡ pair = cc in
    let here : (first.0 == row) ≡ true = ap (λ (p : ℕ × ℤ). p.0 == row) same ∙ this in
    let other : (first.0 == r) ≡ false = grind (arith, nat_tests, here, later) in
    sym (other_row r first pairs other)

-- ---- the key among numbers doesn't see their order

module _ (pick : ℤ → List ℤ → ℤ) (join : ℤ → ℤ → ℤ) (first : (n m : ℤ) (ms : List ℤ) → pick n (m ∷ ms) ≡ pick (join n m) ms)
    (swaps : (n x y : ℤ) → join (join n x) y ≡ join (join n y) x) (turns : (x y : ℤ) → join x y ≡ join y x) where
  swapped : (n x y : ℤ) (ns : List ℤ) → pick n (y ∷ x ∷ ns) ≡ pick n (x ∷ y ∷ ns)
  swapped n x y ns =
      first n y (x ∷ ns) ∙ first (join n y) x ns ∙ ap (λ one. pick one ns) (swaps n y x) ∙ sym (first (join n x) y ns) ∙ sym (first n x (y ∷ ns))

  put_by : (n x y : ℤ) (ys : List ℤ) → ((one : ℤ) → pick one (put int_lt x ys) ≡ pick one (x ∷ ys)) → (b : Bool)
      → pick n (cond b (y ∷ put int_lt x ys) (x ∷ y ∷ ys)) ≡ pick n (x ∷ y ∷ ys)
  put_by n x y ys rest true = first n y (put int_lt x ys) ∙ rest (join n y) ∙ sym (first n y (x ∷ ys)) ∙ swapped n x y ys
  put_by n x y ys rest false = refl

  pick_put : (n x : ℤ) (ys : List ℤ) → pick n (put int_lt x ys) ≡ pick n (x ∷ ys)
  pick_put n x [] = refl
  pick_put n x (y ∷ ys) = put_by n x y ys (λ one. pick_put one x ys) (int_lt y x)

  pick_ordered : (n : ℤ) (xs : List ℤ) → pick n (in_order int_lt xs) ≡ pick n xs
  pick_ordered n [] = refl
  pick_ordered n (x ∷ xs) =
      pick_put n x (in_order int_lt xs) ∙ first n x (in_order int_lt xs) ∙ pick_ordered (join n x) xs ∙ sym (first n x xs)

  module _ (key : List ℤ → Option ℤ) (picks : (n : ℤ) (ns : List ℤ) → key (n ∷ ns) ≡ Some (pick n ns)) where
    key_by : (x y : ℤ) (ys : List ℤ) (b : Bool) → key (cond b (y ∷ put int_lt x ys) (x ∷ y ∷ ys)) ≡ Some (pick x (y ∷ ys))
    key_by x y ys true =
        picks y (put int_lt x ys)
        ∙ ap Some (pick_put y x ys ∙ first y x ys ∙ ap (λ one. pick one ys) (turns y x) ∙ sym (first x y ys))
    key_by x y ys false = picks x (y ∷ ys)

    key_put : (x : ℤ) (ys : List ℤ) → key (put int_lt x ys) ≡ Some (pick x ys)
    key_put x [] = picks x []
    key_put x (y ∷ ys) = key_by x y ys (int_lt y x)

    pub key_ordered : (xs : List ℤ) → key (in_order int_lt xs) ≡ key xs
    key_ordered [] = refl
    key_ordered (x ∷ xs) = key_put x (in_order int_lt xs) ∙ ap Some (pick_ordered x xs) ∙ sym (picks x xs)

least_first : (b : Bool) (n m : ℤ) (ms : List ℤ) → cond b (least m ms) (least n ms) ≡ least (cond b m n) ms
least_first true n m ms = refl
least_first false n m ms = refl

greatest_first : (b : Bool) (n m : ℤ) (ms : List ℤ) → cond b (greatest m ms) (greatest n ms) ≡ greatest (cond b m n) ms
greatest_first true n m ms = refl
greatest_first false n m ms = refl

least_swaps : (n x y : ℤ) → int_min (int_min n x) y ≡ int_min (int_min n y) x
least_swaps n x y = omega (arith, ints, clamps)

least_turns : (x y : ℤ) → int_min x y ≡ int_min y x
least_turns x y = omega (arith, ints, clamps)

greatest_swaps : (n x y : ℤ) → int_max y (int_max x n) ≡ int_max x (int_max y n)
greatest_swaps n x y = omega (arith, ints, clamps)

greatest_turns : (x y : ℤ) → int_max y x ≡ int_max x y
greatest_turns x y = omega (arith, ints, clamps)

pub key_of_order : (direction : Direction) (ns : List ℤ) → key_among direction (in_order int_lt ns) ≡ key_among direction ns
key_of_order Ascending ns =
    key_ordered least int_min (λ n m ms. least_first (int_lt m n) n m ms) least_swaps least_turns (key_among Ascending) (λ n ms. refl) ns
key_of_order Descending ns =
    key_ordered greatest (λ n m. int_max m n) (λ n m ms. greatest_first (int_lt n m) n m ms) greatest_swaps greatest_turns (key_among Descending) (λ n ms. refl) ns

-- ---- the numbers of a row among those of all items

at_append : (row : ℕ) (xs ys : List (ℕ × ℤ)) → numbers_at row (xs ++ ys) ≡ numbers_at row xs ++ numbers_at row ys
at_append row xs ys = ap (map number_of) (filter-append (is_in_row row) xs ys) ∙ map-append number_of (filter (is_in_row row) xs) (filter (is_in_row row) ys)

at_same : (row : ℕ) (ns : List ℤ) → numbers_at row (map (numbered row) ns) ≡ ns
at_same row [] = refl
at_same row (n ∷ ns) =
    let this : (row == row) ≡ true = grind (arith, nat_tests) in
    this_row row (row, n) (map (numbered row) ns) this ∙ ap (λ rest. n ∷ rest) (at_same row ns)

at_other : (row at : ℕ) (ns : List ℤ) → (at == row) ≡ false → numbers_at row (map (numbered at) ns) ≡ []
at_other row at [] other = refl
at_other row at (n ∷ ns) other = other_row row (at, n) (map (numbered at) ns) other ∙ at_other row at ns other

at_before : (row at property : ℕ) (items : List Item) → row < at → numbers_at row (numbers_from at property items) ≡ []
at_before row at property [] before = refl
at_before row at property (item ∷ items) before =
    let other : (at == row) ≡ false = grind (arith, nat_tests, before) in
    at_append row (map (numbered at) (in_order int_lt (numbers item.values property))) (numbers_from (at + 1) property items)
    ∙ ap (λ ns. ns ++ numbers_at row (numbers_from (at + 1) property items)) (at_other row at (in_order int_lt (numbers item.values property)) other)
    ∙ at_before row (at + 1) property items (omega (arith, before))

-- of the item in a row, by number
pub row_numbers : (items : List Item) (at property k : ℕ) (item : Item) → slice_get items k ≡ Some item
    → numbers_at (at + k) (numbers_from at property items) ≡ in_order int_lt (numbers item.values property)
row_numbers [] at property k item here = absurd (cc)
row_numbers (one ∷ items) at property zero item here =
    let same : one ≡ item = cc in
    let row : at + 0 ≡ at = omega arith in
    let front = in_order int_lt (numbers one.values property) in
    ap (λ r. numbers_at r (numbers_from at property (one ∷ items))) row
    ∙ at_append at (map (numbered at) front) (numbers_from (at + 1) property items)
    ∙ ap (λ ns. ns ++ numbers_at at (numbers_from (at + 1) property items)) (at_same at front)
    ∙ ap (λ ns. front ++ ns) (at_before at (at + 1) property items (omega arith))
    ∙ append-nil front
    ∙ ap (λ (i : Item). in_order int_lt (numbers i.values property)) same
row_numbers (one ∷ items) at property (suc k) item here =
    let row : at + suc k ≡ at + 1 + k = omega arith in
    let other : (at == (at + suc k)) ≡ false = grind (arith, nat_tests) in
    at_append (at + suc k) (map (numbered at) (in_order int_lt (numbers one.values property))) (numbers_from (at + 1) property items)
    ∙ ap (λ ns. ns ++ numbers_at (at + suc k) (numbers_from (at + 1) property items)) (at_other (at + suc k) at (in_order int_lt (numbers one.values property)) other)
    ∙ ap (λ r. numbers_at r (numbers_from (at + 1) property items)) row
    ∙ row_numbers items (at + 1) property k item here

length_put : (x : ℤ) (ys : List ℤ) → length (put int_lt x ys) ≡ length ys + 1
length_put x [] = refl
length_put x (y ∷ ys) = put_one (int_lt y x) y ys (length_put x ys)
  where
    put_one : (b : Bool) (y : ℤ) (ys : List ℤ) → length (put int_lt x ys) ≡ length ys + 1 → length (cond b (y ∷ put int_lt x ys) (x ∷ y ∷ ys)) ≡ length (y ∷ ys) + 1
    put_one true y ys rest = omega (arith, rest)
    put_one false y ys rest = omega arith

length_ordered : (xs : List ℤ) → length (in_order int_lt xs) ≡ length xs
length_ordered [] = refl
length_ordered (x ∷ xs) = omega (arith, length_put x (in_order int_lt xs), length_ordered xs)

-- there are as many pairs as numbers
pub all_numbers : (items : List Item) (at property : ℕ) → length (numbers_from at property items) ≡ number_count items property
all_numbers [] at property = refl
all_numbers (item ∷ items) at property =
    length-append (map (numbered at) (in_order int_lt (numbers item.values property))) (numbers_from (at + 1) property items)
    ∙ ap (λ n. n + length (numbers_from (at + 1) property items)) (length-map (in_order int_lt (numbers item.values property)) (numbered at) ∙ length_ordered (numbers item.values property))
    ∙ ap (λ n. length (numbers item.values property) + n) (all_numbers items (at + 1) property)
    ∙ sym (sum_by-cons (λ (one : Item). length (numbers one.values property)) item items)
