-- How often a value stands among sorted numbers, in two parts by a test, and in the numbers of hits.
use Rattle.std.proofs.Common.{◌≡◌, ℕ, ℤ, ◌+◌, ◌<◌, ◌≤◌, ◌==◌, ◌||◌, Bool, true, false, cond, zero, suc, add-one, get_or, drop, drop-cons, append_assoc, append-nil, take-append-drop, Option, Some, None, ◌≢◌, List, [], ◌∷◌, ◌++◌, map, flat_map, length, take, refl, sym, ◌∙◌, ap, arith}
use native.Mathlib.Numerals.{unary_clauses}
use Rattle.std.proofs.lemmas.Int.{ints}
use Rattle.std.proofs.lemmas.List.{drop_all}
use Rattle.std.proofs.lemmas.List.Sums.{sum_by-append, sum_by-cons, sum_by_more, length-filter}
use Rattle.std.proofs.lemmas.List.Sorted.{sorted_far, ranks_by, sum_by-IsPermutation}
use Rattle.std.proofs.lemmas.List.Folds.{list_any-append}
use Rattle.std.specs.Cmp.{int_cmp_total}
use Rattle.std.specs.List.{count_by, list_any}
use Rattle.std.specs.List.Sorted.{IsPermutation, IsSorted, IsPartitionPoint, IsPartitionedBy}
use Rattle.std.specs.Ordering.{int_cmp, int_eq, is_lt}
use Rattle.std.specs.Prelude.{int_lt, int_le, slice_index_or}
use Rattle.sq_response.specs.declared.response.Entry.{Entry}
use Rattle.sq_response.specs.declared.response.Entry.TheVariants.{Single}
use Rattle.sq_ranking.specs.Gathered.{Gathered}
use Rattle.sq_ranking.specs.Ranking.{has, values, single, bucket, buckets, entries}
use Rattle.sq_ranking.proofs.ValuesLemmas.{any_counted, counted_once, values_alike}

-- ---- counts by parts

count_front : (p : ℤ → Bool) (xs : List ℤ) (i : ℕ) → i ≤ length xs → IsPartitionPoint (λ y. p y ≡ true) (λ y. p y ≡ false) xs i → count_by p xs ≡ i
count_front p [] i within parts = omega (arith, within)
count_front p (x ∷ xs) zero within parts =
    let here = sum_by-cons (λ y. cond (p y) 1 0) x xs in
    let first : p x ≡ false = parts.1 0 x (omega arith) (omega arith) in
    let rest = count_front p xs 0 (omega arith) ((λ k d low high. absurd (omega (arith, high))), (λ k d low high. simp unary_clauses at (parts.1 (k + 1) d (omega arith) (omega (arith, high))))) in
    grind (arith, here, first, rest)
count_front p (x ∷ xs) (suc i) within parts =
    let here = sum_by-cons (λ y. cond (p y) 1 0) x xs in
    let first : p x ≡ true = parts.0 0 x (omega arith) (omega arith) in
    let rest = count_front p xs i (omega (arith, within)) ((λ k d low high. simp unary_clauses at (parts.0 (k + 1) d (omega arith) (omega (arith, high)))), (λ k d low high. simp unary_clauses at (parts.1 (k + 1) d (omega (arith, low)) (omega (arith, high))))) in
    grind (arith, here, first, rest)

not_above : (value : ℤ) (xs : List ℤ) → count_by (λ y. int_lt y value) xs + count_by (int_eq value) xs ≡ count_by (λ y. int_le y value) xs
not_above value [] = refl
not_above value (x ∷ xs) =
    let lower = sum_by-cons (λ y. cond (int_lt y value) 1 0) x xs in
    let equal = sum_by-cons (λ y. cond (int_eq value y) 1 0) x xs in
    let upper = sum_by-cons (λ y. cond (int_le y value) 1 0) x xs in
    grind (arith, ints, lower, equal, upper, not_above value xs)

far : (xs : List ℤ) → IsSorted int_cmp xs → (i j : ℕ) (d : ℤ) → i ≤ j → j < length xs → is_lt (int_cmp (slice_index_or xs j d) (slice_index_or xs i d)) ≡ false
far xs up i j d order within = sorted_far (λ x y. is_lt (int_cmp x y)) (ranks_by int_cmp_total (λ x. x)) xs up i j d order within

lower_parted : (value a b : ℤ) → is_lt (int_cmp b a) ≡ false → int_lt b value ≡ true → int_lt a value ≡ true
lower_parted value a b order below = grind (arith, ints, order, below)

upper_parted : (value a b : ℤ) → is_lt (int_cmp b a) ≡ false → int_le b value ≡ true → int_le a value ≡ true
upper_parted value a b order below = grind (arith, ints, order, below)

pub lower_is_parted : (value : ℤ) (xs : List ℤ) → IsSorted int_cmp xs → IsPartitionedBy (λ y. int_lt y value) xs
lower_is_parted value xs up i j d order within below = lower_parted value (slice_index_or xs i d) (slice_index_or xs j d) (far xs up i j d order within) below

pub upper_is_parted : (value : ℤ) (xs : List ℤ) → IsSorted int_cmp xs → IsPartitionedBy (λ y. int_le y value) xs
upper_is_parted value xs up i j d order within below = upper_parted value (slice_index_or xs i d) (slice_index_or xs j d) (far xs up i j d order within) below

pub between : (value : ℤ) (xs : List ℤ) (from to : ℕ) → from ≤ length xs → to ≤ length xs
    → IsPartitionPoint (λ y. int_lt y value ≡ true) (λ y. int_lt y value ≡ false) xs from
    → IsPartitionPoint (λ y. int_le y value ≡ true) (λ y. int_le y value ≡ false) xs to
    → from + count_by (int_eq value) xs ≡ to
between value xs from to one two lower upper =
    let low = count_front (λ y. int_lt y value) xs from one lower in
    let high = count_front (λ y. int_le y value) xs to two upper in
    let whole = not_above value xs in
    omega (arith, low, high, whole)

-- ---- counts of all hits

abbrev bit : Bool → ℕ
bit b = cond b 1 0

abbrev flat : List (List ℤ) → List ℤ
flat hits = flat_map (λ numbers. numbers) hits

has_flat : (v : ℤ) (hits : List (List ℤ)) → has v (flat hits) ≡ list_any (has v) hits
has_flat v [] = refl
has_flat v (numbers ∷ hits) = list_any-append (int_eq v) numbers (flat hits) ∙ ap (λ b. has v numbers || b) (has_flat v hits)

pub gathered_more : (hits : List (List ℤ)) (i : ℕ) (numbers : List ℤ) (hit : List ℤ) → i < length hits → get_or hits i hit ≡ hit
    → ((v : ℤ) → count_by (int_eq v) numbers ≡ count_by (has v) (take i hits)) → (v : ℤ) → count_by (int_eq v) (numbers ++ values hit) ≡ count_by (has v) (take (i + 1) hits)
gathered_more hits i numbers hit within is sofar v =
    let longer = sum_by-append (λ y. cond (int_eq v y) 1 0) numbers (values hit) in
    let once = counted_once v hit in
    let more = sum_by_more (λ h. cond (has v h) 1 0) hits i hit within in
    let one : bit (has v (get_or hits i hit)) ≡ bit (has v hit) = ap (λ h. bit (has v h)) is in
    omega (arith, longer, once, more, one, sofar v)

pub gathered_all : (hits : List (List ℤ)) (numbers sorted : List ℤ) → ((v : ℤ) → count_by (int_eq v) numbers ≡ count_by (has v) hits) → IsPermutation numbers sorted → IsSorted int_cmp sorted → Gathered hits sorted
gathered_all hits numbers sorted counts moved up = record {
  sorted = up;
  counts = λ v. sum_by-IsPermutation (λ y. cond (int_eq v y) 1 0) numbers sorted moved ∙ counts v;
}

map_alike : (f g : ℤ → Entry) (xs : List ℤ) → ((x : ℤ) → f x ≡ g x) → map f xs ≡ map g xs
map_alike f g [] alike = refl
map_alike f g (x ∷ xs) alike = ap (λ y. y ∷ map f xs) (alike x) ∙ ap (λ ys. g x ∷ ys) (map_alike f g xs alike)

gathered_values : (hits : List (List ℤ)) (numbers : List ℤ) → Gathered hits numbers → values numbers ≡ values (flat hits)
gathered_values hits numbers all =
    values_alike numbers (flat hits) (λ v. any_counted (int_eq v) numbers ∙ ap (λ n. cond (n == 0) false true) (all.counts v) ∙ sym (any_counted (has v) hits) ∙ sym (has_flat v hits))

pub gathered_singles : (hits : List (List ℤ)) (numbers : List ℤ) → Gathered hits numbers → map (λ value. Single value (count_by (int_eq value) numbers)) (values numbers) ≡ entries [] hits
gathered_singles hits numbers all =
    map_alike (λ value. Single value (count_by (int_eq value) numbers)) (single hits) (values numbers) (λ v. ap (λ n. Single v n) (all.counts v ∙ sym (length-filter (has v) hits)))
    ∙ ap (map (single hits)) (gathered_values hits numbers all)

pub whole : {X : Type 0} (i : ℕ) (xs : List X) → length xs ≤ i → take i xs ≡ xs
whole i xs past = sym (append-nil (take i xs)) ∙ ap (λ ys. take i xs ++ ys) (sym (drop_all i xs past)) ∙ take-append-drop i xs

-- ---- entries

pub bucket_step : (hits : List (List ℤ)) (found all : List Entry) (from : Option ℤ) (bounds : List ℤ) (i : ℕ) (d : ℤ) → i < length bounds
    → found ++ buckets hits from (drop i bounds) ≡ all
    → (found ++ bucket hits from (Some (get_or bounds i d)) ∷ []) ++ buckets hits (Some (get_or bounds i d)) (drop (i + 1) bounds) ≡ all
bucket_step hits found all from bounds i d within sofar =
    let bound : ℤ = get_or bounds i d in
    let split : drop i bounds ≡ get_or bounds i d ∷ drop (i + 1) bounds = rw (add-one, drop-cons bounds i d) in
    append_assoc found (bucket hits from (Some bound) ∷ []) (buckets hits (Some bound) (drop (i + 1) bounds))
    ∙ ap (λ rest. found ++ buckets hits from rest) (sym split)
    ∙ sofar

pub entries_bare : (bounds : List ℤ) (hits : List (List ℤ)) → length bounds ≡ 0 → entries bounds hits ≡ entries [] hits
entries_bare [] hits none = refl
entries_bare (bound ∷ bounds) hits none = absurd (omega (arith, none))

pub entries_bounded : (bounds : List ℤ) (hits : List (List ℤ)) → length bounds ≢ 0 → entries bounds hits ≡ buckets hits None bounds
entries_bounded [] hits some = absurd (some refl)
entries_bounded (bound ∷ bounds) hits some = refl
