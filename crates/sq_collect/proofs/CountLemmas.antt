-- Counts of the numbers of a row, one for each place at most.
use Rattle.std.proofs.Common.{◌≡◌, ◌≢◌, ℕ, ◌+◌, ◌-◌, ◌^◌, ◌==◌, ◌≤◌, ◌<◌, ℤ, Bool, true, false, ◌||◌, if◌then◌else◌, zero, suc, min, List, [], ◌∷◌, ◌++◌, length, map, filter, ⊎_elim, Some, None, refl, sym, ◌∙◌, ap, subst, arith, get_or, set, get_or-set_other, get_or-set_same}
use native.Mathlib.Numerals.{unary_clauses}
use Rattle.std.proofs.lemmas.Int.{ints}
use Rattle.std.proofs.lemmas.Bool.{cases_lt}
use Rattle.std.proofs.lemmas.Bool.Decides.{nat_tests}
use Rattle.std.proofs.lemmas.List.{length-set, length-map, length-append, map-append}
use Rattle.std.proofs.lemmas.List.Elements.{filter-append}
use Rattle.std.specs.List.{list_any}
use Rattle.std.specs.List.Sorted.{IsPartitionPoint, IsPartitionedBy}
use Rattle.std.specs.Prelude.{nat_lt, nat_le, int_lt, int_le, slice_get}
use Rattle.sq_model.specs.Valid as model
use Rattle.sq_packet.specs.Refiners.{are_rising}
use Rattle.sq_postings.specs.Rising.{rises, pair_up_to}
use Rattle.sq_postings.specs.Left.{without_first_pair, pairs_from}
use Rattle.sq_collect.specs.Counted.{number_of, is_in_row, numbers_at, are_from, place_of, is_placed, count_at, once, counted, next_place}
use Rattle.sq_collect.proofs.PlaceLemmas.{place_climbs, rising_tail}

-- ---- the place by a partition

below_at : (x : ℤ) (xs : List ℤ) (j : ℕ) (d : ℤ) → are_rising (x ∷ xs) ≡ true → j < length xs → int_lt x (get_or xs j d) ≡ true
below_at x [] j d up within = absurd (omega (arith, within))
below_at x (y ∷ ys) zero d up within = grind (arith, up)
below_at x (y ∷ ys) (suc j) d up within =
    let further = below_at y ys j d (rising_tail x (y ∷ ys) up) (omega (arith, within)) in
    let first : int_lt x y ≡ true = grind (arith, up) in
    chain x y (get_or ys j d) first further
  where
    chain : (a b c : ℤ) → int_lt a b ≡ true → int_lt b c ≡ true → int_lt a c ≡ true
    chain a b c one two = grind (arith, ints, one, two)

pub marks_parted : (n : ℤ) (marks : List ℤ) → are_rising marks ≡ true → IsPartitionedBy (λ y. int_le y n) marks
marks_parted n [] up i j d order within reached = absurd (omega (arith, within))
marks_parted n (x ∷ xs) up zero zero d order within reached = reached
marks_parted n (x ∷ xs) up (suc i) zero d order within reached = absurd (omega (arith, order))
marks_parted n (x ∷ xs) up zero (suc j) d order within reached = over x (get_or xs j d) n (below_at x xs j d up (omega (arith, within))) reached
  where
    over : (a b c : ℤ) → int_lt a b ≡ true → int_le b c ≡ true → int_le a c ≡ true
    over a b c one two = grind (arith, ints, one, two)
marks_parted n (x ∷ xs) up (suc i) (suc j) d order within reached = marks_parted n xs (rising_tail x xs up) i j d (omega (arith, order)) (omega (arith, within)) reached

pub front_place : (n : ℤ) (xs : List ℤ) (i : ℕ) → i ≤ length xs → IsPartitionPoint (λ y. int_le y n ≡ true) (λ y. int_le y n ≡ false) xs i → i ≡ place_of xs n
front_place n [] i within parts = omega (arith, within)
front_place n (x ∷ xs) zero within parts =
    let first : int_le x n ≡ false = parts.1 0 x (omega arith) (omega arith) in grind (arith, first)
front_place n (x ∷ xs) (suc i) within parts =
    let first : int_le x n ≡ true = parts.0 0 x (omega arith) (omega arith) in
    let rest = front_place n xs i (omega (arith, within)) ((λ k d low high. simp unary_clauses at (parts.0 (k + 1) d (omega arith) (omega (arith, high)))), (λ k d low high. simp unary_clauses at (parts.1 (k + 1) d (omega (arith, low)) (omega (arith, high))))) in
    grind (arith, first, rest)

-- ---- the numbers of a row, one after another

abbrev pub counted_from : List ℤ → List ℤ → ℕ → List ℕ → List ℕ
counted_from marks [] next counts = counts
counted_from marks (n ∷ ns) next counts = counted_from marks ns (next_place (place_of marks n) next) (counted (place_of marks n) next counts)

-- the places do not fall, and none is further below next than by one
abbrev pub Climbs : List ℤ → ℕ → List ℤ → Type 0
Climbs marks next [] = Unit
Climbs marks next (n ∷ ns) = (next ≤ place_of marks n + 1) × Climbs marks (place_of marks n + 1) ns

climbs_lower : (marks : List ℤ) (next other : ℕ) (ns : List ℤ) → next ≤ other → Climbs marks other ns → Climbs marks next ns
climbs_lower marks next other [] low climbs = tt
climbs_lower marks next other (n ∷ ns) low climbs = let first = climbs.0 in (omega (arith, low, first), climbs.1)

next_low : (place next : ℕ) → next ≤ place + 1 → next_place place next ≤ place + 1
next_low place next low = grind (arith, low)

next_more : (place next : ℕ) → next ≤ next_place place next
next_more place next = grind (arith, nat_tests)

counted_other : (place next k : ℕ) (counts : List ℕ) → k < next → get_or (counted place next counts) k 0 ≡ get_or counts k 0
counted_other place next k counts low =
    elim (nat_lt place next) as (λ b. nat_lt place next ≡ b → get_or (if b then counts else set counts place (min (get_or counts place 0 + 1) (2 ^ 64 - 1))) k 0 ≡ get_or counts k 0) [
      | true ↦ λ is. refl
      | false ↦ λ is. get_or-set_other counts place k (min (get_or counts place 0 + 1) (2 ^ 64 - 1)) 0 (let apart : k ≢ place = grind (arith, nat_tests, is, low) in apart)
    ] refl

-- the counts below next stay
untouched : (marks ns : List ℤ) (next k : ℕ) (counts : List ℕ) → Climbs marks next ns → k < next → get_or (counted_from marks ns next counts) k 0 ≡ get_or counts k 0
untouched marks [] next k counts climbs low = refl
untouched marks (n ∷ ns) next k counts climbs low =
    let place = place_of marks n in
    let more = next_more place next in
    untouched marks ns (next_place place next) k (counted place next counts) (climbs_lower marks (next_place place next) (place + 1) ns (next_low place next climbs.0) climbs.1) (omega (arith, low, more))
    ∙ counted_other place next k counts low

none_below : (marks ns : List ℤ) (next k : ℕ) → Climbs marks next ns → k + 1 < next → list_any (is_placed marks k) ns ≡ false
none_below marks [] next k climbs low = refl
none_below marks (n ∷ ns) next k climbs low =
    let first = climbs.0 in
    let here : (place_of marks n == k) ≡ false = apart (place_of marks n) k (omega (arith, low, first)) in
    let behind = none_below marks ns (place_of marks n + 1) k climbs.1 (omega (arith, low, first)) in
    grind (arith, here, behind)
  where
    apart : (a b : ℕ) → b < a → (a == b) ≡ false
    apart a b less = grind (arith, nat_tests, less)

-- ---- one count

length_counted : (place next : ℕ) (counts : List ℕ) → length (counted place next counts) ≡ length counts
length_counted place next counts =
    elim (nat_lt place next) as (λ b. length (if b then counts else set counts place (min (get_or counts place 0 + 1) (2 ^ 64 - 1))) ≡ length counts) [
      | true ↦ refl
      | false ↦ length-set counts place (min (get_or counts place 0 + 1) (2 ^ 64 - 1))
    ]

counted_new : (place next : ℕ) (counts : List ℕ) → next ≤ place → counted place next counts ≡ set counts place (min (get_or counts place 0 + 1) (2 ^ 64 - 1))
counted_new place next counts new = let is : nat_lt place next ≡ false = grind (arith, nat_tests, new) in ap (λ b. if b then counts else set counts place (min (get_or counts place 0 + 1) (2 ^ 64 - 1))) is

counted_old : (place next : ℕ) (counts : List ℕ) → place < next → counted place next counts ≡ counts
counted_old place next counts old = let is : nat_lt place next ≡ true = grind (arith, nat_tests, old) in ap (λ b. if b then counts else set counts place (min (get_or counts place 0 + 1) (2 ^ 64 - 1))) is

next_new : (place next : ℕ) → next ≤ place → next_place place next ≡ place + 1
next_new place next new = grind (arith, nat_tests, new)

next_old : (place next : ℕ) → place < next → next_place place next ≡ next
next_old place next old = grind (arith, nat_tests, old)

once_true : (a b : Bool) → a ≡ true → once (a || b) ≡ 1
once_true a b is = ap (λ c. once (c || b)) is

once_rest : (a b : Bool) → a ≡ false → once (a || b) ≡ once b
once_rest a b is = ap (λ c. once (c || b)) is

unlike : (a b : ℕ) → a ≢ b → (a == b) ≡ false
unlike a b apart = grind (arith, nat_tests, apart)

alike : (a b : ℕ) → a ≡ b → (a == b) ≡ true
alike a b is = grind (arith, nat_tests, is)

-- a place from next on is counted once if one of the numbers is there
counted_place : (marks ns : List ℤ) (next k : ℕ) (counts : List ℕ) → Climbs marks next ns → next ≤ k → k < length counts → get_or counts k 0 < 2 ^ 32 → get_or (counted_from marks ns next counts) k 0 ≡ get_or counts k 0 + once (list_any (is_placed marks k) ns)
counted_place marks [] next k counts climbs from within few = omega arith
counted_place marks (n ∷ ns) next k counts climbs from within few =
    let place = place_of marks n in
    let behind = list_any (is_placed marks k) ns in
    let low = next_low place next climbs.0 in
    let lower = climbs_lower marks (next_place place next) (place + 1) ns low climbs.1 in
    ⊎_elim
    (λ old.
    let sofar = counted_place marks ns (next_place place next) k (counted place next counts) lower (let is = next_old place next old in omega (arith, is, from)) (let same = length_counted place next counts in omega (arith, same, within)) (subst (λ cs. get_or cs k 0 < 2 ^ 32) (sym (counted_old place next counts old)) few) in
    let base = ap (λ cs. get_or cs k 0) (counted_old place next counts old) in
    let rest = once_rest (place == k) behind (unlike place k (omega (arith, old, from))) in
    omega (arith, sofar, base, rest))
    (λ new.
    let is = next_new place next new in
    let longer = length_counted place next counts in
    let raised = counted_new place next counts new in
    let value = min (get_or counts place 0 + 1) (2 ^ 64 - 1) in
    ⊎_elim
    (λ less. ⊎_elim
    (λ under.
    let stays = untouched marks ns (next_place place next) k (counted place next counts) lower (omega (arith, is, under)) in
    let base = ap (λ cs. get_or cs k 0) raised ∙ get_or-set_other counts place k value 0 (let apart : k ≢ place = omega (arith, under) in apart) in
    let none = ap once (none_below marks ns (place + 1) k climbs.1 (omega (arith, under))) in
    let rest = once_rest (place == k) behind (unlike place k (omega (arith, under))) in
    omega (arith, stays, base, none, rest))
    (λ equal.
    let same : k ≡ place = omega (arith, less, equal) in
    let stays = untouched marks ns (next_place place next) k (counted place next counts) lower (omega (arith, is, same)) in
    let base : get_or (counted place next counts) k 0 ≡ value = ap (λ cs. get_or cs k 0) raised ∙ ap (λ i. get_or (set counts place value) i 0) same ∙ get_or-set_same counts place value 0 (omega (arith, same, within)) in
    let old : get_or counts place 0 ≡ get_or counts k 0 = ap (λ i. get_or counts i 0) (sym same) in
    let hit = once_true (place == k) behind (alike place k (sym same)) in
    omega (arith, stays, base, old, hit, few))
    (cases_lt k place))
    (λ above.
    let over : place < k = omega (arith, above) in
    let base = ap (λ cs. get_or cs k 0) raised ∙ get_or-set_other counts place k value 0 (let apart : k ≢ place = omega (arith, over) in apart) in
    let sofar = counted_place marks ns (next_place place next) k (counted place next counts) lower (omega (arith, is, over)) (omega (arith, longer, within)) (subst (λ c. c < 2 ^ 32) (sym base) few) in
    let rest = once_rest (place == k) behind (unlike place k (omega (arith, over))) in
    omega (arith, sofar, base, rest))
    (cases_lt k (place + 1)))
    (cases_lt place next)

-- ---- pairs of one row

pub numbers_first : (row : ℕ) (p : ℕ × ℤ) (pairs : List (ℕ × ℤ)) → p.0 ≡ row → numbers_at row (p ∷ pairs) ≡ p.1 ∷ numbers_at row pairs
numbers_first row p pairs is = ap (λ b. map number_of (if b then p ∷ filter (is_in_row row) pairs else filter (is_in_row row) pairs)) (alike p.0 row is)

pub numbers_other : (row : ℕ) (p : ℕ × ℤ) (pairs : List (ℕ × ℤ)) → p.0 ≢ row → numbers_at row (p ∷ pairs) ≡ numbers_at row pairs
numbers_other row p pairs apart = ap (λ b. map number_of (if b then p ∷ filter (is_in_row row) pairs else filter (is_in_row row) pairs)) (unlike p.0 row apart)

up_row : (p q : ℕ × ℤ) → pair_up_to p q ≡ true → p.0 ≤ q.0
up_row p q up = grind (arith, nat_tests, up)

up_number : (p q : ℕ × ℤ) → pair_up_to p q ≡ true → p.0 ≡ q.0 → int_le p.1 q.1 ≡ true
up_number p q up same = grind (arith, nat_tests, up, same)

first_up : (p q : ℕ × ℤ) (pairs : List (ℕ × ℤ)) → rises pair_up_to (p ∷ q ∷ pairs) ≡ true → pair_up_to p q ≡ true
first_up p q pairs up = grind (arith, up)

rest_up : (p : ℕ × ℤ) (pairs : List (ℕ × ℤ)) → rises pair_up_to (p ∷ pairs) ≡ true → rises pair_up_to pairs ≡ true
rest_up p [] up = refl
rest_up p (q ∷ pairs) up = grind (arith, up)

none_at : (row : ℕ) (p : ℕ × ℤ) (pairs : List (ℕ × ℤ)) → rises pair_up_to (p ∷ pairs) ≡ true → row < p.0 → numbers_at row (p ∷ pairs) ≡ []
none_at row p [] up less = numbers_other row p [] (let apart : p.0 ≢ row = omega (arith, less) in apart)
none_at row p (q ∷ pairs) up less =
    let step = up_row p q (first_up p q pairs up) in
    numbers_other row p (q ∷ pairs) (let apart : p.0 ≢ row = omega (arith, less) in apart) ∙ none_at row q pairs (rest_up p (q ∷ pairs) up) (omega (arith, less, step))

climbs_behind : (marks : List ℤ) (row : ℕ) (p : ℕ × ℤ) (pairs : List (ℕ × ℤ)) → rises pair_up_to (p ∷ pairs) ≡ true → p.0 ≡ row → Climbs marks (place_of marks p.1 + 1) (numbers_at row pairs)
climbs_behind marks row p [] up is = tt
climbs_behind marks row p (q ∷ pairs) up is =
    let first = first_up p q pairs up in
    let step = up_row p q first in
    let next = place_of marks p.1 + 1 in
    ⊎_elim
    (λ less. subst (λ ns. Climbs marks next ns) (sym (none_at row q pairs (rest_up p (q ∷ pairs) up) less)) tt)
    (λ not_less.
    let same : q.0 ≡ row = omega (arith, not_less, step, is) in
    let climb = place_climbs marks p.1 q.1 (up_number p q first (is ∙ sym same)) in
    subst (λ ns. Climbs marks next ns) (sym (numbers_first row q pairs same)) (omega (arith, climb), climbs_behind marks row q pairs (rest_up p (q ∷ pairs) up) same))
    (cases_lt row q.0)

pub row_climbs : (marks : List ℤ) (row : ℕ) (pairs : List (ℕ × ℤ)) → rises pair_up_to pairs ≡ true → are_from row pairs ≡ true → Climbs marks 0 (numbers_at row pairs)
row_climbs marks row [] up from = tt
row_climbs marks row (p ∷ pairs) up from =
    ⊎_elim
    (λ less. subst (λ ns. Climbs marks 0 ns) (sym (none_at row p pairs up less)) tt)
    (λ not_less.
    let here : row ≤ p.0 = grind (arith, nat_tests, from) in
    let same : p.0 ≡ row = omega (arith, not_less, here) in
    subst (λ ns. Climbs marks 0 ns) (sym (numbers_first row p pairs same)) (omega arith, climbs_behind marks row p pairs up same))
    (cases_lt row p.0)

-- the counts of a row's numbers
pub counted_row : (marks : List ℤ) (row : ℕ) (pairs : List (ℕ × ℤ)) (counts : List ℕ) (k : ℕ) → rises pair_up_to pairs ≡ true → are_from row pairs ≡ true → length counts ≡ length marks + 1 → k ≤ length marks → get_or counts k 0 < 2 ^ 32 → get_or (counted_from marks (numbers_at row pairs) 0 counts) k 0 ≡ get_or counts k 0 + once (list_any (is_placed marks k) (numbers_at row pairs))
counted_row marks row pairs counts k up from sized within few =
    counted_place marks (numbers_at row pairs) 0 k counts (row_climbs marks row pairs up from) (omega arith) (omega (arith, sized, within)) few

pub counted_all : (marks : List ℤ) (row next : ℕ) (start left : List (ℕ × ℤ)) (counts new : List ℕ) → rises pair_up_to start ≡ true → are_from row start ≡ true → length counts ≡ length marks + 1 → counted_from marks (numbers_at row left) next new ≡ counted_from marks (numbers_at row start) 0 counts → numbers_at row left ≡ []
    → (k : ℕ) → k ≤ length marks → get_or counts k 0 < 2 ^ 32 → get_or new k 0 ≡ get_or counts k 0 + once (list_any (is_placed marks k) (numbers_at row start))
counted_all marks row next start left counts new up from sized whole none k within few =
    ap (λ ns. get_or (counted_from marks ns next new) k 0) (sym none)
    ∙ ap (λ cs. get_or cs k 0) whole
    ∙ counted_row marks row start counts k up from sized within few

-- ---- the cursor's steps

pub step_counted : (marks : List ℤ) (row next : ℕ) (counts : List ℕ) (pairs : List (ℕ × ℤ)) (p : ℕ × ℤ) → slice_get pairs 0 ≡ Some p → p.0 ≡ row
    → counted_from marks (numbers_at row pairs) next counts ≡ counted_from marks (numbers_at row (without_first_pair pairs)) (next_place (place_of marks p.1) next) (counted (place_of marks p.1) next counts)
step_counted marks row next counts [] p is same = absurd (none is)
  where
    none : None ≡ Some p → ⊥
    none is = cc is
step_counted marks row next counts (q ∷ pairs) p is same =
    let equal : q ≡ p = grind (arith, is) in
    subst (λ z. counted_from marks (numbers_at row (q ∷ pairs)) next counts ≡ counted_from marks (numbers_at row pairs) (next_place (place_of marks z.1) next) (counted (place_of marks z.1) next counts)) equal
    (ap (λ ns. counted_from marks ns next counts) (numbers_first row q pairs (ap (λ z. z.0) equal ∙ same)))

pub step_from : (row : ℕ) (pairs : List (ℕ × ℤ)) → are_from row pairs ≡ true → are_from row (without_first_pair pairs) ≡ true
step_from row [] from = refl
step_from row (p ∷ pairs) from = grind (arith, from)

pub pair_passed : (later : ℕ) (pairs : List (ℕ × ℤ)) (p : ℕ × ℤ) → slice_get pairs 0 ≡ Some p → p.0 < later → pairs_from later (without_first_pair pairs) ≡ pairs_from later pairs
pair_passed later [] p is less = refl
pair_passed later (q ∷ pairs) p is less =
    let equal : q ≡ p = grind (arith, is) in
    let same : q.0 ≡ p.0 = ap (λ z. z.0) equal in
    let before : nat_le later q.0 ≡ false = grind (arith, nat_tests, same, less) in
    sym (ap (λ b. if b then q ∷ pairs_from later pairs else pairs_from later pairs) before)

pub row_done : (row : ℕ) (pairs : List (ℕ × ℤ)) (p : ℕ × ℤ) → slice_get pairs 0 ≡ Some p → p.0 ≢ row → rises pair_up_to pairs ≡ true → are_from row pairs ≡ true → numbers_at row pairs ≡ []
row_done row [] p is apart up from = refl
row_done row (q ∷ pairs) p is apart up from =
    let equal : q ≡ p = grind (arith, is) in
    let here : row ≤ q.0 = grind (arith, nat_tests, from) in
    let same : q.0 ≡ p.0 = ap (λ z. z.0) equal in
    let less : row < q.0 = grind (arith, here, same, apart) in
    none_at row q pairs up less

pub all_done : {X : Type 0} (pairs : List X) → slice_get pairs 0 ≡ None → pairs ≡ []
all_done [] is = refl
all_done (q ∷ pairs) is = absurd (some is)
  where
    some : Some q ≡ None → ⊥
    some is = cc is

-- ---- pairs of the rows from one on

pub from_pairs : (row : ℕ) (pairs : List (ℕ × ℤ)) → are_from row (pairs_from row pairs) ≡ true
from_pairs row [] = refl
from_pairs row (p ∷ pairs) = let behind = from_pairs row pairs in grind (arith, behind)

pub from_twice : (row later : ℕ) (pairs : List (ℕ × ℤ)) → row ≤ later → pairs_from later (pairs_from row pairs) ≡ pairs_from later pairs
from_twice row later [] low = refl
from_twice row later (p ∷ pairs) low = let behind = from_twice row later pairs low in grind (arith, nat_tests, low, behind)

pub numbers_from_row : (row : ℕ) (pairs : List (ℕ × ℤ)) → numbers_at row (pairs_from row pairs) ≡ numbers_at row pairs
numbers_from_row row pairs = ap (map number_of) (kept row pairs)
  where
    kept : (row : ℕ) (pairs : List (ℕ × ℤ)) → filter (is_in_row row) (pairs_from row pairs) ≡ filter (is_in_row row) pairs
    kept row [] = refl
    kept row (p ∷ pairs) = let behind = kept row pairs in grind (arith, nat_tests, behind)

-- ---- counts over rows

one_hit : (p : List ℤ → Bool) (hit : List ℤ) → length (filter p (hit ∷ [])) ≡ once (p hit)
one_hit p hit = elim (p hit) as (λ b. length (if b then hit ∷ [] else []) ≡ once b) [ true ↦ refl | false ↦ refl ]

pub count_more : (marks : List ℤ) (numbers : ℕ → List ℤ) (rows : List ℕ) (row place : ℕ) → count_at marks (map numbers (rows ++ row ∷ [])) place ≡ count_at marks (map numbers rows) place + once (list_any (is_placed marks place) (numbers row))
count_more marks numbers rows row place =
    let test = list_any (is_placed marks place) in
    ap (λ hits. length (filter test hits)) (map-append numbers rows (row ∷ []))
    ∙ ap length (filter-append test (map numbers rows) (numbers row ∷ []))
    ∙ length-append (filter test (map numbers rows)) (filter test (numbers row ∷ []))
    ∙ ap (λ n. count_at marks (map numbers rows) place + n) (one_hit test (numbers row))

count_few : (p : List ℤ → Bool) (hits : List (List ℤ)) → length (filter p hits) ≤ length hits
count_few p [] = omega arith
count_few p (hit ∷ hits) = let behind = count_few p hits in grind (arith, behind)

pub count_within : (marks : List ℤ) (numbers : ℕ → List ℤ) (rows : List ℕ) (place : ℕ) → count_at marks (map numbers rows) place ≤ length rows
count_within marks numbers rows place =
    let few = count_few (list_any (is_placed marks place)) (map numbers rows) in
    let mapped = length-map rows numbers in
    omega (arith, few, mapped)

pub last_below : (rows : List ℕ) (row later : ℕ) → model.are_rising ((rows ++ row ∷ []) ++ later ∷ []) ≡ true → row < later
last_below [] row later up = grind (arith, nat_tests, up)
last_below (r ∷ []) row later up = grind (arith, nat_tests, up)
last_below (r ∷ s ∷ rows) row later up = last_below (s ∷ rows) row later (grind (arith, up))
