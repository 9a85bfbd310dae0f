-- The entries of a refiner, by the counts of the places between its marks.
use Rattle.std.proofs.Common.{◌≡◌, ℕ, ◌+◌, ◌==◌, ◌≤◌, ℤ, Bool, true, false, ◌&&◌, ◌||◌, not, if◌then◌else◌, List, [], ◌∷◌, ◌++◌, length, map, filter, flat_map, Option, Some, None, refl, sym, ◌∙◌, ap, subst, arith}
use Rattle.std.proofs.lemmas.List.Folds.{list_any-append}
use Rattle.std.specs.List.{list_any, list_all}
use Rattle.std.specs.Ordering.{int_eq}
use Rattle.sq_response.specs.declared.response.Entry.{Entry}
use Rattle.sq_response.specs.declared.response.Entry.TheVariants.{Bucket}
use Rattle.sq_ranking.specs.Ranking.{has, values, single, in_bucket, bucket, buckets, entries}
use Rattle.sq_collect.specs.Counted.{counted_buckets, single_of, counted_singles}
use Rattle.sq_collect.proofs.PlaceLemmas.{placed_from, rises_from, rises_behind, placed_first, placed_next, placed_single, known, known_next, filter_rises, has_filter, values_of_rising, values_rise, same}
use Rattle.sq_ranking.proofs.ValuesLemmas.{has_values, values_alike}

-- ---- tests that agree

any_alike : (p q : ℤ → Bool) (numbers : List ℤ) → ((n : ℤ) → p n ≡ q n) → list_any p numbers ≡ list_any q numbers
any_alike p q [] alike = refl
any_alike p q (n ∷ ns) alike = let here = alike n in let behind = any_alike p q ns alike in grind (arith, here, behind)

counts_alike : (p q : ℤ → Bool) (hits : List (List ℤ)) → ((n : ℤ) → p n ≡ q n) → length (filter (list_any p) hits) ≡ length (filter (list_any q) hits)
counts_alike p q [] alike = refl
counts_alike p q (hit ∷ hits) alike = let here = any_alike p q hit alike in let behind = counts_alike p q hits alike in grind (arith, here, behind)

any_alike_on : (k p q : ℤ → Bool) (numbers : List ℤ) → list_all k numbers ≡ true → ((n : ℤ) → k n ≡ true → p n ≡ q n) → list_any p numbers ≡ list_any q numbers
any_alike_on k p q [] all alike = refl
any_alike_on k p q (n ∷ ns) all alike =
    let here = alike n (grind (arith, all)) in
    let behind = any_alike_on k p q ns (grind (arith, all)) alike in
    grind (arith, here, behind)

counts_alike_on : (k p q : ℤ → Bool) (hits : List (List ℤ)) → list_all (list_all k) hits ≡ true → ((n : ℤ) → k n ≡ true → p n ≡ q n) → length (filter (list_any p) hits) ≡ length (filter (list_any q) hits)
counts_alike_on k p q [] all alike = refl
counts_alike_on k p q (hit ∷ hits) all alike =
    let here = any_alike_on k p q hit (grind (arith, all)) alike in
    let behind = counts_alike_on k p q hits (grind (arith, all)) alike in
    grind (arith, here, behind)

all_weaker : (k p : ℤ → Bool) (numbers : List ℤ) → ((n : ℤ) → k n ≡ true → p n ≡ true) → list_all k numbers ≡ true → list_all p numbers ≡ true
all_weaker k p [] weaker all = refl
all_weaker k p (n ∷ ns) weaker all =
    let here = weaker n (grind (arith, all)) in
    let behind = all_weaker k p ns weaker (grind (arith, all)) in
    grind (arith, here, behind)

pub each_weaker : (k p : ℤ → Bool) (hits : List (List ℤ)) → ((n : ℤ) → k n ≡ true → p n ≡ true) → list_all (list_all k) hits ≡ true → list_all (list_all p) hits ≡ true
each_weaker k p [] weaker all = refl
each_weaker k p (hit ∷ hits) weaker all =
    let here = all_weaker k p hit weaker (grind (arith, all)) in
    let behind = each_weaker k p hits weaker (grind (arith, all)) in
    grind (arith, here, behind)

-- ---- buckets

-- the counts from i on are those of the places of the marks
abbrev pub CountsFrom : (ℕ → ℕ) → ℕ → Option ℤ → List ℤ → List (List ℤ) → Type 0
CountsFrom count i from marks hits = (place : ℕ) → place ≤ length marks → count (i + place) ≡ length (filter (list_any (placed_from from marks place)) hits)

counts_next : (count : ℕ → ℕ) (i : ℕ) (from : Option ℤ) (mark : ℤ) (marks : List ℤ) (hits : List (List ℤ)) → rises_from from (mark ∷ marks) ≡ true → CountsFrom count i from (mark ∷ marks) hits → CountsFrom count (i + 1) (Some mark) marks hits
counts_next count i from mark marks hits up counts place within =
    ap count (omega arith)
    ∙ counts (place + 1) (omega (arith, within))
    ∙ counts_alike (placed_from from (mark ∷ marks) (place + 1)) (placed_from (Some mark) marks place) hits (λ n. placed_next from mark marks place n up)

counts_here : (count : ℕ → ℕ) (i : ℕ) (from : Option ℤ) (marks : List ℤ) (hits : List (List ℤ)) → CountsFrom count i from marks hits → count i ≡ length (filter (list_any (placed_from from marks 0)) hits)
counts_here count i from marks hits counts = ap count (omega arith) ∙ counts 0 (omega arith)

pub buckets_counted : (count : ℕ → ℕ) (i : ℕ) (from : Option ℤ) (marks : List ℤ) (hits : List (List ℤ)) → rises_from from marks ≡ true → CountsFrom count i from marks hits → counted_buckets count i from marks ≡ buckets hits from marks
buckets_counted count i from [] hits up counts =
    ap (λ n. Bucket from None n ∷ []) (counts_here count i from [] hits counts)
buckets_counted count i from (mark ∷ marks) hits up counts =
    let first = counts_here count i from (mark ∷ marks) hits counts ∙ counts_alike (placed_from from (mark ∷ marks) 0) (in_bucket from (Some mark)) hits (placed_first from mark marks) in
    ap (λ n. Bucket from (Some mark) n ∷ counted_buckets count (i + 1) (Some mark) marks) first
    ∙ ap (λ more. bucket hits from (Some mark) ∷ more) (buckets_counted count (i + 1) (Some mark) marks hits (rises_behind from mark marks up) (counts_next count i from mark marks hits up counts))

-- ---- numbers

abbrev met : List (List ℤ) → ℤ → Bool
met hits value = list_any (has value) hits

none_met : (p : List ℤ → Bool) (hits : List (List ℤ)) → (length (filter p hits) == 0) ≡ not (list_any p hits)
none_met p [] = refl
none_met p (hit ∷ hits) = let behind = none_met p hits in grind (arith, behind)

single_met : (hits : List (List ℤ)) (mark : ℤ) (count : ℕ) (more : List Entry) → count ≡ length (filter (has mark) hits) → single_of mark count ++ more ≡ (if met hits mark then single hits mark ∷ more else more)
single_met hits mark count more is =
    ap (λ n. single_of mark n ++ more) is
    ∙ ap (λ b. (if b then [] else single hits mark ∷ []) ++ more) (none_met (has mark) hits)
    ∙ (elim (met hits mark) as (λ b. (if not b then [] else single hits mark ∷ []) ++ more ≡ (if b then single hits mark ∷ more else more)) [ true ↦ refl | false ↦ refl ])

singles_met : (count : ℕ → ℕ) (i : ℕ) (from : Option ℤ) (marks : List ℤ) (hits : List (List ℤ)) → rises_from from marks ≡ true → list_all (list_all (known marks)) hits ≡ true → CountsFrom count i from marks hits → counted_singles count i marks ≡ map (single hits) (filter (met hits) marks)
singles_met count i from [] hits up all counts = refl
singles_met count i from (mark ∷ marks) hits up all counts =
    let rises = rises_behind from mark marks up in
    let next = counts_next count i from mark marks hits up counts in
    let here : count (i + 1) ≡ length (filter (has mark) hits) = counts_here count (i + 1) (Some mark) marks hits next ∙ counts_alike_on (known (mark ∷ marks)) (placed_from (Some mark) marks 0) (int_eq mark) hits all (λ n is. placed_single mark marks n rises is) in
    let more = singles_met count (i + 1) (Some mark) marks hits rises (each_weaker (known (mark ∷ marks)) (known marks) hits (λ n is. known_next mark marks n rises is) all) next in
    single_met hits mark (count (i + 1)) (counted_singles count (i + 1) marks) here
    ∙ ap (λ rest. if met hits mark then single hits mark ∷ rest else rest) more
    ∙ (elim (met hits mark) as (λ b. (if b then single hits mark ∷ map (single hits) (filter (met hits) marks) else map (single hits) (filter (met hits) marks)) ≡ map (single hits) (if b then mark ∷ filter (met hits) marks else filter (met hits) marks)) [ true ↦ refl | false ↦ refl ])

-- ---- the values of the hits

abbrev flat : List (List ℤ) → List ℤ
flat hits = flat_map (λ numbers. numbers) hits

has_flat : (v : ℤ) (hits : List (List ℤ)) → has v (flat hits) ≡ met hits v
has_flat v [] = refl
has_flat v (numbers ∷ hits) = list_any-append (int_eq v) numbers (flat hits) ∙ ap (λ b. has v numbers || b) (has_flat v hits)

pub one_of : List ℤ → ℤ → Bool
one_of numbers n = has n numbers

has_among : (v : ℤ) (marks numbers : List ℤ) → list_all (λ n. has n marks) numbers ≡ true → has v numbers ≡ true → has v marks ≡ true
has_among v marks [] all there = grind (arith, there)
has_among v marks (n ∷ ns) all there =
    let behind = has_among v marks ns (grind (arith, all)) in
    let here : int_eq v n ≡ true → has v marks ≡ true = λ equal. subst (λ z. has z marks ≡ true) (sym (same v n equal)) (grind (arith, all)) in
    grind (arith, there, behind, here)

met_among : (v : ℤ) (marks : List ℤ) (hits : List (List ℤ)) → list_all (list_all (λ n. has n marks)) hits ≡ true → met hits v ≡ true → has v marks ≡ true
met_among v marks [] all there = grind (arith, there)
met_among v marks (hit ∷ hits) all there =
    let one = has_among v marks hit (grind (arith, all)) in
    let other = met_among v marks hits (grind (arith, all)) in
    grind (arith, there, one, other)

known_one : (marks : List ℤ) (n : ℤ) → has n marks ≡ true → known marks n ≡ true
known_one [] n there = refl
known_one (mark ∷ marks) n there = grind (arith, there)

-- the values of the hits are those of the numbers that some hit has
values_met : (numbers : List ℤ) (hits : List (List ℤ)) → list_all (list_all (λ n. has n (values numbers))) hits ≡ true → filter (met hits) (values numbers) ≡ values (flat hits)
values_met numbers hits all =
    sym (values_of_rising (filter (met hits) (values numbers)) (filter_rises (met hits) (values numbers) (values_rise numbers)))
    ∙ values_alike (filter (met hits) (values numbers)) (flat hits) (λ v.
    has_filter (met hits) v (values numbers)
    ∙ (let there = met_among v (values numbers) hits all in let both : (met hits v && has v (values numbers)) ≡ met hits v = grind (arith, there) in both)
    ∙ sym (has_flat v hits))

pub singles_counted : (count : ℕ → ℕ) (numbers : List ℤ) (hits : List (List ℤ)) → list_all (list_all (λ n. has n numbers)) hits ≡ true → CountsFrom count 0 None (values numbers) hits → counted_singles count 0 (values numbers) ≡ entries [] hits
singles_counted count numbers hits all counts =
    let marks = values numbers in
    let within = each_weaker (λ n. has n numbers) (λ n. has n marks) hits (λ n is. has_values n numbers ∙ is) all in
    singles_met count 0 None marks hits (values_rise numbers) (each_weaker (λ n. has n marks) (known marks) hits (known_one marks) within) counts
    ∙ ap (map (single hits)) (values_met numbers hits within)
