-- What the streams of different weights of an expression read together.
use Rattle.std.proofs.Common.{◌≡◌, ◌≤◌, ℕ, ◌+◌, ◌*◌, Bool, true, false, List, [], ◌∷◌, map, length, refl, ap, ◌∙◌, arith, length-append}
use Rattle.std.specs.Prelude.{nat_eq, if◌then◌else◌, sum, sum_by}
use Rattle.std.specs.List.{list_any, flat_map}
use Rattle.std.proofs.lemmas.List.{length-map}
use Rattle.std.proofs.lemmas.Nat.{mul-le}
use Rattle.std.proofs.lemmas.List.Sums.{sum_by-cons}
use Rattle.sq_model.specs.Copies.{distinct, greatest, product, weights, weights_each, copies, copies_each}
use Rattle.sq_model.specs.Cost.{phrase_count, leaf_count, spans_count}
use Rattle.sq_model.specs.Lists.{joined}
use Rattle.sq_model.specs.Sums.{sums_of_leaves}
use Rattle.sq_model.specs.Triples.{choices}
use Rattle.sq_model.specs.declared.corpus.Corpus.{Corpus}
use Rattle.sq_model.specs.declared.fql.Look.{Look}
use Rattle.sq_model.specs.declared.fql.SpanTree.{SpanTree, Leaf, Union', Near', Row_of-SpanTree, end_of-SpanTree, more_of-SpanTree}
use Rattle.sq_streams.specs.TreePrices.{price, price_all, price_each, are_distinct, PriceOfWeights}
use Rattle.sq_streams.proofs.SumLemmas.{or_left_false, or_right_false, sum_zero, sum_both, sum_same, sum_bound, once, each_once}

-- ---- how many choices there are

choices_first : {X : Type 0} (xs : List X) (rests : List (List X)) → length (flat_map (λ x. map (λ chosen. x ∷ chosen) rests) xs) ≡ length xs * length rests
choices_first [] rests = omega arith
choices_first (x ∷ xs) rests =
    let both = length-append (map (λ chosen. x ∷ chosen) rests) (flat_map (λ x. map (λ chosen. x ∷ chosen) rests) xs) in
    let first = length-map rests (λ chosen. x ∷ chosen) in
    let more = choices_first xs rests in
    let whole : length (x ∷ xs) * length rests ≡ length rests + length xs * length rests = grind arith in
    omega (arith, both, first, more, whole)

length_choices : {X : Type 0} (lists : List (List X)) → length (choices lists) ≡ product (map length lists)
length_choices [] = refl
length_choices (xs ∷ lists) = choices_first xs (choices lists) ∙ ap (λ n. length xs * n) (length_choices lists)

-- ---- of each part at most `most` times what it costs

within_parts : (first copies cost most rest : ℕ) → first ≤ copies * cost → copies ≤ most → first + most * rest ≤ most * (cost + rest)
within_parts first copies cost most rest h k =
    let more : copies * cost ≤ most * cost = mul-le copies cost most cost k (omega arith) in
    let whole : most * (cost + rest) ≡ most * cost + most * rest = grind arith in
    omega (arith, h, more, whole)

module _ (corpus : Corpus) (look : Look) where
  abbrev costs : {m : _} → Row_of-SpanTree m → List ℕ
  costs parts = sums_of_leaves (leaf_count corpus look) parts

  mutual
    bound : (tree : SpanTree) (vs : List ℕ) → are_distinct vs ≡ true → sum_by (price corpus look tree) vs ≤ copies tree * spans_count corpus look tree
    bound (Leaf leaf) vs d =
        let h = once (length leaf.pattern.texts) (phrase_count corpus look leaf.pattern) vs d in
        omega (arith, h)
    bound (Union' shape parts) vs d = bound_all parts vs d (greatest (copies_each parts)) (omega arith)
    bound (Near' shape parts n ordered) vs d =
        let most = greatest (copies_each parts) * sum (costs parts) in
        let numbers = each_once sum (λ ws. sum (price_each corpus look parts ws)) (choices (weights_each parts)) vs d in
        let all = sum_bound (λ ws. sum (price_each corpus look parts ws)) most (choices (weights_each parts)) (λ ws. bound_each parts ws (greatest (copies_each parts)) (omega arith)) in
        let count = length_choices (weights_each parts) in
        let whole : product (map length (weights_each parts)) * greatest (copies_each parts) * sum (costs parts) ≡ product (map length (weights_each parts)) * most = grind arith in
        let same = ap (λ n. n * most) count in
        omega (arith, numbers, all, same, whole)

    -- a union reads each part at each of the weights
    bound_all : {m : _} (parts : Row_of-SpanTree m) (vs : List ℕ) → are_distinct vs ≡ true → (most : ℕ) → greatest (copies_each parts) ≤ most →
        sum_by (λ v. sum (price_all corpus look parts v)) vs ≤ most * sum (costs parts)
    bound_all end_of-SpanTree vs d most h = let none = sum_zero (λ v. sum (price_all corpus look end_of-SpanTree v)) vs (λ v. refl) in omega (arith, none)
    bound_all (more_of-SpanTree part rest) vs d most h =
        let split = sum_same (λ v. sum (price_all corpus look (more_of-SpanTree part rest) v)) (λ v. price corpus look part v + sum (price_all corpus look rest v)) vs
        (λ v. sum_by-cons (λ n. n) (price corpus look part v) (price_all corpus look rest v)) in
        let both = sum_both (price corpus look part) (λ v. sum (price_all corpus look rest v)) vs in
        let first = bound part vs d in
        let more = bound_all rest vs d most (omega (arith, h)) in
        let step = within_parts (sum_by (price corpus look part) vs) (copies part) (spans_count corpus look part) most (sum (costs rest)) first (omega (arith, h)) in
        let cost = ap (λ n. most * n) (sum_by-cons (λ n. n) (spans_count corpus look part) (costs rest)) in
        omega (arith, split, both, more, step, cost)

    -- a near reads each part at one weight for a choice
    bound_each : {m : _} (parts : Row_of-SpanTree m) (ws : List ℕ) (most : ℕ) → greatest (copies_each parts) ≤ most → sum (price_each corpus look parts ws) ≤ most * sum (costs parts)
    bound_each end_of-SpanTree ws most h = omega arith
    bound_each (more_of-SpanTree part rest) [] most h = omega arith
    bound_each (more_of-SpanTree part rest) (w ∷ ws) most h =
        let split = sum_by-cons (λ n. n) (price corpus look part w) (price_each corpus look rest ws) in
        let one = sum_by-cons (price corpus look part) w [] in
        let first : price corpus look part w ≤ copies part * spans_count corpus look part = (let b = bound part (w ∷ []) refl in omega (arith, one, b)) in
        let more = bound_each rest ws most (omega (arith, h)) in
        let step = within_parts (price corpus look part w) (copies part) (spans_count corpus look part) most (sum (costs rest)) first (omega (arith, h)) in
        let cost = ap (λ n. most * n) (sum_by-cons (λ n. n) (spans_count corpus look part) (costs rest)) in
        omega (arith, split, more, step, cost)

pub price_of_weights : PriceOfWeights
price_of_weights corpus look tree vs d = bound corpus look tree vs d

-- ---- the weights of an expression differ

none_left : (n : ℕ) (ms : List ℕ) → list_any (nat_eq n) ms ≡ false → list_any (nat_eq n) (distinct ms) ≡ false
none_left n [] e = refl
none_left n (m ∷ ms) e = at (list_any (nat_eq m) ms) (none_left n ms (or_right_false (nat_eq n m) (list_any (nat_eq n) ms) e))
  where
    at : (b : Bool) → list_any (nat_eq n) (distinct ms) ≡ false → list_any (nat_eq n) (if b then distinct ms else m ∷ distinct ms) ≡ false
    at true more = more
    at false more = let first = or_left_false (nat_eq n m) (list_any (nat_eq n) ms) e in rw (first, more) refl

distinct_are : (ns : List ℕ) → are_distinct (distinct ns) ≡ true
distinct_are [] = refl
distinct_are (n ∷ ns) = at (list_any (nat_eq n) ns) refl (distinct_are ns)
  where
    at : (b : Bool) → list_any (nat_eq n) ns ≡ b → are_distinct (distinct ns) ≡ true → are_distinct (if b then distinct ns else n ∷ distinct ns) ≡ true
    at true e more = more
    at false e more = let none = none_left n ns e in rw (none, more) refl

pub weights_are_distinct : (tree : SpanTree) → are_distinct (weights tree) ≡ true
weights_are_distinct (Leaf leaf) = refl
weights_are_distinct (Union' shape parts) = distinct_are (joined (weights_each parts))
weights_are_distinct (Near' shape parts n ordered) = distinct_are (map sum (choices (weights_each parts)))
