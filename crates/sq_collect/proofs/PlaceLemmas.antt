-- Marks that rise, and the places of numbers between them.
use Rattle.std.proofs.Common.{◌≡◌, ℕ, ◌+◌, ◌==◌, ◌≤◌, ℤ, Bool, true, false, ◌&&◌, ◌||◌, if◌then◌else◌, List, [], ◌∷◌, length, filter, Option, Some, None, refl, ◌∙◌, ap, arith}
use Rattle.std.proofs.lemmas.Int.{ints}
use Rattle.std.specs.Ordering.{int_eq}
use Rattle.std.specs.Prelude.{int_lt, int_le}
use Rattle.sq_base.specs.Sorting.{put, in_order}
use Rattle.sq_packet.specs.Refiners.{are_rising}
use Rattle.sq_ranking.specs.Ranking.{has, distinct, values, not_below, in_bucket}
use Rattle.sq_ranking.proofs.ValuesLemmas.{has_values}
use Rattle.sq_collect.specs.Counted.{place_of}

-- ---- lists that rise

pub same : (a b : ℤ) → int_eq a b ≡ true → a ≡ b
same a b equal = grind (arith, ints, equal)

pub rising_tail : (x : ℤ) (xs : List ℤ) → are_rising (x ∷ xs) ≡ true → are_rising xs ≡ true
rising_tail x [] up = refl
rising_tail x (y ∷ ys) up = grind (arith, up)

-- the first is below those behind it
pub first_below : (x : ℤ) (xs : List ℤ) (v : ℤ) → are_rising (x ∷ xs) ≡ true → has v xs ≡ true → int_lt x v ≡ true
first_below x [] v up there = grind (arith, there)
first_below x (y ∷ ys) v up there =
    let behind = first_below y ys v (rising_tail x (y ∷ ys) up) in
    grind (arith, ints, up, there, behind)

first_apart : (x : ℤ) (xs : List ℤ) → are_rising (x ∷ xs) ≡ true → has x xs ≡ false
first_apart x xs up = let below = first_below x xs x up in grind (arith, ints, below)

put_first : (x : ℤ) (xs : List ℤ) → are_rising (x ∷ xs) ≡ true → put int_lt x xs ≡ x ∷ xs
put_first x [] up = refl
put_first x (y ∷ ys) up = grind (arith, ints, up)

-- a list that rises is that of its values
pub values_of_rising : (xs : List ℤ) → are_rising xs ≡ true → values xs ≡ xs
values_of_rising [] up = refl
values_of_rising (x ∷ xs) up =
    ap (λ b. in_order int_lt (if b then distinct xs else x ∷ distinct xs)) (first_apart x xs up)
    ∙ ap (put int_lt x) (values_of_rising xs (rising_tail x xs up))
    ∙ put_first x xs up

-- what is put among numbers that rise, and below it nothing
put_below : (low x : ℤ) (ys : List ℤ) → are_rising (low ∷ ys) ≡ true → int_lt low x ≡ true → has x ys ≡ false → are_rising (low ∷ put int_lt x ys) ≡ true
put_below low x [] up less apart = grind (arith, less)
put_below low x (y ∷ ys) up less apart =
    let further = put_below y x ys (rising_tail low (y ∷ ys) up) in
    grind (arith, ints, up, less, apart, further)

put_rises : (x : ℤ) (ys : List ℤ) → are_rising ys ≡ true → has x ys ≡ false → are_rising (put int_lt x ys) ≡ true
put_rises x [] up apart = refl
put_rises x (y ∷ ys) up apart =
    let further = put_below y x ys up in
    grind (arith, ints, up, apart, further)

pub values_rise : (xs : List ℤ) → are_rising (values xs) ≡ true
values_rise [] = refl
values_rise (x ∷ xs) =
    elim (has x xs) as (λ b. has x xs ≡ b → are_rising (in_order int_lt (if b then distinct xs else x ∷ distinct xs)) ≡ true) [
      | true ↦ λ old. values_rise xs
      | false ↦ λ new. put_rises x (values xs) (values_rise xs) (has_values x xs ∙ new)
    ] refl

pub has_filter : (p : ℤ → Bool) (v : ℤ) (xs : List ℤ) → has v (filter p xs) ≡ (p v && has v xs)
has_filter p v [] = grind arith
has_filter p v (x ∷ xs) =
    let equal : int_eq v x ≡ true → p v ≡ p x = λ is. ap p (same v x is) in
    grind (arith, has_filter p v xs, equal)

pub filter_below : (p : ℤ → Bool) (low : ℤ) (xs : List ℤ) → are_rising (low ∷ xs) ≡ true → are_rising (low ∷ filter p xs) ≡ true
filter_below p low [] up = refl
filter_below p low (x ∷ xs) up =
    let skipped : are_rising (low ∷ xs) ≡ true = skip low x xs up in
    let one = filter_below p x xs (rising_tail low (x ∷ xs) up) in
    let other = filter_below p low xs skipped in
    grind (arith, up, one, other)
  where
    skip : (low x : ℤ) (xs : List ℤ) → are_rising (low ∷ x ∷ xs) ≡ true → are_rising (low ∷ xs) ≡ true
    skip low x [] up = refl
    skip low x (y ∷ ys) up = grind (arith, ints, up)

pub filter_rises : (p : ℤ → Bool) (xs : List ℤ) → are_rising xs ≡ true → are_rising (filter p xs) ≡ true
filter_rises p [] up = refl
filter_rises p (x ∷ xs) up =
    let one = filter_below p x xs up in
    let other = filter_rises p xs (rising_tail x xs up) in
    grind (arith, one, other)

-- ---- places

-- at least `from`, and at a place of the marks behind it
abbrev pub placed_from : Option ℤ → List ℤ → ℕ → ℤ → Bool
placed_from from marks place n = not_below from n && (place_of marks n == place)

abbrev pub rises_from : Option ℤ → List ℤ → Bool
rises_from None marks = are_rising marks
rises_from (Some from) marks = are_rising (from ∷ marks)

pub rises_behind : (from : Option ℤ) (mark : ℤ) (marks : List ℤ) → rises_from from (mark ∷ marks) ≡ true → are_rising (mark ∷ marks) ≡ true
rises_behind None mark marks up = up
rises_behind (Some from) mark marks up = rising_tail from (mark ∷ marks) up

pub placed_first : (from : Option ℤ) (mark : ℤ) (marks : List ℤ) (n : ℤ) → placed_from from (mark ∷ marks) 0 n ≡ in_bucket from (Some mark) n
placed_first from mark marks n = grind (arith, ints)

reached : (mark : ℤ) (marks : List ℤ) (place : ℕ) (n : ℤ) → (place_of (mark ∷ marks) n == place + 1) ≡ (int_le mark n && (place_of marks n == place))
reached mark marks place n = grind arith

over : (from mark n : ℤ) (b : Bool) → int_lt from mark ≡ true → (int_le from n && (int_le mark n && b)) ≡ (int_le mark n && b)
over from mark n b less = grind (arith, ints, less)

pub placed_next : (from : Option ℤ) (mark : ℤ) (marks : List ℤ) (place : ℕ) (n : ℤ) → rises_from from (mark ∷ marks) ≡ true → placed_from from (mark ∷ marks) (place + 1) n ≡ placed_from (Some mark) marks place n
placed_next None mark marks place n up = reached mark marks place n
placed_next (Some from) mark marks place n up =
    ap (λ b. int_le from n && b) (reached mark marks place n)
    ∙ over from mark n (place_of marks n == place) (grind (arith, up))

-- a greater number has no lower place
pub place_climbs : (marks : List ℤ) (a b : ℤ) → int_le a b ≡ true → place_of marks a ≤ place_of marks b
place_climbs [] a b up = omega arith
place_climbs (mark ∷ marks) a b up = let further = place_climbs marks a b up in grind (arith, ints, up, further)

pub place_within : (marks : List ℤ) (n : ℤ) → place_of marks n ≤ length marks
place_within [] n = omega arith
place_within (mark ∷ marks) n = let further = place_within marks n in grind (arith, further)

-- one of the marks, or below the first
abbrev pub known : List ℤ → ℤ → Bool
known [] n = true
known (mark ∷ marks) n = int_lt n mark || has n (mark ∷ marks)

pub known_next : (mark : ℤ) (marks : List ℤ) (n : ℤ) → are_rising (mark ∷ marks) ≡ true → known (mark ∷ marks) n ≡ true → known marks n ≡ true
known_next mark [] n up is = refl
known_next mark (next ∷ marks) n up is = grind (arith, ints, up, is)

pub placed_single : (mark : ℤ) (marks : List ℤ) (n : ℤ) → are_rising (mark ∷ marks) ≡ true → known (mark ∷ marks) n ≡ true → placed_from (Some mark) marks 0 n ≡ int_eq mark n
placed_single mark [] n up is = grind (arith, ints, is)
placed_single mark (next ∷ marks) n up is =
    let behind = first_below next marks n (rising_tail mark (next ∷ marks) up) in
    grind (arith, ints, up, is, behind)
