-- What comes first is an order of hits, and hits of which neither comes before the other have one number.
use Rattle.std.proofs.Common.{◌≡◌, ℤ, Bool, true, false, if◌then◌else◌, List, [], ◌∷◌, Option, Some, None, refl, arith}
use Rattle.std.proofs.lemmas.Int.{ints}
use Rattle.std.specs.Cmp.{IsStrictWeakOrder}
use Rattle.sq_packet.specs.declared.request.Direction.{Direction}
use Rattle.sq_packet.specs.declared.request.Direction.TheVariants.{Ascending, Descending}
use Rattle.sq_ranking.specs.declared.keys.RankedHit.{RankedHit}
use Rattle.sq_ranking.specs.Keys.{ranked_hit}
use Rattle.sq_ranking.specs.Ranking.{Ranked, goes_before, by_score, by_keys, comes_before}

-- the first test decides, and where it does not the second
abbrev pub both : {X : Type 0} → (X → X → Bool) → (X → X → Bool) → X → X → Bool
both first second a b = if first a b then true else (if first b a then false else second a b)

both_order : {X : Type 0} (first second : X → X → Bool) → IsStrictWeakOrder first → IsStrictWeakOrder second → IsStrictWeakOrder (both first second)
both_order first second one two = record {
  one_way = λ x y less. grind (arith, less, one.one_way x y, one.one_way y x, two.one_way x y);
  chain = λ x y z left right. grind (arith, left, right, one.chain x y z, one.chain y z x, one.chain z x y, two.chain x y z);
}

goes_one_way : (direction : Direction) (a b : Option ℤ) → goes_before direction a b ≡ true → goes_before direction b a ≡ false
goes_one_way direction None b less = grind (arith, less)
goes_one_way direction (Some a) None less = refl
goes_one_way Ascending (Some a) (Some b) less = grind (arith, ints, less)
goes_one_way Descending (Some a) (Some b) less = grind (arith, ints, less)

goes_chain : (direction : Direction) (a b c : Option ℤ) → goes_before direction a b ≡ false → goes_before direction b c ≡ false → goes_before direction a c ≡ false
goes_chain direction None b c left right = refl
goes_chain direction (Some a) None c left right = grind (arith, left)
goes_chain direction (Some a) (Some b) None left right = grind (arith, right)
goes_chain Ascending (Some a) (Some b) (Some c) left right = grind (arith, ints, left, right)
goes_chain Descending (Some a) (Some b) (Some c) left right = grind (arith, ints, left, right)

by_score-order : {X : Type 0} (ranked : X → Ranked) → IsStrictWeakOrder (λ a b. by_score (ranked a) (ranked b))
by_score-order ranked = record {
  one_way = λ x y less. grind (arith, ints, less);
  chain = λ x y z left right. grind (arith, ints, left, right);
}

by_key-order : {X : Type 0} (direction : Direction) (key : X → Option ℤ) (otherwise : X → X → Bool) → IsStrictWeakOrder otherwise → IsStrictWeakOrder (both (λ a b. goes_before direction (key a) (key b)) otherwise)
by_key-order direction key otherwise order = both_order (λ a b. goes_before direction (key a) (key b)) otherwise
    (record { one_way = λ x y. goes_one_way direction (key x) (key y); chain = λ x y z. goes_chain direction (key x) (key y) (key z) }) order

abbrev pub hit_before : List Direction → RankedHit → RankedHit → Bool
hit_before directions a b = comes_before directions (ranked_hit a) (ranked_hit b)

scores : IsStrictWeakOrder (hit_before [])
scores = by_score-order ranked_hit

pub hit_before-order : (directions : List Direction) → IsStrictWeakOrder (hit_before directions)
hit_before-order [] = scores
hit_before-order (a ∷ []) = by_key-order a (λ hit. hit.keys.first) (hit_before []) scores
hit_before-order (a ∷ (b ∷ [])) = by_key-order a (λ hit. hit.keys.first) _ (by_key-order b (λ hit. hit.keys.second) _ scores)
hit_before-order (a ∷ (b ∷ (c ∷ []))) =
    by_key-order a (λ hit. hit.keys.first) _ (by_key-order b (λ hit. hit.keys.second) _ (by_key-order c (λ hit. hit.keys.third) _ scores))
hit_before-order (a ∷ (b ∷ (c ∷ (d ∷ [])))) =
    by_key-order a (λ hit. hit.keys.first) _ (by_key-order b (λ hit. hit.keys.second) _ (by_key-order c (λ hit. hit.keys.third) _ (by_key-order d (λ hit. hit.keys.fourth) _ scores)))
hit_before-order (a ∷ (b ∷ (c ∷ (d ∷ (e ∷ more))))) =
    by_key-order a (λ hit. hit.keys.first) _ (by_key-order b (λ hit. hit.keys.second) _ (by_key-order c (λ hit. hit.keys.third) _ (by_key-order d (λ hit. hit.keys.fourth) _ scores)))

undecided : (directions : List Direction) (a b : List (Option ℤ)) (one two : Bool) → by_keys directions a b one ≡ false → by_keys directions b a two ≡ false → (one ≡ false) × (two ≡ false)
undecided [] a b one two left right = (left, right)
undecided (d ∷ ds) [] [] one two left right = (left, right)
undecided (d ∷ ds) [] (y ∷ b) one two left right = (left, right)
undecided (d ∷ ds) (x ∷ a) [] one two left right = (left, right)
undecided (d ∷ ds) (x ∷ a) (y ∷ b) one two left right =
    let first : goes_before d x y ≡ false = grind (arith, left) in
    let second : goes_before d y x ≡ false = grind (arith, right) in
    undecided ds a b one two (grind (arith, left, first, second)) (grind (arith, right, first, second))

pub one_number : (directions : List Direction) (x y : Ranked) → comes_before directions x y ≡ false → comes_before directions y x ≡ false → x.number ≡ y.number
one_number directions x y left right =
    let ends = undecided directions x.keys y.keys (by_score x y) (by_score y x) left right in
    let first = ends.0 in
    let second = ends.1 in
    grind (arith, ints, first, second)
