-- Pages of hits that are seen in two ways.
use Rattle.std.proofs.Common.{◌≡◌, ◌-◌, ℕ, ◌<◌, ℤ, Bool, true, false, if◌then◌else◌, List, [], ◌∷◌, map, take, drop, length, Option, inl, inr, refl, sym, ◌∙◌, ap, arith}
use Rattle.std.proofs.lemmas.List.{take-map, drop-map}
use Rattle.std.proofs.lemmas.Int.{ints}
use Rattle.sq_base.specs.Sorting.{put, in_order}
use Rattle.sq_model.specs.Valid.{are_rising}
use Rattle.sq_packet.specs.declared.request.Direction.{Direction}
use Rattle.sq_ranking.specs.Laws.{OrderAlike}
use Rattle.sq_ranking.specs.Ranking.{Ranked, by_score, by_keys, goes_before, comes_before, page_by}
use Rattle.sq_ranking.proofs.MemberLemmas.{Member, of_order, above, rising_tail}

-- ---- seen through a function

module _ {X Y : Type 0} (seen : X → Y) (before : Y → Y → Bool) where
  put_seen : (x : X) (ys : List X) → put before (seen x) (map seen ys) ≡ map seen (put (λ a b. before (seen a) (seen b)) x ys)
  put_seen x [] = refl
  put_seen x (y ∷ ys) =
      elim (before (seen y) (seen x)) as (λ b. (if b then seen y ∷ put before (seen x) (map seen ys) else seen x ∷ seen y ∷ map seen ys) ≡ map seen (if b then y ∷ put (λ a b. before (seen a) (seen b)) x ys else x ∷ y ∷ ys)) [
        | true ↦ ap (λ zs. seen y ∷ zs) (put_seen x ys)
        | false ↦ refl
      ]

  in_order_seen : (xs : List X) → in_order before (map seen xs) ≡ map seen (in_order (λ a b. before (seen a) (seen b)) xs)
  in_order_seen [] = refl
  in_order_seen (x ∷ xs) = ap (put before (seen x)) (in_order_seen xs) ∙ put_seen x (in_order (λ a b. before (seen a) (seen b)) xs)

-- ---- two tests that agree on the elements of the list

module _ {X : Type 0} (first second : X → X → Bool) where
  put_alike : (x : X) (ys : List X) → ((y : X) → Member y ys → first y x ≡ second y x) → put first x ys ≡ put second x ys
  put_alike x [] agree = refl
  put_alike x (y ∷ ys) agree =
      let here = agree y (inl refl) in
      let there = put_alike x ys (λ z at. agree z (inr at)) in
      grind (arith, here, there)

-- for each element the two agree on those behind it
abbrev Agree : {X : Type 0} → (X → X → Bool) → (X → X → Bool) → List X → Type 0
Agree first second [] = Unit
Agree {X} first second (x ∷ xs) = ((y : X) → Member y xs → first y x ≡ second y x) × Agree first second xs

in_order_alike : {X : Type 0} (first second : X → X → Bool) (xs : List X) → Agree first second xs → in_order first xs ≡ in_order second xs
in_order_alike first second [] agree = refl
in_order_alike first second (x ∷ xs) agree =
    ap (put first x) (in_order_alike first second xs agree.1)
    ∙ put_alike first second x (in_order second xs) (λ y at. agree.0 y (of_order second xs y at))

-- only as many keys are looked at as there are directions
by_front : (directions : List Direction) (a b : List (Option ℤ)) (otherwise : Bool) → by_keys directions a b otherwise ≡ by_keys directions (take (length directions) a) (take (length directions) b) otherwise
by_front [] a b otherwise = refl
by_front (d ∷ ds) [] [] otherwise = refl
by_front (d ∷ ds) [] (y ∷ b) otherwise = refl
by_front (d ∷ ds) (x ∷ a) [] otherwise = refl
by_front (d ∷ ds) (x ∷ a) (y ∷ b) otherwise = ap (λ rest. if goes_before d x y then true else (if goes_before d y x then false else rest)) (by_front ds a b otherwise)

-- of two hits of which the second has the lower number by each way, the scores decide alike
scores_alike : (a b c d : Ranked) → a.score ≡ c.score → b.score ≡ d.score → b.number < a.number → d.number < c.number → by_score a b ≡ by_score c d
scores_alike a b c d one two first second = grind (arith, ints, one, two, first, second)

module _ {X : Type 0} (first second : X → Ranked) (directions : List Direction) where
  -- the two ways give a hit one score, and one key for each direction
  abbrev pub IsAlike : X → Type 0
  IsAlike hit = ((first hit).score ≡ (second hit).score) × (take (length directions) (first hit).keys ≡ take (length directions) (second hit).keys)

  pair_alike : (x y : X) → IsAlike x → IsAlike y → (first x).number < (first y).number → (second x).number < (second y).number → comes_before directions (first y) (first x) ≡ comes_before directions (second y) (second x)
  pair_alike x y here there one two =
      by_front directions (first y).keys (first x).keys (by_score (first y) (first x))
      ∙ ap (λ keys. by_keys directions keys (take (length directions) (first x).keys) (by_score (first y) (first x))) there.1
      ∙ ap (λ keys. by_keys directions (take (length directions) (second y).keys) keys (by_score (first y) (first x))) here.1
      ∙ ap (λ otherwise. by_keys directions (take (length directions) (second y).keys) (take (length directions) (second x).keys) otherwise) (scores_alike (first y) (first x) (second y) (second x) there.0 here.0 one two)
      ∙ sym (by_front directions (second y).keys (second x).keys (by_score (second y) (second x)))

  agree_along : (hits : List X) → ((hit : X) → Member hit hits → IsAlike hit) → are_rising (map (λ hit. (first hit).number) hits) ≡ true → are_rising (map (λ hit. (second hit).number) hits) ≡ true → Agree (λ a b. comes_before directions (first a) (first b)) (λ a b. comes_before directions (second a) (second b)) hits
  agree_along [] alike one two = tt
  agree_along (x ∷ xs) alike one two = (
    λ y at. pair_alike x y (alike x (inl refl)) (alike y (inr at)) (above (λ hit. (first hit).number) (first x).number xs one y at) (above (λ hit. (second hit).number) (second x).number xs two y at),
    agree_along xs (λ y at. alike y (inr at)) (rising_tail (λ hit. (first hit).number) (first x).number (map (λ hit. (first hit).number) xs) one) (rising_tail (λ hit. (second hit).number) (second x).number (map (λ hit. (second hit).number) xs) two),
  )

  -- the two ways need to be alike on the hits of the list alone
  pub pages_alike : (start count : ℕ) (hits : List X) → ((hit : X) → Member hit hits → IsAlike hit) → are_rising (map (λ hit. (first hit).number) hits) ≡ true → are_rising (map (λ hit. (second hit).number) hits) ≡ true → page_by first directions start count hits ≡ page_by second directions start count hits
  pages_alike start count hits alike one two =
      ap (λ ordered. take count (drop (start - 1) ordered)) (in_order_alike (λ a b. comes_before directions (first a) (first b)) (λ a b. comes_before directions (second a) (second b)) hits (agree_along hits alike one two))

pub alike_orders : {X : Type 0} (first second : X → Ranked) (directions : List Direction) (start count : ℕ) (hits : List X) → OrderAlike first second directions hits → page_by first directions start count hits ≡ page_by second directions start count hits
alike_orders first second directions start count hits alike =
    pages_alike first second directions start count hits (λ hit _. (alike.scores hit, alike.keys hit)) alike.rising_first alike.rising_second

pub pages_seen : {X Y : Type 0} (seen : X → Y) (ranked : Y → Ranked) (directions : List Direction) (start count : ℕ) (hits : List X) → page_by ranked directions start count (map seen hits) ≡ map seen (page_by (λ hit. ranked (seen hit)) directions start count hits)
pages_seen seen ranked directions start count hits =
    let ordered = in_order (λ a b. comes_before directions (ranked (seen a)) (ranked (seen b))) hits in
    ap (λ xs. take count (drop (start - 1) xs)) (in_order_seen seen (λ a b. comes_before directions (ranked a) (ranked b)) hits)
    ∙ ap (take count) (drop-map seen (start - 1) ordered)
    ∙ take-map seen count (drop (start - 1) ordered)
