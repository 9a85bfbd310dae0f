-- Items at one place of corpora that are alike, as pairs: lists over the one corpus and the other are mapped from one list.
use Rattle.std.proofs.Common.{◌≡◌, ℕ, ◌+◌, Bool, true, false, cond, List, [], ◌∷◌, map, length, refl, sym, ap, ap₂, ◌∙◌}
use Rattle.std.proofs.Math.Path.{fun_ext}
use Rattle.std.proofs.lemmas.List.{length-map}
use Rattle.std.proofs.lemmas.Simd.{map-map}
use Rattle.std.specs.Prelude.{filter, fold, sum_by, not, ◌&&◌}
use Rattle.std.specs.List.{list_any}
use Rattle.sq_model.specs.Access.{Seen, seen, admits}
use Rattle.sq_model.specs.Alike.{ItemsAlike, EachAlike}
use Rattle.sq_model.specs.declared.corpus.Item.{Item}

pub record Twins : Type 0 where
  pub one : Item
  pub two : Item
  pub alike : ItemsAlike one two

-- what is seen of each
abbrev pub first : Twins → Seen
first twins = seen twins.one

abbrev pub second : Twins → Seen
second twins = seen twins.two

-- two lists of items as pairs
pub record Paired (one two : List Item) : Type 0 where
  pub pairs : List Twins
  pub ones : one ≡ map (λ twins. twins.one) pairs
  pub twos : two ≡ map (λ twins. twins.two) pairs

pub paired : (one two : List Item) → EachAlike one two → Paired one two
paired [] [] alike = record { pairs = []; ones = refl; twos = refl }
paired [] (b ∷ more) alike = absurd alike
paired (a ∷ more) [] alike = absurd alike
paired (a ∷ more_a) (b ∷ more_b) alike =
    let rest = paired more_a more_b alike.1 in
    record {
      pairs = record { one = a; two = b; alike = alike.0 } ∷ rest.pairs;
      ones = ap (λ items. a ∷ items) rest.ones;
      twos = ap (λ items. b ∷ items) rest.twos;
    }

-- ---- of lists that are mapped from one list

module _ {X Y : Type 0} (f : X → Y) where
  cond_map : (b : Bool) (x : X) (xs : List X) → cond b (f x ∷ map f xs) (map f xs) ≡ map f (cond b (x ∷ xs) xs)
  cond_map true x xs = refl
  cond_map false x xs = refl

  pub filter_mapped : (test : Y → Bool) (xs : List X) → filter test (map f xs) ≡ map f (filter (λ x. test (f x)) xs)
  filter_mapped test [] = refl
  filter_mapped test (x ∷ xs) = ap (λ ys. cond (test (f x)) (f x ∷ ys) ys) (filter_mapped test xs) ∙ cond_map (test (f x)) x (filter (λ x. test (f x)) xs)

module _ {X Y : Type 0} (f g : X → Y) where
  -- what is the same of both is the same of the lists
  pub map_same : {Z : Type 0} (h : Y → Z) → ((x : X) → h (f x) ≡ h (g x)) → (xs : List X) → map h (map f xs) ≡ map h (map g xs)
  map_same h same [] = refl
  map_same h same (x ∷ xs) = ap₂ (λ z zs. z ∷ zs) (same x) (map_same h same xs)

  fold_same : (n : ℕ) (h : Y → ℕ) → ((x : X) → h (f x) ≡ h (g x)) → (xs : List X) → fold (λ a y. a + h y) n (map f xs) ≡ fold (λ a y. a + h y) n (map g xs)
  fold_same n h same [] = refl
  fold_same n h same (x ∷ xs) = fold_same (n + h (f x)) h same xs ∙ ap (λ m. fold (λ a y. a + h y) (n + m) (map g xs)) (same x)

  pub sum_same : (h : Y → ℕ) → ((x : X) → h (f x) ≡ h (g x)) → (xs : List X) → sum_by h (map f xs) ≡ sum_by h (map g xs)
  sum_same h same xs = fold_same 0 h same xs

  pub length_same : (xs : List X) → length (map f xs) ≡ length (map g xs)
  length_same xs = length-map xs f ∙ sym (length-map xs g)

  -- a test that gives the same of both passes the same places
  pub filter_same : (test : Y → Bool) → ((x : X) → test (f x) ≡ test (g x)) → (xs : List X) →
      (filter test (map f xs) ≡ map f (filter (λ x. test (f x)) xs)) × (filter test (map g xs) ≡ map g (filter (λ x. test (f x)) xs))
  filter_same test same xs = (
    filter_mapped f test xs,
    filter_mapped g test xs ∙ ap (λ p. map g (filter p xs)) (sym (fun_ext same)),
  )

  pub count_same : (test : Y → Bool) → ((x : X) → test (f x) ≡ test (g x)) → (xs : List X) → length (filter test (map f xs)) ≡ length (filter test (map g xs))
  count_same test same xs =
      let both = filter_same test same xs in
      ap length both.0 ∙ length_same (filter (λ x. test (f x)) xs) ∙ sym (ap length both.1)

-- ---- access

pub admits_same : (claims : List (List ℕ)) (twins : Twins) → admits claims twins.one ≡ admits claims twins.two
admits_same claims twins =
    ap₂ (λ p q. list_any p claims && not (list_any q claims)) (fun_ext twins.alike.allowed) (fun_ext twins.alike.denied)

-- what a caller sees of the one list and of the other
abbrev pub admitted : List (List ℕ) → List Twins → List Twins
admitted claims pairs = filter (λ twins. admits claims twins.one) pairs

pub views : (claims : List (List ℕ)) (pairs : List Twins) →
    (map seen (filter (admits claims) (map (λ twins. twins.one) pairs)) ≡ map first (admitted claims pairs))
    × (map seen (filter (admits claims) (map (λ twins. twins.two) pairs)) ≡ map second (admitted claims pairs))
views claims pairs =
    let both = filter_same (λ twins. twins.one) (λ twins. twins.two) (admits claims) (admits_same claims) pairs in (
      ap (map seen) both.0 ∙ map-map seen (λ twins. twins.one) (admitted claims pairs),
      ap (map seen) both.1 ∙ map-map seen (λ twins. twins.two) (admitted claims pairs),
    )
