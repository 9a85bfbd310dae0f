-- Items beside their rows, so that what is found again by its row is known to be there.
use Rattle.std.proofs.Common.{◌≡◌, ℕ, ◌+◌, ◌<◌, suc, Bool, true, false, cond, List, [], ◌∷◌, map, filter, Some, refl, ap, subst, arith}
use Rattle.std.proofs.lemmas.Bool.Decides.{nat_tests}
use Rattle.std.specs.Prelude.{slice_get, ◌&&◌, nat_lt}
use Rattle.std.specs.List.{list_all}
use Rattle.sq_schema.specs.declared.property.Property.{Property}
use Rattle.sq_model.specs.declared.corpus.Item.{Item}
use Rattle.sq_model.specs.Valid.{is_item, is_value, are_rising}

lt_true : (a b : ℕ) → a < b → nat_lt a b ≡ true
lt_true a b h = grind (arith, nat_tests, h)

lt_is : (a b : ℕ) → nat_lt a b ≡ true → a < b
lt_is a b e = grind (arith, nat_tests, e)

pub both : (a b : Bool) → (a && b) ≡ true → (a ≡ true) × (b ≡ true)
both true b h = (refl, h)
both false b h = absurd (cc)

-- an item of a valid corpus has values of the schema
pub values_fit : (schema : List Property) (item : Item) → is_item schema item ≡ true → list_all (is_value schema) item.values ≡ true
values_fit schema item h = (both _ _ (both _ _ h).0).1

-- an item of the corpus, with its row
pub record Placed (schema : List Property) (items : List Item) : Type 0 where
  pub row : ℕ
  pub item : Item
  pub here : slice_get items row ≡ Some item
  pub fits : list_all (is_value schema) item.values ≡ true

-- these items stand from this row on
abbrev pub StandFrom : List Item → ℕ → List Item → Type 0
StandFrom items row rest = (k : ℕ) → slice_get items (row + k) ≡ slice_get rest k

pub at_row : (items rest : List Item) (row : ℕ) (item : Item) → StandFrom items row (item ∷ rest) → slice_get items row ≡ Some item
at_row items rest row item stand =
    let P : ℕ → Type 0 = λ n. slice_get items n ≡ Some item in
    let e : row + 0 ≡ row = omega arith in
    subst P e (stand 0)

pub behind_row : (items rest : List Item) (row : ℕ) (item : Item) → StandFrom items row (item ∷ rest) → StandFrom items (row + 1) rest
behind_row items rest row item stand k =
    let P : ℕ → Type 0 = λ n. slice_get items n ≡ slice_get rest k in
    let e : row + suc k ≡ row + 1 + k = omega arith in
    subst P e (stand (suc k))

module _ (schema : List Property) (items : List Item) where
  abbrev pub placed : (rest : List Item) (row : ℕ) → StandFrom items row rest → list_all (is_item schema) rest ≡ true → List (Placed schema items)
  placed [] row stand fit = []
  placed (item ∷ rest) row stand fit =
      record {
        row = row;
        item = item;
        here = at_row items rest row item stand;
        fits = values_fit schema item (both (is_item schema item) (list_all (is_item schema) rest) fit).0;
      } ∷ placed rest (row + 1) (behind_row items rest row item stand) (both (is_item schema item) (list_all (is_item schema) rest) fit).1

  -- their rows rise
  rows_behind : (rest : List Item) (row low : ℕ) (stand : StandFrom items row rest) (fit : list_all (is_item schema) rest ≡ true) → low < row
      → are_rising (low ∷ map (λ p. p.row) (placed rest row stand fit)) ≡ true
  rows_behind [] row low stand fit below = refl
  rows_behind (item ∷ rest) row low stand fit below =
      rw (lt_true low row below) (rows_behind rest (row + 1) row (behind_row items rest row item stand)
      (both (is_item schema item) (list_all (is_item schema) rest) fit).1 (omega arith))

  pub rows_rise : (rest : List Item) (row : ℕ) (stand : StandFrom items row rest) (fit : list_all (is_item schema) rest ≡ true)
      → are_rising (map (λ p. p.row) (placed rest row stand fit)) ≡ true
  rows_rise [] row stand fit = refl
  rows_rise (item ∷ rest) row stand fit =
      rows_behind rest (row + 1) row (behind_row items rest row item stand)
      (both (is_item schema item) (list_all (is_item schema) rest) fit).1 (omega arith)

  pub numbers_are : (rest : List Item) (row : ℕ) (stand : StandFrom items row rest) (fit : list_all (is_item schema) rest ≡ true)
      → map (λ p. p.item.number) (placed rest row stand fit) ≡ map (λ item. item.number) rest
  numbers_are [] row stand fit = refl
  numbers_are (item ∷ rest) row stand fit =
      ap (λ ns. item.number ∷ ns) (numbers_are rest (row + 1) (behind_row items rest row item stand)
      (both (is_item schema item) (list_all (is_item schema) rest) fit).1)

-- Of numbers that rise, those that are kept rise.

rising_tail : (n : ℕ) (ns : List ℕ) → are_rising (n ∷ ns) ≡ true → are_rising ns ≡ true
rising_tail n [] rising = refl
rising_tail n (next ∷ ns) rising = (both (nat_lt n next) (are_rising (next ∷ ns)) rising).1

rising_skip : (n next : ℕ) (ns : List ℕ) → are_rising (n ∷ (next ∷ ns)) ≡ true → are_rising (n ∷ ns) ≡ true
rising_skip n next [] rising = refl
rising_skip n next (m ∷ ns) rising =
    let first = both (nat_lt n next) (are_rising (next ∷ (m ∷ ns))) rising in
    let second = both (nat_lt next m) (are_rising (m ∷ ns)) first.1 in
    let one : n < next = lt_is n next first.0 in
    let two : next < m = lt_is next m second.0 in
    rw (lt_true n m (omega arith)) second.1

module _ {X : Type 0} (number : X → ℕ) (test : X → Bool) where
  keep_or_skip : (b : Bool) (low : ℕ) (x : X) (kept : List ℕ) → nat_lt low (number x) ≡ true
      → are_rising (number x ∷ kept) ≡ true → are_rising (low ∷ kept) ≡ true
      → (xs : List X) → kept ≡ map number xs → are_rising (low ∷ map number (cond b (x ∷ xs) xs)) ≡ true
  keep_or_skip true low x kept above rising skipped xs is = rw (above, ← is) rising
  keep_or_skip false low x kept above rising skipped xs is = rw (← is) skipped

  kept_behind : (xs : List X) (low : ℕ) → are_rising (low ∷ map number xs) ≡ true → are_rising (low ∷ map number (filter test xs)) ≡ true
  kept_behind [] low rising = refl
  kept_behind (x ∷ xs) low rising =
      keep_or_skip (test x) low x (map number (filter test xs)) (both (nat_lt low (number x)) (are_rising (number x ∷ map number xs)) rising).0
      (kept_behind xs (number x) (both (nat_lt low (number x)) (are_rising (number x ∷ map number xs)) rising).1)
      (kept_behind xs low (rising_skip low (number x) (map number xs) rising)) (filter test xs) refl

  first_kept : (b : Bool) (x : X) (xs : List X) → are_rising (number x ∷ map number xs) ≡ true → are_rising (map number xs) ≡ true
      → are_rising (map number (cond b (x ∷ xs) xs)) ≡ true
  first_kept true x xs rising rest = rising
  first_kept false x xs rising rest = rest

  pub kept_rise : (xs : List X) → are_rising (map number xs) ≡ true → are_rising (map number (filter test xs)) ≡ true
  kept_rise [] rising = refl
  kept_rise (x ∷ xs) rising =
      first_kept (test x) x (filter test xs) (kept_behind xs (number x) rising) (kept_rise xs (rising_tail (number x) (map number xs) rising))

-- all items, with their rows
pub stand_all : (items : List Item) → StandFrom items 0 items
stand_all items k = let e : 0 + k ≡ k = omega arith in ap (slice_get items) e

abbrev pub all_placed : (schema : List Property) (items : List Item) → list_all (is_item schema) items ≡ true → List (Placed schema items)
all_placed schema items fit = placed schema items items 0 (stand_all items) fit
