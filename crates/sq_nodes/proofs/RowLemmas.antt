-- Lists of entries by row, where each entry has a row.
use Rattle.std.proofs.Common.{◌≡◌, ℕ, ◌+◌, ◌<◌, ◌≤◌, Bool, true, false, cond, List, [], ◌∷◌, length, Option, Some, None, refl, sym, ap, ◌∙◌, arith}
use Rattle.std.specs.Prelude.{eqb, filter, IfSome, ⊤}
use Rattle.std.proofs.lemmas.Bool.{eqb-true}
use Rattle.std.proofs.lemmas.Bool.Decides.{nat_tests}
use Rattle.sq_nodes.specs.Leaves.{IsBefore}

-- the entries of one row
abbrev pub in_row : {X : Type 0} → (X → ℕ) → ℕ → List X → List X
in_row row r xs = filter (λ x. eqb (row x) r) xs

-- rows don't fall, and none is below low
abbrev pub Sorted : {X : Type 0} → (X → ℕ) → ℕ → List X → Type 0
Sorted row low [] = ⊤
Sorted row low (x ∷ xs) = (low ≤ row x) × Sorted row (row x) xs

-- the row of the first entry
abbrev pub row_first : {X : Type 0} → (X → ℕ) → List X → Option ℕ
row_first row [] = None
row_first row (x ∷ xs) = Some (row x)

abbrev pub first_entry : {X : Type 0} → List X → Option X
first_entry [] = None
first_entry (x ∷ xs) = Some x

abbrev pub without_entry : {X : Type 0} → List X → List X
without_entry [] = []
without_entry (x ∷ xs) = xs

-- the test is whether the row is not below low
abbrev pub Passes : {X : Type 0} → (X → ℕ) → ℕ → (X → Bool) → Type 0
Passes {X} row low p = (x : X) → (low ≤ row x → p x ≡ true) × (p x ≡ true → low ≤ row x)

pub length_filter : {X : Type 0} (p : X → Bool) (xs : List X) → length (filter p xs) ≤ length xs
length_filter p [] = omega arith
length_filter p (x ∷ xs) = at (p x) (length_filter p xs)
  where
    at : (b : Bool) → length (filter p xs) ≤ length xs → length (cond b (x ∷ filter p xs) (filter p xs)) ≤ length (x ∷ xs)
    at true l = omega arith
    at false l = omega arith

pub sorted_lower : {X : Type 0} (row : X → ℕ) (low more : ℕ) (xs : List X) → low ≤ more → Sorted row more xs → Sorted row low xs
sorted_lower row low more [] l s = tt
sorted_lower row low more (x ∷ xs) l s = let least = s.0 in (omega arith, s.1)

pub sorted_filter : {X : Type 0} (row : X → ℕ) (p : X → Bool) (low : ℕ) (xs : List X) → Sorted row low xs → Sorted row low (filter p xs)
sorted_filter row p low [] s = tt
sorted_filter row p low (x ∷ xs) s = at (p x) (sorted_filter row p (row x) xs s.1)
  where
    at : (b : Bool) → Sorted row (row x) (filter p xs) → Sorted row low (cond b (x ∷ filter p xs) (filter p xs))
    at true more = (s.0, more)
    at false more = sorted_lower row low (row x) (filter p xs) s.0 more

abbrev AllFrom : {X : Type 0} → (X → ℕ) → ℕ → List X → Type 0
AllFrom row low [] = ⊤
AllFrom row low (x ∷ xs) = (low ≤ row x) × AllFrom row low xs

all_from : {X : Type 0} (row : X → ℕ) (low : ℕ) (p : X → Bool) (xs : List X) → Passes row low p → AllFrom row low (filter p xs)
all_from row low p [] passes = tt
all_from row low p (x ∷ xs) passes = at (p x) refl (all_from row low p xs passes)
  where
    at : (b : Bool) → p x ≡ b → AllFrom row low (filter p xs) → AllFrom row low (cond b (x ∷ filter p xs) (filter p xs))
    at true e more = ((passes x).1 e, more)
    at false e more = more

raised : {X : Type 0} (row : X → ℕ) (low : ℕ) (xs : List X) → AllFrom row low xs → Sorted row 0 xs → Sorted row low xs
raised row low [] a s = tt
raised row low (x ∷ xs) a s = (a.0, s.1)

-- none is below where the rest begins
pub sorted_from : {X : Type 0} (row : X → ℕ) (low : ℕ) (p : X → Bool) (xs : List X) → Passes row low p → Sorted row 0 xs → Sorted row low (filter p xs)
sorted_from row low p xs passes s = raised row low (filter p xs) (all_from row low p xs passes) (sorted_filter row p 0 xs s)

pub sorted_above : {X : Type 0} (row : X → ℕ) (low : ℕ) (p : X → Bool) (xs : List X) → Passes row low p → Sorted row 0 (filter p xs) → Sorted row low (filter p xs)
sorted_above row low p xs passes s = raised row low (filter p xs) (all_from row low p xs passes) s

pub kept_row : {X : Type 0} (row : X → ℕ) (low : ℕ) (p : X → Bool) → Passes row low p → (xs : List X) (r : ℕ) → low ≤ r → in_row row r (filter p xs) ≡ in_row row r xs
kept_row row low p passes [] r l = refl
kept_row {X} row low p passes (x ∷ xs) r l = at (p x) refl (eqb (row x) r) refl (kept_row row low p passes xs r l)
  where
    at : (b : Bool) → p x ≡ b → (c : Bool) → eqb (row x) r ≡ c → in_row row r (filter p xs) ≡ in_row row r xs →
        in_row row r (cond b (x ∷ filter p xs) (filter p xs)) ≡ cond c (x ∷ in_row row r xs) (in_row row r xs)
    at true e c f same = rw f (ap (λ ys. cond c (x ∷ ys) ys) same)
    at false e false f same = same
    at false e true f same =
        let is : row x ≡ r = eqb-true (row x) r f in
        let above : low ≤ row x = omega arith in
        absurd (true_not_false (sym ((passes x).0 above) ∙ e))
      where
        true_not_false : true ≡ false → ⊥
        true_not_false e = cc

pub none_below : {X : Type 0} (row : X → ℕ) (low : ℕ) (xs : List X) (r : ℕ) → Sorted row low xs → r < low → in_row row r xs ≡ []
none_below row low [] r s l = refl
none_below row low (x ∷ xs) r s l =
    let least = s.0 in
    let below : r < row x = omega arith in
    let other : eqb (row x) r ≡ false = grind (arith, nat_tests) in
    rw other (none_below row (row x) xs r s.1 below)

-- nothing stands before the first entry, nor anything where there is none
pub none_before : {X : Type 0} (row : X → ℕ) (low : ℕ) (xs : List X) (r : ℕ) → Sorted row low xs → IsBefore r (row_first row xs) → in_row row r xs ≡ []
none_before row low [] r s l = refl
none_before row low (x ∷ xs) r s l =
    let other : eqb (row x) r ≡ false = grind (arith, nat_tests) in
    rw other (none_below row (row x) xs r s.1 l)

pub first_from : {X : Type 0} (row : X → ℕ) (low : ℕ) (xs : List X) → Sorted row low xs → IfSome (row_first row xs) (λ to. low ≤ to)
first_from row low [] s = tt
first_from row low (x ∷ xs) s = s.0

-- the first entry of all is the first of its row, where it is in the row
abbrev pub entry_in : {X : Type 0} → (X → ℕ) → ℕ → List X → Option X
entry_in row r [] = None
entry_in row r (x ∷ xs) = cond (eqb (row x) r) (Some x) None

pub entry_first : {X : Type 0} (row : X → ℕ) (r : ℕ) (xs : List X) → Sorted row r xs → entry_in row r xs ≡ first_entry (in_row row r xs)
entry_first row r [] s = refl
entry_first {X} row r (x ∷ xs) s = at (eqb (row x) r) refl
  where
    at : (b : Bool) → eqb (row x) r ≡ b → cond b (Some x) None ≡ first_entry (cond b (x ∷ in_row row r xs) (in_row row r xs))
    at true e = refl
    at false e =
        let least = s.0 in
        let below : r < row x = grind (arith, nat_tests) in
        sym (ap first_entry (none_below row (row x) xs r s.1 below))

-- without the first entry, which is in the row
pub row_without : {X : Type 0} (row : X → ℕ) (r : ℕ) (xs : List X) (x : X) → entry_in row r xs ≡ Some x → in_row row r (without_entry xs) ≡ without_entry (in_row row r xs)
row_without row r [] x e = refl
row_without {X} row r (y ∷ xs) x e = at (eqb (row y) r) e
  where
    at : (b : Bool) → cond b (Some y) None ≡ Some x → in_row row r xs ≡ without_entry (cond b (y ∷ in_row row r xs) (in_row row r xs))
    at true e = refl
    at false e = cc

pub others_without : {X : Type 0} (row : X → ℕ) (r : ℕ) (xs : List X) (x : X) (other : ℕ) → entry_in row r xs ≡ Some x → r < other → in_row row other (without_entry xs) ≡ in_row row other xs
others_without row r [] x other e l = refl
others_without {X} row r (y ∷ xs) x other e l = at (eqb (row y) r) refl e
  where
    at : (b : Bool) → eqb (row y) r ≡ b → cond b (Some y) None ≡ Some x → in_row row other xs ≡ cond (eqb (row y) other) (y ∷ in_row row other xs) (in_row row other xs)
    at true f e =
        let is : row y ≡ r = eqb-true (row y) r f in
        let no : eqb (row y) other ≡ false = grind (arith, nat_tests) in
        rw no refl
    at false f e = cc

pub fewer_without : {X : Type 0} (row : X → ℕ) (r : ℕ) (xs : List X) (x : X) → entry_in row r xs ≡ Some x → length (without_entry xs) + 1 ≤ length xs
fewer_without row r [] x e = cc
fewer_without row r (y ∷ xs) x e = omega arith

pub no_entry : {X : Type 0} (xs : List X) → first_entry xs ≡ None → xs ≡ []
no_entry [] e = refl
no_entry (x ∷ xs) e = cc
