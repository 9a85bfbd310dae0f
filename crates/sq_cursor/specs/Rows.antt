-- Rising lists of rows.
use Rattle.std.specs.Prelude.{◌≡◌, ℕ, ◌<◌, ◌≤◌, ◌||◌, Bool, true, false, not, eqb, nat_le, cond, List, [], ◌∷◌, Option, Some, None, filter, drop, ⊤, refl}
use Rattle.std.specs.Coded.{×_prop, Unit-prop, le_prop}
use Rattle.std.proofs.Common.{arith, zero, suc}
use Rattle.std.proofs.lemmas.Bool.Decides.{nat_tests}

-- each row is above low
abbrev pub AllAbove : ℕ → List ℕ → Type 0
AllAbove low [] = ⊤
AllAbove low (x ∷ xs) = (low < x) × AllAbove low xs

-- each row is below all later ones
abbrev pub IsRising : List ℕ → Type 0
IsRising [] = ⊤
IsRising (x ∷ xs) = AllAbove x xs × IsRising xs

pub AllAbove-prop : (low : ℕ) (xs : List ℕ) → IsProp (AllAbove low xs)
AllAbove-prop low [] = Unit-prop
AllAbove-prop low (x ∷ xs) = ×_prop le_prop (AllAbove-prop low xs)

pub IsRising-prop : (xs : List ℕ) → IsProp (IsRising xs)
IsRising-prop [] = Unit-prop
IsRising-prop (x ∷ xs) = ×_prop (AllAbove-prop x xs) (IsRising-prop xs)

abbrev pub first_row : List ℕ → Option ℕ
first_row [] = None
first_row (x ∷ xs) = Some x

abbrev pub without_first : List ℕ → List ℕ
without_first [] = []
without_first (x ∷ xs) = xs

abbrev pub HasRow : List ℕ → Type 0
HasRow [] = ⊥
HasRow (x ∷ xs) = ⊤

-- the rows that are not below row
abbrev pub rows_from : ℕ → List ℕ → List ℕ
rows_from row xs = filter (nat_le row) xs

abbrev pub is_row_of : List ℕ → ℕ → Bool
is_row_of [] row = false
is_row_of (x ∷ xs) row = eqb row x || is_row_of xs row

-- the rows of both lists
abbrev pub common_rows : List ℕ → List ℕ → List ℕ
common_rows xs ys = filter (is_row_of ys) xs

-- the rows of xs that are not rows of ys
abbrev pub other_rows : List ℕ → List ℕ → List ℕ
other_rows xs ys = filter (λ row. not (is_row_of ys row)) xs

-- both lists begin with one row, or one of them is empty
abbrev pub is_aligned : List ℕ → List ℕ → Bool
is_aligned [] ys = true
is_aligned (x ∷ xs) [] = true
is_aligned (x ∷ xs) (y ∷ ys) = eqb x y

-- the first row of xs is no row of ys
abbrev pub is_settled : List ℕ → List ℕ → Bool
is_settled [] ys = true
is_settled (x ∷ xs) ys = not (is_row_of ys x)

-- xs with row at its place, once
abbrev pub with_row : ℕ → List ℕ → List ℕ
with_row row [] = row ∷ []
with_row row (x ∷ xs) = cond (nat_le row x) (cond (eqb row x) (x ∷ xs) (row ∷ x ∷ xs)) (x ∷ with_row row xs)

abbrev pub with_rows : List ℕ → List ℕ → List ℕ
with_rows [] ys = ys
with_rows (x ∷ xs) ys = with_row x (with_rows xs ys)

-- the rows of all lists, rising
abbrev pub union_of : List (List ℕ) → List ℕ
union_of [] = []
union_of (xs ∷ lists) = with_rows xs (union_of lists)

pub AllAbove-filter : (low : ℕ) (p : ℕ → Bool) (xs : List ℕ) → AllAbove low xs → AllAbove low (filter p xs)
AllAbove-filter low p [] h = tt
AllAbove-filter low p (x ∷ xs) h =
    elim (p x) as (λ b. AllAbove low (cond b (x ∷ filter p xs) (filter p xs))) [ true ↦ (h.0, AllAbove-filter low p xs h.1) | false ↦ AllAbove-filter low p xs h.1 ]

pub IsRising-filter : (p : ℕ → Bool) (xs : List ℕ) → IsRising xs → IsRising (filter p xs)
IsRising-filter p [] h = tt
IsRising-filter p (x ∷ xs) h =
    elim (p x) as (λ b. IsRising (cond b (x ∷ filter p xs) (filter p xs))) [ true ↦ (AllAbove-filter x p xs h.0, IsRising-filter p xs h.1) | false ↦ IsRising-filter p xs h.1 ]

pub IsRising-drop : (n : ℕ) (xs : List ℕ) → IsRising xs → IsRising (drop n xs)
IsRising-drop zero xs h = h
IsRising-drop (suc n) [] h = tt
IsRising-drop (suc n) (x ∷ xs) h = IsRising-drop n xs h.1

AllAbove-with_row : (low row : ℕ) (xs : List ℕ) → low < row → AllAbove low xs → AllAbove low (with_row row xs)
AllAbove-with_row low row [] l h = (l, tt)
AllAbove-with_row low row (x ∷ xs) l h =
    elim (nat_le row x) as (λ b. AllAbove low (cond b (cond (eqb row x) (x ∷ xs) (row ∷ x ∷ xs)) (x ∷ with_row row xs))) [
      | true ↦ elim (eqb row x) as (λ b. AllAbove low (cond b (x ∷ xs) (row ∷ x ∷ xs))) [ true ↦ h | false ↦ (l, h) ]
      | false ↦ (h.0, AllAbove-with_row low row xs l h.1)
    ]

AllAbove-lower : (low x : ℕ) (xs : List ℕ) → low ≤ x → AllAbove x xs → AllAbove low xs
AllAbove-lower low x [] l h = tt
AllAbove-lower low x (y ∷ xs) l h = let above = h.0 in (omega arith, AllAbove-lower low x xs l h.1)

pub IsRising-with_row : (row : ℕ) (xs : List ℕ) → IsRising xs → IsRising (with_row row xs)
IsRising-with_row row [] h = (tt, tt)
IsRising-with_row row (x ∷ xs) h = at (nat_le row x) refl (eqb row x) refl (IsRising-with_row row xs h.1)
  where
    at : (b : Bool) → nat_le row x ≡ b → (c : Bool) → eqb row x ≡ c → IsRising (with_row row xs) → IsRising (cond b (cond c (x ∷ xs) (row ∷ x ∷ xs)) (x ∷ with_row row xs))
    at true e true f more = h
    at true e false f more = let below : row < x = grind (arith, nat_tests) in ((below, AllAbove-lower row x xs (omega arith) h.0), h)
    at false e c f more = let above : x < row = grind (arith, nat_tests) in (AllAbove-with_row x row xs above h.0, more)

pub IsRising-with_rows : (xs ys : List ℕ) → IsRising ys → IsRising (with_rows xs ys)
IsRising-with_rows [] ys h = h
IsRising-with_rows (x ∷ xs) ys h = IsRising-with_row x (with_rows xs ys) (IsRising-with_rows xs ys h)

-- a union rises, whatever its parts
pub IsRising-union_of : (lists : List (List ℕ)) → IsRising (union_of lists)
IsRising-union_of [] = tt
IsRising-union_of (xs ∷ lists) = IsRising-with_rows xs (union_of lists) (IsRising-union_of lists)
