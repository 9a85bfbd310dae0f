-- How cursors move in rising lists of rows.
use Rattle.std.proofs.Common.{◌≡◌, ℕ, ◌+◌, ◌<◌, ◌≤◌, ◌||◌, ◌&&◌, Bool, true, false, not, eqb, nat_le, nat_lt, cond, List, [], ◌∷◌, Option, Some, None, filter, drop, length, refl, sym, ap, ◌∙◌, subst, arith, zero, suc, true≢false}
use native.Mathlib.Numerals.{unary_clauses}
use Rattle.std.proofs.lemmas.Bool.Decides.{nat_tests}
use Rattle.std.proofs.lemmas.Bool.{eqb-true, eq-eqb}
use Rattle.std.specs.Option.{option_and, option_eq}
use Rattle.sq_cursor.specs.Entries.{entries_behind}
use Rattle.sq_cursor.specs.Rows.{AllAbove, IsRising, first_row, without_first, HasRow, rows_from, is_row_of, common_rows, other_rows, is_aligned, is_settled, with_row, with_rows}

or_true : (b : Bool) → b || true ≡ true
or_true true = refl
or_true false = refl

and_false : (b : Bool) → b && false ≡ false
and_false true = refl
and_false false = refl

or_same : (a b : Bool) → a || (a || b) ≡ a || b
or_same true b = refl
or_same false b = refl

or_swap : (a b c : Bool) → a || (b || c) ≡ b || (a || c)
or_swap true true c = refl
or_swap true false c = refl
or_swap false b c = refl

or_assoc : (a b c : Bool) → a || (b || c) ≡ (a || b) || c
or_assoc true b c = refl
or_assoc false b c = refl

pub first_is_row : (x : ℕ) (xs : List ℕ) → is_row_of (x ∷ xs) x ≡ true
first_is_row x xs = rw (eq-eqb x x refl) refl

pub filter-filter : (p q : ℕ → Bool) (xs : List ℕ) → filter p (filter q xs) ≡ filter (λ x. q x && p x) xs
filter-filter p q [] = refl
filter-filter p q (x ∷ xs) = at (q x) (p x) refl (filter-filter p q xs)
  where
    at : (b c : Bool) → p x ≡ c → filter p (filter q xs) ≡ filter (λ x. q x && p x) xs →
        filter p (cond b (x ∷ filter q xs) (filter q xs)) ≡ cond (b && c) (x ∷ filter (λ x. q x && p x) xs) (filter (λ x. q x && p x) xs)
    at true true e more = rw e (ap (λ l. x ∷ l) more)
    at true false e more = rw e more
    at false c e more = more

-- tests that agree on the rows of a list keep the same rows
pub filter-same : (p q : ℕ → Bool) (xs : List ℕ) → ((x : ℕ) → is_row_of xs x ≡ true → p x ≡ q x) → filter p xs ≡ filter q xs
filter-same p q [] same = refl
filter-same p q (x ∷ xs) same =
    let here : p x ≡ q x = same x (rw (eq-eqb x x refl) refl) in
    let more : filter p xs ≡ filter q xs = filter-same p q xs (λ r e. same r (rw e (or_true (eqb r x)))) in
    rw (here, more) refl

pub is_row_of-filter : (p : ℕ → Bool) (xs : List ℕ) (r : ℕ) → is_row_of (filter p xs) r ≡ p r && is_row_of xs r
is_row_of-filter p [] r = sym (and_false (p r))
is_row_of-filter p (x ∷ xs) r = at (eqb r x) refl (p x) refl (is_row_of-filter p xs r)
  where
    at : (b : Bool) → eqb r x ≡ b → (c : Bool) → p x ≡ c → is_row_of (filter p xs) r ≡ p r && is_row_of xs r →
        is_row_of (cond c (x ∷ filter p xs) (filter p xs)) r ≡ p r && (b || is_row_of xs r)
    at true e true f more = let same = eqb-true r x e in let here : p r ≡ true = ap p same ∙ f in rw (e, here) refl
    at true e false f more = let same = eqb-true r x e in let here : p r ≡ false = ap p same ∙ f in rw more (rw here refl)
    at false e true f more = rw e more
    at false e false f more = more

pub not_row_below : (low : ℕ) (xs : List ℕ) (r : ℕ) → AllAbove low xs → r ≤ low → is_row_of xs r ≡ false
not_row_below low [] r h l = refl
not_row_below low (x ∷ xs) r h l = let above = h.0 in let others = not_row_below low xs r h.1 l in grind (arith, nat_tests)

pub is_row_of-with_row : (row : ℕ) (xs : List ℕ) (r : ℕ) → is_row_of (with_row row xs) r ≡ eqb r row || is_row_of xs r
is_row_of-with_row row [] r = refl
is_row_of-with_row row (x ∷ xs) r = at (nat_le row x) (eqb row x) refl (is_row_of-with_row row xs r)
  where
    at : (b c : Bool) → eqb row x ≡ c → is_row_of (with_row row xs) r ≡ eqb r row || is_row_of xs r →
        is_row_of (cond b (cond c (x ∷ xs) (row ∷ x ∷ xs)) (x ∷ with_row row xs)) r ≡ eqb r row || (eqb r x || is_row_of xs r)
    at true true e more = rw (eqb-true row x e) (sym (or_same (eqb r x) (is_row_of xs r)))
    at true false e more = refl
    at false c e more = rw more (or_swap (eqb r x) (eqb r row) (is_row_of xs r))

pub is_row_of-with_rows : (xs ys : List ℕ) (r : ℕ) → is_row_of (with_rows xs ys) r ≡ is_row_of xs r || is_row_of ys r
is_row_of-with_rows [] ys r = refl
is_row_of-with_rows (x ∷ xs) ys r =
    is_row_of-with_row x (with_rows xs ys) r ∙ ap (λ b. eqb r x || b) (is_row_of-with_rows xs ys r) ∙ or_assoc (eqb r x) (is_row_of xs r) (is_row_of ys r)

not_first : (x y : ℕ) (xs ys : List ℕ) → x < y → AllAbove y ys → is_row_of (x ∷ xs) x ≡ is_row_of (y ∷ ys) x → ⊥
not_first x y xs ys l h same =
    let later = not_row_below y ys x h (omega arith) in
    let other : eqb x y ≡ false = grind (arith, nat_tests) in
    true≢false (sym (first_is_row x xs) ∙ same ∙ rw (other, later) refl)

same_first : (x y : ℕ) (xs ys : List ℕ) → AllAbove x xs → AllAbove y ys → ((r : ℕ) → is_row_of (x ∷ xs) r ≡ is_row_of (y ∷ ys) r) → x ≡ y
same_first x y xs ys g h same = at (nat_lt x y) refl (nat_lt y x) refl
  where
    at : (b : Bool) → nat_lt x y ≡ b → (c : Bool) → nat_lt y x ≡ c → x ≡ y
    at true e c f = let l : x < y = grind (arith, nat_tests) in absurd (not_first x y xs ys l h (same x))
    at false e true f = let l : y < x = grind (arith, nat_tests) in absurd (not_first y x ys xs l g (sym (same y)))
    at false e false f = grind (arith, nat_tests)

same_later : (x y : ℕ) (xs ys : List ℕ) (r : ℕ) → x ≡ y → AllAbove x xs → AllAbove y ys → is_row_of (x ∷ xs) r ≡ is_row_of (y ∷ ys) r → is_row_of xs r ≡ is_row_of ys r
same_later x y xs ys r e g h same = at (eqb r x) refl
  where
    at : (b : Bool) → eqb r x ≡ b → is_row_of xs r ≡ is_row_of ys r
    at true f = let l : r ≡ x = eqb-true r x f in not_row_below x xs r g (omega arith) ∙ sym (not_row_below y ys r h (omega arith))
    at false f = let k : eqb r y ≡ false = rw (← e) f in sym (ap (λ b. b || is_row_of xs r) f) ∙ same ∙ ap (λ b. b || is_row_of ys r) k

-- rising lists with the same rows are one list
pub rising_same : (xs ys : List ℕ) → IsRising xs → IsRising ys → ((r : ℕ) → is_row_of xs r ≡ is_row_of ys r) → xs ≡ ys
rising_same [] [] g h same = refl
rising_same [] (y ∷ ys) g h same = absurd (true≢false (sym (same y ∙ first_is_row y ys)))
rising_same (x ∷ xs) [] g h same = absurd (true≢false (sym (first_is_row x xs) ∙ same x))
rising_same (x ∷ xs) (y ∷ ys) g h same =
    let first : x ≡ y = same_first x y xs ys g.0 h.0 same in
    let more : (r : ℕ) → is_row_of xs r ≡ is_row_of ys r = λ r. same_later x y xs ys r first g.0 h.0 (same r) in
    rw (first, rising_same xs ys g.1 h.1 more) refl

-- Lists and their parts

pub without_first-drop : (n : ℕ) (xs : List ℕ) → without_first (drop n xs) ≡ drop (n + 1) xs
without_first-drop zero [] = refl
without_first-drop zero (x ∷ xs) = refl
without_first-drop (suc n) [] = simp unary_clauses refl
without_first-drop (suc n) (x ∷ xs) = simp unary_clauses (simp unary_clauses at (without_first-drop n xs))

pub entries_behind-rows : (xs : List ℕ) → entries_behind xs ≡ length (without_first xs)
entries_behind-rows [] = refl
entries_behind-rows (x ∷ xs) = refl

pub length-without_first : (xs : List ℕ) (x : ℕ) → first_row xs ≡ Some x → length xs ≡ length (without_first xs) + 1
length-without_first [] x e = cc
length-without_first (y ∷ xs) x e = omega arith

pub has_row_from_first : (xs : List ℕ) (x : ℕ) → first_row xs ≡ Some x → HasRow xs
has_row_from_first [] x e = cc
has_row_from_first (y ∷ xs) x e = tt

-- Seeking one list

rows_from-all : (row low : ℕ) (xs : List ℕ) → row ≤ low → AllAbove low xs → rows_from row xs ≡ xs
rows_from-all row low [] l h = refl
rows_from-all row low (x ∷ xs) l h =
    let above = h.0 in let test : nat_le row x ≡ true = grind (arith, nat_tests) in rw (test, rows_from-all row low xs l h.1) refl

-- a list that begins at row or above is left alone
pub rows_from-here : (row x : ℕ) (xs : List ℕ) → first_row xs ≡ Some x → row ≤ x → IsRising xs → rows_from row xs ≡ xs
rows_from-here row x [] e l h = refl
rows_from-here row x (y ∷ xs) e l h =
    let same : y ≡ x = cc in let test : nat_le row y ≡ true = grind (arith, nat_tests) in
    rw (test, rows_from-all row y xs (omega arith) h.0) refl

pub rows_from-skip : (row x : ℕ) (xs : List ℕ) → first_row xs ≡ Some x → x < row → rows_from row (without_first xs) ≡ rows_from row xs
rows_from-skip row x [] e l = refl
rows_from-skip row x (y ∷ xs) e l =
    let same : y ≡ x = cc in let test : nat_le row y ≡ false = grind (arith, nat_tests) in rw test refl

pub rows_from-twice : (row : ℕ) (xs : List ℕ) → rows_from row (rows_from row xs) ≡ rows_from row xs
rows_from-twice row xs = filter-filter (nat_le row) (nat_le row) xs ∙ filter-same _ _ xs (λ r _. at (nat_le row r))
  where
    at : (b : Bool) → b && b ≡ b
    at true = refl
    at false = refl

length-rows_from : (row : ℕ) (xs : List ℕ) → length (rows_from row xs) ≤ length xs
length-rows_from row [] = omega arith
length-rows_from row (x ∷ xs) = at (nat_le row x) (length-rows_from row xs)
  where
    at : (b : Bool) → length (rows_from row xs) ≤ length xs → length (cond b (x ∷ rows_from row xs) (rows_from row xs)) ≤ suc (length xs)
    at true l = omega arith
    at false l = omega arith

-- a seek past the first row shortens the list
pub rows_from-shorter : (row x : ℕ) (xs : List ℕ) → first_row xs ≡ Some x → x < row → length (rows_from row xs) < length xs
rows_from-shorter row x [] e l = cc
rows_from-shorter row x (y ∷ xs) e l =
    let same : y ≡ x = cc in let test : nat_le row y ≡ false = grind (arith, nat_tests) in
    let most = length-rows_from row xs in rw test (omega arith)

pub is_row_of-from : (row : ℕ) (xs : List ℕ) (r : ℕ) → row ≤ r → is_row_of (rows_from row xs) r ≡ is_row_of xs r
is_row_of-from row xs r l =
    let test : nat_le row r ≡ true = grind (arith, nat_tests) in is_row_of-filter (nat_le row) xs r ∙ rw test refl

pub row_not_below : (low : ℕ) (xs : List ℕ) (r : ℕ) → AllAbove low xs → is_row_of xs r ≡ true → low < r
row_not_below low xs r h e = at (nat_le r low) refl
  where
    at : (b : Bool) → nat_le r low ≡ b → low < r
    at true f = let l : r ≤ low = grind (arith, nat_tests) in absurd (true≢false (sym e ∙ not_row_below low xs r h l))
    at false f = grind (arith, nat_tests)

-- no row of a rising list is below its first
pub first_below : (x : ℕ) (xs : List ℕ) (r : ℕ) → first_row xs ≡ Some x → IsRising xs → is_row_of xs r ≡ true → x ≤ r
first_below x [] r e h f = cc
first_below x (y ∷ xs) r e h f = let same : y ≡ x = cc in at same (eqb r y) refl
  where
    at : y ≡ x → (b : Bool) → eqb r y ≡ b → x ≤ r
    at same true g = let k : r ≡ y = eqb-true r y g in omega arith
    at same false g = let l : y < r = row_not_below y xs r h.0 (sym (ap (λ b. b || is_row_of xs r) g) ∙ f) in omega arith

-- The common rows of two lists

-- a seek of the first list to the first row of the second keeps the common rows
pub common_rows-seek_first : (y : ℕ) (xs ys : List ℕ) → first_row ys ≡ Some y → IsRising ys → common_rows (rows_from y xs) ys ≡ common_rows xs ys
common_rows-seek_first y xs ys e h =
    filter-filter (is_row_of ys) (nat_le y) xs ∙ filter-same _ _ xs (λ r _. at r (is_row_of ys r) refl)
  where
    at : (r : ℕ) (b : Bool) → is_row_of ys r ≡ b → nat_le y r && is_row_of ys r ≡ is_row_of ys r
    at r true f = let l = first_below y ys r e h f in let test : nat_le y r ≡ true = grind (arith, nat_tests) in rw test refl
    at r false f = rw f (and_false (nat_le y r))

pub common_rows-seek_second : (x : ℕ) (xs ys : List ℕ) → first_row xs ≡ Some x → IsRising xs → common_rows xs (rows_from x ys) ≡ common_rows xs ys
common_rows-seek_second x xs ys e h =
    filter-same (is_row_of (rows_from x ys)) (is_row_of ys) xs (λ r f. is_row_of-from x ys r (first_below x xs r e h f))

pub common_rows-seek : (row : ℕ) (xs ys : List ℕ) → common_rows (rows_from row xs) (rows_from row ys) ≡ rows_from row (common_rows xs ys)
common_rows-seek row xs ys =
    filter-filter (is_row_of (rows_from row ys)) (nat_le row) xs
    ∙ filter-same _ _ xs (λ r _. ap (λ b. nat_le row r && b) (is_row_of-filter (nat_le row) ys r) ∙ at (nat_le row r) (is_row_of ys r))
    ∙ sym (filter-filter (nat_le row) (is_row_of ys) xs)
  where
    at : (a b : Bool) → a && (a && b) ≡ b && a
    at true true = refl
    at true false = refl
    at false true = refl
    at false false = refl

common_rows-none : (xs : List ℕ) → common_rows xs [] ≡ []
common_rows-none [] = refl
common_rows-none (x ∷ xs) = common_rows-none xs

-- of aligned lists the first common row is the first of both
pub first_row-common : (xs ys : List ℕ) → is_aligned xs ys ≡ true → first_row (common_rows xs ys) ≡ option_and (first_row ys) (first_row xs)
first_row-common [] [] h = refl
first_row-common [] (y ∷ ys) h = refl
first_row-common (x ∷ xs) [] h = ap first_row (common_rows-none xs)
first_row-common (x ∷ xs) (z ∷ ys) h = rw h refl

pub without_first-common : (xs ys : List ℕ) → is_aligned xs ys ≡ true → HasRow (common_rows xs ys) → common_rows (without_first xs) ys ≡ without_first (common_rows xs ys)
without_first-common [] ys h k = refl
without_first-common (x ∷ xs) [] h k = absurd (subst HasRow (common_rows-none (x ∷ xs)) k)
without_first-common (x ∷ xs) (y ∷ ys) h k = rw h refl

-- The rows of one list that another does not have

pub other_rows-seek_second : (x : ℕ) (xs ys : List ℕ) → first_row xs ≡ Some x → IsRising xs → other_rows xs (rows_from x ys) ≡ other_rows xs ys
other_rows-seek_second x xs ys e h =
    filter-same _ _ xs (λ r f. ap not (is_row_of-from x ys r (first_below x xs r e h f)))

-- whether row is the first of xs
abbrev pub is_first : List ℕ → ℕ → Bool
is_first xs row = option_eq eqb (first_row xs) (Some row)

pub other_rows-step : (x : ℕ) (xs ys : List ℕ) → first_row xs ≡ Some x → not (is_first ys x) ≡ false → other_rows (without_first xs) ys ≡ other_rows xs ys
other_rows-step x [] ys e f = refl
other_rows-step x (z ∷ xs) [] e f = cc
other_rows-step x (z ∷ xs) (y ∷ ys) e f =
    let same : z ≡ x = cc in let also : y ≡ x = grind (arith, nat_tests) in let test = eq-eqb z y (same ∙ sym also) in rw test refl

pub other_rows-seek : (row : ℕ) (xs ys : List ℕ) → other_rows (rows_from row xs) ys ≡ rows_from row (other_rows xs ys)
other_rows-seek row xs ys =
    filter-filter (λ r. not (is_row_of ys r)) (nat_le row) xs
    ∙ filter-same _ _ xs (λ r _. and_swap (nat_le row r) (not (is_row_of ys r)))
    ∙ sym (filter-filter (nat_le row) (λ r. not (is_row_of ys r)) xs)
  where
    and_swap : (a b : Bool) → a && b ≡ b && a
    and_swap true true = refl
    and_swap true false = refl
    and_swap false true = refl
    and_swap false false = refl

pub without_first-other : (xs ys : List ℕ) → is_settled xs ys ≡ true → other_rows (without_first xs) ys ≡ without_first (other_rows xs ys)
without_first-other [] ys h = refl
without_first-other (x ∷ xs) ys h = rw h refl

-- a list that seeks to row and does not begin there lacks it
pub not_row-from : (row : ℕ) (ys : List ℕ) → IsRising ys → not (is_first (rows_from row ys) row) ≡ true → is_row_of (rows_from row ys) row ≡ false
not_row-from row [] h other = refl
not_row-from row (y ∷ ys) h other = at (nat_le row y) refl (not_row-from row ys h.1) other
  where
    at : (b : Bool) → nat_le row y ≡ b → (not (is_first (rows_from row ys) row) ≡ true → is_row_of (rows_from row ys) row ≡ false) →
        not (is_first (cond b (y ∷ rows_from row ys) (rows_from row ys)) row) ≡ true →
        is_row_of (cond b (y ∷ rows_from row ys) (rows_from row ys)) row ≡ false
    at true e more f =
        let apart : eqb row y ≡ false = grind (arith, nat_tests) in let above : row < y = grind (arith, nat_tests) in
        rw (apart, is_row_of-from row ys row (omega arith)) (not_row_below y ys row h.0 (omega arith))
    at false e more f = more f

pub settled_here : (x : ℕ) (xs ys : List ℕ) → first_row xs ≡ Some x → IsRising ys → not (is_first (rows_from x ys) x) ≡ true → is_settled xs (rows_from x ys) ≡ true
settled_here x [] ys e h other = refl
settled_here x (z ∷ xs) ys e h other = let same : z ≡ x = cc in rw (same, not_row-from x ys h other) refl

-- Unions

-- the lower of two rows, where there are two
abbrev pub lower_row : Option ℕ → Option ℕ → Option ℕ
lower_row None b = b
lower_row (Some x) None = Some x
lower_row (Some x) (Some y) = Some (cond (nat_le x y) x y)

pub first_row-with_row : (row : ℕ) (xs : List ℕ) → first_row (with_row row xs) ≡ lower_row (Some row) (first_row xs)
first_row-with_row row [] = refl
first_row-with_row row (x ∷ xs) = at (nat_le row x) (eqb row x) refl
  where
    at : (b c : Bool) → eqb row x ≡ c → first_row (cond b (cond c (x ∷ xs) (row ∷ x ∷ xs)) (x ∷ with_row row xs)) ≡ Some (cond b row x)
    at true true e = ap Some (sym (eqb-true row x e))
    at true false e = refl
    at false c e = refl

lower-assoc : (x y z : ℕ) → cond (nat_le (cond (nat_le x y) x y) z) (cond (nat_le x y) x y) z ≡ cond (nat_le x (cond (nat_le y z) y z)) x (cond (nat_le y z) y z)
lower-assoc x y z = grind (arith, nat_tests)

pub lower_row-assoc : (a b c : Option ℕ) → lower_row (lower_row a b) c ≡ lower_row a (lower_row b c)
lower_row-assoc None b c = refl
lower_row-assoc (Some x) None c = refl
lower_row-assoc (Some x) (Some y) None = refl
lower_row-assoc (Some x) (Some y) (Some z) = ap Some (lower-assoc x y z)

pub first_row-with_rows : (xs ys : List ℕ) → IsRising xs → first_row (with_rows xs ys) ≡ lower_row (first_row xs) (first_row ys)
first_row-with_rows [] ys h = refl
first_row-with_rows (x ∷ xs) ys h =
    first_row-with_row x (with_rows xs ys) ∙ ap (lower_row (Some x)) (first_row-with_rows xs ys h.1)
    ∙ sym (lower_row-assoc (Some x) (first_row xs) (first_row ys)) ∙ ap (λ o. lower_row o (first_row ys)) (lower_later x xs h.0)
  where
    lower_later : (x : ℕ) (xs : List ℕ) → AllAbove x xs → lower_row (Some x) (first_row xs) ≡ Some x
    lower_later x [] h = refl
    lower_later x (y ∷ xs) h = let above = h.0 in let test : nat_le x y ≡ true = grind (arith, nat_tests) in rw test refl
