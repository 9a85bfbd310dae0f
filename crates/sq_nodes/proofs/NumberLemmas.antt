-- The numbers of a row, when a cursor moves to the row and takes them.
use Rattle.std.proofs.Common.{◌≡◌, ℕ, ◌<◌, ◌≤◌, Bool, true, false, ◌&&◌, ◌||◌, List, [], ◌∷◌, map, Option, Some, None, refl, sym, ap, ◌∙◌, subst, arith}
use Rattle.std.specs.Prelude.{ℤ, eqb, ◌==◌, nat_lt, nat_le, int_le, slice_get}
use Rattle.std.proofs.lemmas.Bool.Decides.{nat_tests}
use Rattle.sq_postings.specs.Rising.{rises, pair_up_to}
use Rattle.sq_postings.specs.Left.{without_first_pair, pairs_from}
use Rattle.sq_nodes.specs.Leaves.{numbers_in}
use Rattle.sq_nodes.proofs.RowLemmas as rows
use Rattle.sq_nodes.proofs.RowLemmas.{Sorted, Passes, row_first, first_entry, without_entry, entry_in, in_row}

passes : (row : ℕ) → Passes (λ (p : ℕ × ℤ). p.0) row (λ p. nat_le row p.0)
passes row p = (to, of)
  where
    to : row ≤ p.0 → nat_le row p.0 ≡ true
    to l = grind (arith, nat_tests)

    of : nat_le row p.0 ≡ true → row ≤ p.0
    of e = grind (arith, nat_tests)

and_left : (a b : Bool) → a && b ≡ true → a ≡ true
and_left true b e = refl
and_left false b e = e

and_right : (a b : Bool) → a && b ≡ true → b ≡ true
and_right true b e = e
and_right false b e = cc

row_after : (a b : ℕ × ℤ) → pair_up_to a b ≡ true → a.0 ≤ b.0
row_after a b e = at (int_le a.1 b.1) e
  where
    at : (t : Bool) → nat_lt a.0 b.0 || ((a.0 == b.0) && t) ≡ true → a.0 ≤ b.0
    at true e = grind (arith, nat_tests)
    at false e = grind (arith, nat_tests)

sorted : (low : ℕ) (pairs : List (ℕ × ℤ)) → rises pair_up_to pairs ≡ true → ((p : ℕ × ℤ) (more : List (ℕ × ℤ)) → pairs ≡ p ∷ more → low ≤ p.0) → Sorted (λ (p : ℕ × ℤ). p.0) low pairs
sorted low [] e first = tt
sorted low (p ∷ []) e first = (first p [] refl, tt)
sorted low (p ∷ q ∷ pairs) e first = (first p (q ∷ pairs) refl, sorted p.0 (q ∷ pairs) (and_right (pair_up_to p q) _ e) next)
  where
    next : (s : ℕ × ℤ) (more : List (ℕ × ℤ)) → q ∷ pairs ≡ s ∷ more → p.0 ≤ s.0
    next s more is =
        let same : q ≡ s = cc in
        subst (λ (z : ℕ × ℤ). p.0 ≤ z.0) same (row_after p q (and_left (pair_up_to p q) _ e))

sorted_pairs : (pairs : List (ℕ × ℤ)) → rises pair_up_to pairs ≡ true → Sorted (λ (p : ℕ × ℤ). p.0) 0 pairs
sorted_pairs pairs e = sorted 0 pairs e (λ p more is. omega arith)

-- ---- a move to a row

pub numbers_kept : (row : ℕ) (old new : List (ℕ × ℤ)) (r : ℕ) → new ≡ pairs_from row old → row ≤ r → numbers_in r new ≡ numbers_in r old
numbers_kept row old new r e l =
    ap (numbers_in r) e ∙ ap (map (λ (p : ℕ × ℤ). p.1)) (rows.kept_row (λ (p : ℕ × ℤ). p.0) row (λ p. nat_le row p.0) (passes row) old r l)

sorted_new : (row : ℕ) (old new : List (ℕ × ℤ)) → rises pair_up_to new ≡ true → new ≡ pairs_from row old → Sorted (λ (p : ℕ × ℤ). p.0) row new
sorted_new row old new o e =
    subst (Sorted (λ (p : ℕ × ℤ). p.0) row) (sym e)
    (rows.sorted_above (λ (p : ℕ × ℤ). p.0) row (λ p. nat_le row p.0) old (passes row) (sorted_pairs (pairs_from row old) (sym (ap (rises pair_up_to) e) ∙ o)))

pub none_left : (row : ℕ) (old new : List (ℕ × ℤ)) → new ≡ pairs_from row old → slice_get new 0 ≡ None → (r : ℕ) → row ≤ r → numbers_in r old ≡ []
none_left row old new e f r l = sym (numbers_kept row old new r e l) ∙ at new f
  where
    at : (pairs : List (ℕ × ℤ)) → slice_get pairs 0 ≡ None → numbers_in r pairs ≡ []
    at [] f = refl
    at (p ∷ pairs) f = cc

first_of_some : (pairs : List (ℕ × ℤ)) (to : ℕ) (n : ℤ) → slice_get pairs 0 ≡ Some (to, n) → (more : List (ℕ × ℤ)) × (pairs ≡ (to, n) ∷ more)
first_of_some [] to n f = absurd (none_some f)
  where
    none_some : ◌≡◌ {A = Option (ℕ × ℤ)} None (Some (to, n)) → ⊥
    none_some h = cc
first_of_some (p ∷ pairs) to n f = let same : p ≡ (to, n) = cc in (pairs, ap (λ (q : ℕ × ℤ). q ∷ pairs) same)

pub none_before : (row : ℕ) (old new : List (ℕ × ℤ)) (to : ℕ) (n : ℤ) → rises pair_up_to new ≡ true → new ≡ pairs_from row old → slice_get new 0 ≡ Some (to, n) →
    (r : ℕ) → row ≤ r → r < to → numbers_in r old ≡ []
none_before row old new to n o e f r l b =
    let first = first_of_some new to n f in
    let sorted_first = subst (Sorted (λ (p : ℕ × ℤ). p.0) row) first.1 (sorted_new row old new o e) in
    sym (numbers_kept row old new r e l) ∙ ap (numbers_in r) first.1
    ∙ ap (map (λ (p : ℕ × ℤ). p.1)) (rows.none_before (λ (p : ℕ × ℤ). p.0) row ((to, n) ∷ first.0) r sorted_first b)

pub forward : (row : ℕ) (old new : List (ℕ × ℤ)) (to : ℕ) (n : ℤ) → rises pair_up_to new ≡ true → new ≡ pairs_from row old → slice_get new 0 ≡ Some (to, n) → row ≤ to
forward row old new to n o e f =
    let first = first_of_some new to n f in
    let sorted_first = subst (Sorted (λ (p : ℕ × ℤ). p.0) row) first.1 (sorted_new row old new o e) in
    sorted_first.0

-- ---- the first number of a row, and what is left without it

eqb_same : (n : ℕ) → eqb n n ≡ true
eqb_same n = grind (arith, nat_tests)

of_row : (row : ℕ) (n : ℤ) (more : List (ℕ × ℤ)) → numbers_in row ((row, n) ∷ more) ≡ n ∷ numbers_in row more
of_row row n more = rw (eqb_same row) refl

of_other : (row r : ℕ) (n : ℤ) (more : List (ℕ × ℤ)) → row < r → numbers_in r ((row, n) ∷ more) ≡ numbers_in r more
of_other row r n more l = let other : eqb row r ≡ false = grind (arith, nat_tests) in rw other refl

pub one_taken : (row : ℕ) (old new : List (ℕ × ℤ)) (to : ℕ) (n : ℤ) → new ≡ pairs_from row old → slice_get new 0 ≡ Some (to, n) → to ≡ row →
    numbers_in row old ≡ n ∷ numbers_in row (without_first_pair new)
one_taken row old new to n e f same =
    let first = first_of_some new row n (f ∙ ap (λ r. Some (r, n)) same) in
    sym (numbers_kept row old new row e (omega arith)) ∙ ap (numbers_in row) first.1 ∙ of_row row n first.0
    ∙ ap (λ pairs. n ∷ numbers_in row (without_first_pair pairs)) (sym first.1)

pub others_left : (row : ℕ) (old new : List (ℕ × ℤ)) (to : ℕ) (n : ℤ) → new ≡ pairs_from row old → slice_get new 0 ≡ Some (to, n) → to ≡ row →
    (r : ℕ) → row < r → numbers_in r (without_first_pair new) ≡ numbers_in r old
others_left row old new to n e f same r l =
    let first = first_of_some new row n (f ∙ ap (λ r. Some (r, n)) same) in
    ap (λ pairs. numbers_in r (without_first_pair pairs)) first.1 ∙ sym (of_other row r n first.0 l) ∙ sym (ap (numbers_in r) first.1)
    ∙ numbers_kept row old new r e (omega arith)
