-- What is left of pairs that rise.
use Rattle.std.proofs.Common.{◌≡◌, inl, inr, ◌⊎◌, ℕ, zero, suc, ◌+◌, ◌<◌, ◌≤◌, Bool, true, false, cond, List, [], ◌∷◌, length, drop, Some, None, refl, sym, ap, ◌∙◌, subst, arith}
use Rattle.std.specs.Prelude.{ℤ, nat_le, slice_get, int_le}
use Rattle.std.proofs.lemmas.Bool.Decides.{nat_tests}
use Rattle.sq_cursor.specs.Entries.{entries_behind, first_count}
use Rattle.sq_postings.specs.Rising.{rises, pair_up_to}
use Rattle.sq_postings.specs.Left.{HasPair, without_first_pair, pairs_from}
use Rattle.sq_postings.proofs.OrderLemmas.{and_left, and_right, by_number}
use Rattle.sq_postings.proofs.RisingLemmas.{rises_tail}

pub rises-drop : {X : Type 0} (comes_before : X → X → Bool) (n : ℕ) (xs : List X) → rises comes_before xs ≡ true → rises comes_before (drop n xs) ≡ true
rises-drop comes_before zero xs h = h
rises-drop comes_before (suc n) [] h = refl
rises-drop comes_before (suc n) (x ∷ xs) h = rises-drop comes_before n xs (rises_tail comes_before x xs h)

pub first_counted : (n : ℕ) (pairs : List (ℕ × ℤ)) → n < length pairs → first_count (drop n pairs) ≡ 1
first_counted n [] l = absurd (omega (arith, l))
first_counted zero (p ∷ pairs) l = refl
first_counted (suc n) (p ∷ pairs) l = first_counted n pairs (omega (arith, l))

pub drop_next : (n : ℕ) (pairs : List (ℕ × ℤ)) → drop (n + 1) pairs ≡ without_first_pair (drop n pairs)
drop_next zero [] = refl
drop_next (suc n) [] = let m : suc n + 1 ≡ suc (n + 1) = omega arith in rw m refl
drop_next zero (p ∷ pairs) = refl
drop_next (suc n) (p ∷ pairs) = let m : suc n + 1 ≡ suc (n + 1) = omega arith in rw m (drop_next n pairs)

counted_all : (pairs : List (ℕ × ℤ)) → first_count pairs + entries_behind pairs ≡ length pairs
counted_all [] = refl
counted_all (p ∷ pairs) = omega arith

-- what a step counts it takes from the pairs behind
pub step_paid : (old new : List (ℕ × ℤ)) (before after : ℕ) → HasPair old → new ≡ without_first_pair old → after ≡ before + first_count new → after + entries_behind new ≡ before + entries_behind old
step_paid [] new before after some is counted = absurd some
step_paid (p ∷ old) new before after some is counted = omega (arith, counted, counted_all new, ap length is)

pub step_cost : (old new : List (ℕ × ℤ)) (before after : ℕ) → HasPair old → new ≡ without_first_pair old → after ≡ before + first_count new → after + entries_behind new ≤ before + entries_behind old
step_cost old new before after some is counted = omega (arith, step_paid old new before after some is counted)

pub has_pair : (pairs : List (ℕ × ℤ)) (p : ℕ × ℤ) → slice_get pairs 0 ≡ Some p → HasPair pairs
has_pair [] p here = cc
has_pair (q ∷ pairs) p here = tt

pub shorter : (pairs : List (ℕ × ℤ)) → HasPair pairs → length (without_first_pair pairs) < length pairs
shorter [] some = absurd some
shorter (q ∷ pairs) some = omega arith

-- a pair of a lower row is passed
pub pair_passed : (row : ℕ) (pairs : List (ℕ × ℤ)) (p : ℕ × ℤ) → slice_get pairs 0 ≡ Some p → p.0 < row → pairs_from row (without_first_pair pairs) ≡ pairs_from row pairs
pair_passed row [] p here low = refl
pair_passed row (q ∷ pairs) p here low =
    let same : q ≡ p = cc in
    let lower : q.0 < row = subst (λ (x : ℕ × ℤ). x.0 < row) (sym same) low in
    let no : nat_le row q.0 ≡ false = grind (arith, nat_tests) in
    sym (ap (λ b. cond b (q ∷ pairs_from row pairs) (pairs_from row pairs)) no)

not_lower : (p q : ℕ × ℤ) → pair_up_to p q ≡ true → p.0 ≤ q.0
not_lower p q e = at (by_number p.0 q.0 (int_le p.1 q.1) e)
  where
    at : (p.0 < q.0) ⊎ ((p.0 ≡ q.0) × (int_le p.1 q.1 ≡ true)) → p.0 ≤ q.0
    at (inl l) = omega (arith, l)
    at (inr l) = omega (arith, l.0)

all_from : (row : ℕ) (q : ℕ × ℤ) (pairs : List (ℕ × ℤ)) → rises pair_up_to (q ∷ pairs) ≡ true → row ≤ q.0 → q ∷ pairs ≡ pairs_from row (q ∷ pairs)
all_from row q [] h l = let yes : nat_le row q.0 ≡ true = grind (arith, nat_tests) in rw yes refl
all_from row q (r ∷ pairs) h l =
    let yes : nat_le row q.0 ≡ true = grind (arith, nat_tests) in
    let next : row ≤ r.0 = omega (arith, l, not_lower q r (and_left (pair_up_to q r) (rises pair_up_to (r ∷ pairs)) h)) in
    ap (λ xs. q ∷ xs) (all_from row r pairs (and_right (pair_up_to q r) (rises pair_up_to (r ∷ pairs)) h) next)
    ∙ sym (ap (λ b. cond b (q ∷ pairs_from row (r ∷ pairs)) (pairs_from row (r ∷ pairs))) yes)

-- the seek stops at a pair whose row isn't lower
pub pairs_stop : (row : ℕ) (pairs : List (ℕ × ℤ)) (p : ℕ × ℤ) → rises pair_up_to pairs ≡ true → slice_get pairs 0 ≡ Some p → row ≤ p.0 → pairs ≡ pairs_from row pairs
pairs_stop row [] p h here l = refl
pairs_stop row (q ∷ pairs) p h here l = let same : q ≡ p = cc in all_from row q pairs h (subst (λ (x : ℕ × ℤ). row ≤ x.0) (sym same) l)

pub pairs_end : (row : ℕ) (pairs : List (ℕ × ℤ)) → slice_get pairs 0 ≡ None → pairs ≡ pairs_from row pairs
pairs_end row [] here = refl
pairs_end row (q ∷ pairs) here = cc
