-- The first part of a heap stands at the first row of all.
use Rattle.std.proofs.Common.{◌≡◌, ℕ, ◌+◌, ◌*◌, ◌<◌, ◌≤◌, true, false, nat_le, List, [], ◌∷◌, Option, Some, None, map, length, get_or, refl, sym, ap, ◌∙◌, arith, zero, suc}
use Rattle.std.proofs.Math.ListN.{set}
use Rattle.std.proofs.lemmas.Bool.Decides.{nat_tests}
use Rattle.sq_cursor.specs.Rows.{AllAbove, IsRising, first_row, without_first, rows_from, union_of}
use Rattle.sq_cursor.specs.Parts.{is_after, stands_after, IsHeapFrom, IsHeap}
use Rattle.sq_cursor.proofs.RowLemmas.{lower_row, first_row-with_rows}
use Rattle.sq_cursor.proofs.HeapLemmas.{top_first}

not_after_end : (o : Option ℕ) → is_after o None ≡ false
not_after_end None = refl
not_after_end (Some x) = refl

not_after_lower : (o a b : Option ℕ) → is_after o a ≡ false → is_after o b ≡ false → is_after o (lower_row a b) ≡ false
not_after_lower o None b e f = f
not_after_lower o (Some x) None e f = e
not_after_lower None (Some x) (Some y) e f = cc
not_after_lower (Some z) (Some x) (Some y) e f = grind (arith, nat_tests)

-- a row that is after no part's is not after the union's
not_after_union : {X : Type 0} (left : X → List ℕ) → ((x : X) → IsRising (left x)) → (o : Option ℕ) (parts : List X) (d : X) →
    ((k : ℕ) → k < length parts → is_after o (first_row (left (get_or parts k d))) ≡ false) →
    is_after o (first_row (union_of (map left parts))) ≡ false
not_after_union left rises o [] d h = not_after_end o
not_after_union left rises o (x ∷ parts) d h =
    ap (is_after o) (first_row-with_rows (left x) (union_of (map left parts)) (rises x))
    ∙ not_after_lower o (first_row (left x)) (first_row (union_of (map left parts))) (h 0 (omega arith)) (not_after_union left rises o parts d (λ k l. h (suc k) (omega arith)))

lower_is_first : (a b : Option ℕ) → is_after a b ≡ false → lower_row a b ≡ a
lower_is_first None None e = refl
lower_is_first None (Some y) e = cc
lower_is_first (Some x) None e = refl
lower_is_first (Some x) (Some y) e = let test : nat_le x y ≡ true = grind (arith, nat_tests) in rw test refl

pub top_is_first : {X : Type 0} (left : X → List ℕ) → ((x : X) → IsRising (left x)) → (parts : List X) (x : X) → 0 < length parts → x ≡ get_or parts 0 x → IsHeap left parts →
    first_row (union_of (map left parts)) ≡ first_row (left x)
top_is_first left rises [] x some is heap = absurd (omega arith)
top_is_first left rises (z ∷ parts) x some is heap =
    first_row-with_rows (left z) (union_of (map left parts)) (rises z)
    ∙ lower_is_first (first_row (left z)) (first_row (union_of (map left parts)))
    (not_after_union left rises (first_row (left z)) parts z (λ k l. top_first left (z ∷ parts) z heap (suc k) (suc k) (omega arith) (omega arith)))
    ∙ ap (λ z. first_row (left z)) (sym is)

-- where the union has a row there is a part
pub some_part : {X : Type 0} (left : X → List ℕ) (parts : List X) (row : ℕ) → first_row (union_of (map left parts)) ≡ Some row → 0 < length parts
some_part left [] row e = cc
some_part left (x ∷ parts) row e = omega arith

-- the children of the first part are a heap, whatever part takes its place
pub below_first : {X : Type 0} (left : X → List ℕ) (parts : List X) (y : X) → IsHeap left parts → IsHeapFrom left 1 (set parts 0 y)
below_first {X} left [] y heap = λ p k d a b e f. absurd (omega arith)
below_first {X} left (z ∷ parts) y heap = λ p k d a b e f. at p k d a b (heap p k d (omega arith) b e f)
  where
    at : (p k : ℕ) (d : X) → 1 ≤ p → p * 2 + 1 ≤ k → stands_after left (get_or (z ∷ parts) p d) (get_or (z ∷ parts) k d) ≡ false → stands_after left (get_or (y ∷ parts) p d) (get_or (y ∷ parts) k d) ≡ false
    at zero k d a b h = absurd (omega arith)
    at (suc p) zero d a b h = absurd (omega arith)
    at (suc p) (suc k) d a b h = h

-- the rows after the first one are those without it
pub rows_after_first : (xs : List ℕ) (x : ℕ) → first_row xs ≡ Some x → IsRising xs → rows_from (x + 1) xs ≡ without_first xs
rows_after_first [] x e h = refl
rows_after_first (y ∷ xs) x e h =
    let same : y ≡ x = cc in
    let test : nat_le (x + 1) y ≡ false = grind (arith, nat_tests) in rw test (all_kept xs h.0)
  where
    all_kept : (xs : List ℕ) → AllAbove y xs → rows_from (x + 1) xs ≡ xs
    all_kept [] h = refl
    all_kept (z ∷ xs) h = let same : y ≡ x = cc in let above = h.0 in let test : nat_le (x + 1) z ≡ true = grind (arith, nat_tests) in rw test (ap (λ zs. z ∷ zs) (all_kept xs h.1))
