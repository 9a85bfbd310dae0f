-- How parts move in a heap.
use Rattle.std.proofs.Common.{◌≡◌, ℕ, ◌+◌, ◌-◌, ◌*◌, ◌/◌, ◌<◌, ◌≤◌, true, false, List, Option, Some, None, length, get_or, refl, sym, arith, zero, suc}
use mathlib.Core.Logic.{◌⊎◌, ⊎_elim}
use Rattle.std.proofs.lemmas.Bool.{cases_order}
use Rattle.std.proofs.lemmas.Bool.Decides.{nat_tests}
use Rattle.std.specs.List.{SwappedAt}
use Rattle.sq_cursor.specs.Rows.{first_row}
use Rattle.sq_cursor.specs.Parts.{is_after, stands_after, IsHeapFrom, IsHeap, IsBeforeChildren}

one_way : (a b : Option ℕ) → is_after a b ≡ true → is_after b a ≡ false
one_way None None e = refl
one_way None (Some y) e = refl
one_way (Some x) None e = cc
one_way (Some x) (Some y) e = grind (arith, nat_tests)

chain : (a b c : Option ℕ) → is_after a b ≡ false → is_after b c ≡ false → is_after a c ≡ false
chain None None c e f = f
chain None (Some y) c e f = cc
chain (Some x) b None e f = refl
chain (Some x) None (Some z) e f = cc
chain (Some x) (Some y) (Some z) e f = grind (arith, nat_tests)

not_after_itself : (a : Option ℕ) → is_after a a ≡ false
not_after_itself None = refl
not_after_itself (Some x) = grind (arith, nat_tests)

-- two numbers are equal or not
same_or : {P : Type 0} (a b : ℕ) → (a ≡ b → P) → ((a < b) ⊎ (b < a) → P) → P
same_or a b same other = ⊎_elim same other (cases_order a b)

apart : (a b : ℕ) → (a < b) ⊎ (b < a) → a ≡ b → ⊥
apart a b l e = ⊎_elim (λ m. absurd (omega (arith, m, e))) (λ m. absurd (omega (arith, m, e))) l

module _ {X : Type 0} (left : X → List ℕ) where
  key : X → Option ℕ
  key x = first_row (left x)

  at_same : (xs : List X) (a b : ℕ) (d : X) → a ≡ b → stands_after left (get_or xs a d) (get_or xs b d) ≡ false
  at_same xs a b d e = rw e (not_after_itself (first_row (left (get_or xs b d))))

  -- a heap but for the part at j, whose children do not stand before the part above it
  abbrev pub Hole : List X → ℕ → ℕ → Type 0
  Hole xs low j =
      ((p k : ℕ) (d : X) → low ≤ p → p * 2 + 1 ≤ k → k ≤ p * 2 + 2 → k < length xs → (p ≡ j → ⊥) → stands_after left (get_or xs p d) (get_or xs k d) ≡ false)
      × ((p k : ℕ) (d : X) → low ≤ p → p * 2 + 1 ≤ j → j ≤ p * 2 + 2 → j * 2 + 1 ≤ k → k ≤ j * 2 + 2 → k < length xs → stands_after left (get_or xs p d) (get_or xs k d) ≡ false)

  pub leaves : (xs : List X) (low : ℕ) → length xs ≤ low * 2 + 1 → IsHeapFrom left low xs
  leaves xs low h = λ p k d a b e f. absurd (omega (arith, h, a, b, f))

  pub begins : (xs : List X) (root : ℕ) → IsHeapFrom left (root + 1) xs → Hole xs root root
  begins xs root h = (
    λ p k d a b e f n. same_or p root (λ s. absurd (n s)) (λ l. h p k d (⊎_elim (λ m. absurd (omega (arith, m, a))) (λ m. omega (arith, m)) l) b e f),
    λ p k d a b e f g i. absurd (omega (arith, a, b)),
  )

  pub at_leaf : (xs : List X) (low j : ℕ) → length xs ≤ j * 2 + 1 → Hole xs low j → IsHeapFrom left low xs
  at_leaf xs low j l h = λ p k d a b e f. h.0 p k d a b e f (λ s. absurd (omega (arith, l, b, f, s)))

  pub only_child : (xs : List X) (j c : ℕ) → c ≡ j * 2 + 1 → c + 1 ≡ length xs → IsBeforeChildren left xs j c
  only_child xs j c e l = λ k d a b f. at_same xs c k d (omega (arith, e, l, a, f))

  pub left_child : (xs : List X) (j c : ℕ) → c ≡ j * 2 + 1 → ((d : X) → stands_after left (get_or xs c d) (get_or xs (c + 1) d) ≡ false) → IsBeforeChildren left xs j c
  left_child xs j c e t = λ k d a b f. same_or k c
      (λ s. at_same xs c k d (sym s))
      (λ l. let s : k ≡ c + 1 = ⊎_elim (λ m. omega (arith, m, a, e)) (λ m. omega (arith, m, b, e)) l in rw s (t d))

  pub right_child : (xs : List X) (j c : ℕ) → c ≡ j * 2 + 1 → ((d : X) → stands_after left (get_or xs c d) (get_or xs (c + 1) d) ≡ true) → IsBeforeChildren left xs j (c + 1)
  right_child xs j c e t = λ k d a b f. same_or k c
      (λ s. rw s (one_way (first_row (left (get_or xs c d))) (first_row (left (get_or xs (c + 1) d))) (t d)))
      (λ l. at_same xs (c + 1) k d (⊎_elim (λ m. omega (arith, m, a, e)) (λ m. omega (arith, m, b, e)) l))

  -- the part at j is before its children, so it rests there
  pub rests : (xs : List X) (low j c : ℕ) → ((d : X) → stands_after left (get_or xs j d) (get_or xs c d) ≡ false) → IsBeforeChildren left xs j c → Hole xs low j → IsHeapFrom left low xs
  rests xs low j c t best h = λ p k d a b e f. same_or p j
      (λ s. rw s (chain (first_row (left (get_or xs j d))) (first_row (left (get_or xs c d))) (first_row (left (get_or xs k d))) (t d) (best k d (omega (arith, s, b)) (omega (arith, s, e)) f)))
      (λ l. h.0 p k d a b e f (apart p j l))

  -- the part at j changes places with its child at c, and sinks
  pub sinks : (xs ys : List X) (low j c : ℕ) → low ≤ j → j * 2 + 1 ≤ c → c ≤ j * 2 + 2 → c < length xs → length ys ≡ length xs → SwappedAt xs ys j c →
      ((d : X) → stands_after left (get_or xs j d) (get_or xs c d) ≡ true) → IsBeforeChildren left xs j c → Hole xs low j → Hole ys low c
  sinks xs ys low j c lo from to in' long sw t best h = (edges, gap)
    where
      edges : (p k : ℕ) (d : X) → low ≤ p → p * 2 + 1 ≤ k → k ≤ p * 2 + 2 → k < length ys → (p ≡ c → ⊥) → stands_after left (get_or ys p d) (get_or ys k d) ≡ false
      edges p k d a b e f n = same_or p j
          (λ s. same_or k c
          (λ u. rw (s, u, sw.0 d, sw.1 d) (one_way (first_row (left (get_or xs j d))) (first_row (left (get_or xs c d))) (t d)))
          (λ u. rw (s, sw.0 d, sw.2 k d (λ v. absurd (omega (arith, v, s, b))) (apart k c u)) (best k d (omega (arith, s, b)) (omega (arith, s, e)) (omega (arith, f, long)))))
          (λ s. same_or k j
          (λ u. rw (u, sw.0 d, sw.2 p d (apart p j s) n) (h.1 p c d a (omega (arith, u, b)) (omega (arith, u, e)) from to in'))
          (λ u. rw (sw.2 p d (apart p j s) n, sw.2 k d (apart k j u) (λ v. apart p j s (omega (arith, v, b, e, from, to)))) (h.0 p k d a b e (omega (arith, f, long)) (apart p j s))))

      gap : (p k : ℕ) (d : X) → low ≤ p → p * 2 + 1 ≤ c → c ≤ p * 2 + 2 → c * 2 + 1 ≤ k → k ≤ c * 2 + 2 → k < length ys → stands_after left (get_or ys p d) (get_or ys k d) ≡ false
      gap p k d a b e f i l =
          let s : p ≡ j = omega (arith, b, e, from, to) in
          rw (s, sw.0 d, sw.2 k d (λ v. absurd (omega (arith, v, f, from))) (λ v. absurd (omega (arith, v, f))))
          (h.0 c k d (omega (arith, lo, from)) f i (omega (arith, l, long)) (λ v. absurd (omega (arith, v, from))))

  -- the first part stands after no other
  pub top_first : (xs : List X) (d : X) → IsHeap left xs → (fuel k : ℕ) → k ≤ fuel → k < length xs → stands_after left (get_or xs 0 d) (get_or xs k d) ≡ false
  top_first xs d h zero k a b = at_same xs 0 k d (omega (arith, a))
  top_first xs d h (suc fuel) k a b = same_or k 0
      (λ s. at_same xs 0 k d (sym s))
      (λ l.
      let pos : 0 < k = ⊎_elim (λ m. absurd (omega (arith, m))) (λ m. m) l in
      let up = top_first xs d h fuel ((k - 1) / 2) (omega (arith, a, pos)) (omega (arith, b, pos)) in
      chain (first_row (left (get_or xs 0 d))) (first_row (left (get_or xs ((k - 1) / 2) d))) (first_row (left (get_or xs k d))) up
      (h ((k - 1) / 2) k d (omega (arith, pos)) (omega (arith, pos)) (omega (arith, pos)) b))
