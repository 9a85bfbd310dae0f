-- The claims of an item are told by the rows of the claims.
use Rattle.std.proofs.Common.{◌≡◌, ℕ, ◌+◌, ◌<◌, Bool, true, false, cond, ◌&&◌, ◌||◌, List, [], ◌∷◌, map, filter, refl, sym, ap, ap₂, ◌∙◌, arith, Some, zero, suc, slice_get}
use Rattle.std.specs.Prelude.{nat_eq}
use Rattle.std.specs.List.{list_any, flat_map}
use Rattle.std.specs.Str.{bytes_eq}
use Rattle.std.proofs.Math.Bool.{and_comm}
use Rattle.std.proofs.lemmas.Bool.Decides.{nat_tests, same_from_decides}
use Rattle.std.proofs.lemmas.List.Folds.{list_any-append}
use Rattle.std.proofs.lemmas.Option.{same_Some}
use Rattle.std.proofs.lemmas.Slice.Eq.{bytes_eq-Decides}
use Rattle.sq_model.specs.declared.corpus.Item.{Item}
use Rattle.sq_postings.specs.declared.parts.Claim.{Claim}
use Rattle.sq_postings.specs.Indexed.{rows_with}
use Rattle.sq_postings.specs.Occurrences.{rows_from}
use Rattle.sq_holding.specs.Told.{has_row, claim_text, claims_told}

bytes_eq-sym : (a b : List ℕ) → bytes_eq a b ≡ bytes_eq b a
bytes_eq-sym a b = same_from_decides (bytes_eq a b) (bytes_eq b a) (bytes_eq-Decides a b)
    (λ e. sym ((bytes_eq-Decides b a).0 e), λ e. (bytes_eq-Decides b a).1 (sym e))

-- ---- a claim has the row where one of its lists does

module _ (row : ℕ) (claim : List ℕ) where
  told_first : (first : Claim) (more : List Claim) (b : Bool)
      → list_any (bytes_eq claim) (map claim_text (cond b (first ∷ more) more)) ≡ ((b && bytes_eq claim first.claim) || list_any (bytes_eq claim) (map claim_text more))
  told_first first more true = refl
  told_first first more false = refl

  rows_first : (first : Claim) (more : List Claim) (b : Bool)
      → list_any (nat_eq row) (flat_map (λ list. list.rows) (cond b (first ∷ more) more)) ≡ ((b && has_row row first) || list_any (nat_eq row) (flat_map (λ list. list.rows) more))
  rows_first first more true = list_any-append (nat_eq row) first.rows (flat_map (λ list. list.rows) more)
  rows_first first more false = refl

  pub told_by_rows : (lists : List Claim) → list_any (bytes_eq claim) (claims_told lists row) ≡ list_any (nat_eq row) (rows_with claim lists)
  told_by_rows [] = refl
  told_by_rows (list ∷ lists) =
      let both : (has_row row list && bytes_eq claim list.claim) ≡ (bytes_eq list.claim claim && has_row row list) =
      ap (λ b. has_row row list && b) (bytes_eq-sym claim list.claim) ∙ and_comm (has_row row list) (bytes_eq list.claim claim) in
      told_first list (filter (has_row row) lists) (has_row row list)
      ∙ ap₂ (λ a b. a || b) both (told_by_rows lists)
      ∙ sym (rows_first list (filter (λ l. bytes_eq l.claim claim) lists) (bytes_eq list.claim claim))

-- ---- the rows of a test are those of the items that pass it

module _ (test : Item → Bool) where
  none_below : (row a : ℕ) (items : List Item) → row < a → list_any (nat_eq row) (rows_from a test items) ≡ false
  none_below row a [] l = refl
  none_below row a (item ∷ items) l = at (test item) (none_below row (a + 1) items (omega (arith, l)))
    where
      apart : nat_eq row a ≡ false
      apart = grind (arith, nat_tests, l)

      at : (b : Bool) → list_any (nat_eq row) (rows_from (a + 1) test items) ≡ false
          → list_any (nat_eq row) (cond b (a ∷ rows_from (a + 1) test items) (rows_from (a + 1) test items)) ≡ false
      at true more = rw (apart, more) refl
      at false more = more

  pub row_passes : (row a i : ℕ) (items : List Item) (item : Item) → a + i ≡ row → slice_get items i ≡ Some item
      → list_any (nat_eq row) (rows_from a test items) ≡ test item
  row_passes row a i [] item e at = absurd (cc)
  row_passes row a zero (x ∷ items) item e at = here (test x) (none_below row (a + 1) items (omega (arith, e))) ∙ ap test (same_Some x item at)
    where
      same : nat_eq row a ≡ true
      same = grind (arith, nat_tests, e)

      here : (b : Bool) → list_any (nat_eq row) (rows_from (a + 1) test items) ≡ false
          → list_any (nat_eq row) (cond b (a ∷ rows_from (a + 1) test items) (rows_from (a + 1) test items)) ≡ b
      here true none = rw same refl
      here false none = none
  row_passes row a (suc i) (x ∷ items) item e at = passed (test x) ∙ row_passes row (a + 1) i items item (omega (arith, e)) at
    where
      apart : nat_eq row a ≡ false
      apart = grind (arith, nat_tests, e)

      passed : (b : Bool) → list_any (nat_eq row) (cond b (a ∷ rows_from (a + 1) test items) (rows_from (a + 1) test items)) ≡ list_any (nat_eq row) (rows_from (a + 1) test items)
      passed true = rw apart refl
      passed false = refl
