-- The numbers that an index has for a row are those of the item there, in order; and what entries see of hits.
use Rattle.std.proofs.Common.{◌≡◌, ◌≢◌, ℕ, ◌+◌, ◌<◌, ℤ, Bool, ◌||◌, zero, suc, List, [], ◌∷◌, ◌++◌, length, map, filter, flat_map, Option, Some, None, refl, sym, ◌∙◌, ap, arith, append-nil}
use Rattle.std.proofs.lemmas.List.{map-append}
use Rattle.std.proofs.lemmas.List.Elements.{filter-append}
use Rattle.std.proofs.lemmas.List.Folds.{list_any-append}
use Rattle.std.specs.List.{list_any}
use Rattle.std.specs.Ordering.{int_eq}
use Rattle.std.specs.Prelude.{int_lt}
use Rattle.sq_base.specs.Sorting.{put, in_order}
use Rattle.sq_model.specs.Passages.{numbers}
use Rattle.sq_model.specs.declared.corpus.Item.{Item}
use Rattle.sq_response.specs.declared.response.Entry.TheVariants.{Single, Bucket}
use Rattle.sq_postings.specs.Occurrences.{numbered, numbers_from, values_at}
use Rattle.sq_ranking.specs.Ranking.{has, values, single, in_bucket, bucket, buckets, entries}
use Rattle.sq_ranking.proofs.ValuesLemmas.{values_alike}
use Rattle.sq_collect.specs.Counted.{number_of, is_in_row, numbers_at}
use Rattle.sq_collect.proofs.CountLemmas.{numbers_first, numbers_other}

-- ---- the numbers of a row

numbers_append : (row : ℕ) (xs ys : List (ℕ × ℤ)) → numbers_at row (xs ++ ys) ≡ numbers_at row xs ++ numbers_at row ys
numbers_append row xs ys = ap (map number_of) (filter-append (is_in_row row) xs ys) ∙ map-append number_of (filter (is_in_row row) xs) (filter (is_in_row row) ys)

own_row : (row : ℕ) (ns : List ℤ) → numbers_at row (map (numbered row) ns) ≡ ns
own_row row [] = refl
own_row row (n ∷ ns) = numbers_first row (numbered row n) (map (numbered row) ns) refl ∙ ap (λ more. n ∷ more) (own_row row ns)

other_row : (row base : ℕ) (ns : List ℤ) → base ≢ row → numbers_at row (map (numbered base) ns) ≡ []
other_row row base [] apart = refl
other_row row base (n ∷ ns) apart = numbers_other row (numbered base n) (map (numbered base) ns) apart ∙ other_row row base ns apart

lower_row : (row base property : ℕ) (items : List Item) → row < base → numbers_at row (numbers_from base property items) ≡ []
lower_row row base property [] less = refl
lower_row row base property (item ∷ items) less =
    let ns = in_order int_lt (numbers item.values property) in
    numbers_append row (map (numbered base) ns) (numbers_from (base + 1) property items)
    ∙ ap (λ front. front ++ numbers_at row (numbers_from (base + 1) property items)) (other_row row base ns (let apart : base ≢ row = omega (arith, less) in apart))
    ∙ lower_row row (base + 1) property items (omega (arith, less))

none_past : (k property : ℕ) → [] ≡ in_order int_lt (numbers (values_at [] k) property)
none_past zero property = refl
none_past (suc k) property = refl

row_numbers : (base k property : ℕ) (items : List Item) → numbers_at (base + k) (numbers_from base property items) ≡ in_order int_lt (numbers (values_at items k) property)
row_numbers base k property [] = none_past k property
row_numbers base zero property (item ∷ items) =
    let ns = in_order int_lt (numbers item.values property) in
    let same : base + 0 ≡ base = omega arith in
    ap (λ row. numbers_at row (numbers_from base property (item ∷ items))) same
    ∙ numbers_append base (map (numbered base) ns) (numbers_from (base + 1) property items)
    ∙ ap (λ front. front ++ numbers_at base (numbers_from (base + 1) property items)) (own_row base ns)
    ∙ ap (λ behind. ns ++ behind) (lower_row base (base + 1) property items (omega arith))
    ∙ append-nil ns
row_numbers base (suc k) property (item ∷ items) =
    let ns = in_order int_lt (numbers item.values property) in
    let same : base + suc k ≡ (base + 1) + k = omega arith in
    ap (λ row. numbers_at row (numbers_from base property (item ∷ items))) same
    ∙ numbers_append ((base + 1) + k) (map (numbered base) ns) (numbers_from (base + 1) property items)
    ∙ ap (λ front. front ++ numbers_at ((base + 1) + k) (numbers_from (base + 1) property items)) (other_row ((base + 1) + k) base ns (let apart : base ≢ (base + 1) + k = omega arith in apart))
    ∙ row_numbers (base + 1) k property items

-- ---- what entries see

any_put : (p : ℤ → Bool) (before : ℤ → ℤ → Bool) (x : ℤ) (ys : List ℤ) → list_any p (put before x ys) ≡ (p x || list_any p ys)
any_put p before x [] = refl
any_put p before x (y ∷ ys) = grind (arith, any_put p before x ys)

any_in_order : (p : ℤ → Bool) (before : ℤ → ℤ → Bool) (xs : List ℤ) → list_any p (in_order before xs) ≡ list_any p xs
any_in_order p before [] = refl
any_in_order p before (x ∷ xs) = any_put p before x (in_order before xs) ∙ ap (λ b. p x || b) (any_in_order p before xs)

module _ (f g : ℕ → List ℤ) (alike : (p : ℤ → Bool) (row : ℕ) → list_any p (f row) ≡ list_any p (g row)) where
  counts_same : (p : ℤ → Bool) (rows : List ℕ) → length (filter (list_any p) (map f rows)) ≡ length (filter (list_any p) (map g rows))
  counts_same p [] = refl
  counts_same p (row ∷ rows) = let here = alike p row in let behind = counts_same p rows in grind (arith, here, behind)

  has_same : (v : ℤ) (rows : List ℕ) → has v (flat_map (λ numbers. numbers) (map f rows)) ≡ has v (flat_map (λ numbers. numbers) (map g rows))
  has_same v [] = refl
  has_same v (row ∷ rows) =
      list_any-append (int_eq v) (f row) (flat_map (λ numbers. numbers) (map f rows))
      ∙ ap (λ b. b || has v (flat_map (λ numbers. numbers) (map f rows))) (alike (int_eq v) row)
      ∙ ap (λ b. list_any (int_eq v) (g row) || b) (has_same v rows)
      ∙ sym (list_any-append (int_eq v) (g row) (flat_map (λ numbers. numbers) (map g rows)))

  singles_same : (rows : List ℕ) (vs : List ℤ) → map (single (map f rows)) vs ≡ map (single (map g rows)) vs
  singles_same rows [] = refl
  singles_same rows (v ∷ vs) = ap (λ n. Single v n ∷ map (single (map f rows)) vs) (counts_same (int_eq v) rows) ∙ ap (λ more. single (map g rows) v ∷ more) (singles_same rows vs)

  buckets_same : (rows : List ℕ) (from : Option ℤ) (bounds : List ℤ) → buckets (map f rows) from bounds ≡ buckets (map g rows) from bounds
  buckets_same rows from [] = ap (λ n. Bucket from None n ∷ []) (counts_same (in_bucket from None) rows)
  buckets_same rows from (bound ∷ bounds) =
      ap (λ n. Bucket from (Some bound) n ∷ buckets (map f rows) (Some bound) bounds) (counts_same (in_bucket from (Some bound)) rows)
      ∙ ap (λ more. bucket (map g rows) from (Some bound) ∷ more) (buckets_same rows (Some bound) bounds)

  -- entries see of each hit only what passes a test
  pub entries_same : (bounds : List ℤ) (rows : List ℕ) → entries bounds (map f rows) ≡ entries bounds (map g rows)
  entries_same [] rows =
      singles_same rows (values (flat_map (λ numbers. numbers) (map f rows)))
      ∙ ap (map (single (map g rows))) (values_alike (flat_map (λ numbers. numbers) (map f rows)) (flat_map (λ numbers. numbers) (map g rows)) (λ v. has_same v rows))
  entries_same (bound ∷ bounds) rows = buckets_same rows None (bound ∷ bounds)

pub columns_alike : (pairs : List (ℕ × ℤ)) (property : ℕ) (items : List Item) (bounds : List ℤ) (rows : List ℕ) → pairs ≡ numbers_from 0 property items → entries bounds (map (λ row. numbers_at row pairs) rows) ≡ entries bounds (map (λ row. numbers (values_at items row) property) rows)
columns_alike pairs property items bounds rows is =
    entries_same (λ row. numbers_at row pairs) (λ row. numbers (values_at items row) property) (λ p row.
    ap (λ xs. list_any p (numbers_at row xs)) is
    ∙ ap (λ n. list_any p (numbers_at n (numbers_from 0 property items))) (omega arith)
    ∙ ap (list_any p) (row_numbers 0 row property items)
    ∙ any_in_order p int_lt (numbers (values_at items row) property)) bounds rows
