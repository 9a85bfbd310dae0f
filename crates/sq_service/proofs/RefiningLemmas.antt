-- Refiners, one after the other and row by row.
use Rattle.std.proofs.Common.{◌≡◌, ℕ, zero, suc, ◌+◌, ◌<◌, ◌≤◌, true, List, [], ◌∷◌, ◌++◌, map, take, drop, length, get_or, Some, refl, sym, ap, ◌∙◌, subst, arith, inl, inr, ◌⊎◌}
use Rattle.std.specs.Prelude.{slice_get, sum_by}
use Rattle.std.proofs.Math.ListN.{set}
use Rattle.std.proofs.lemmas.List.{take_more, take_all, drop_more}
use Rattle.std.proofs.lemmas.List.Sums.{sum_by-cons, sum_by-set, sum_by-append}
use Rattle.std.proofs.lemmas.Option.{slice_get-get_or}
use Rattle.sq_schema.specs.declared.property.Property.{Property}
use Rattle.std.proofs.lemmas.Bool.{cases_lt}
use Rattle.sq_model.specs.Valid.{are_rising}
use Rattle.sq_packet.specs.declared.request.RefinerSpec.{RefinerSpec}
use Rattle.sq_postings.specs.Indexed.{Indexed}
use Rattle.sq_response.specs.declared.response.Refined.{Refined}
use Rattle.sq_service.specs.declared.refiners.Refining.{Refining}
use Rattle.sq_service.specs.Refining.{IsRefiningOf, AreRefiningsOf, Took, refining_rest, refiner_cost, refined_by}

pub get_set_same : {X : Type 0} (xs : List X) (i : ℕ) (y : X) → i < length xs → slice_get (set xs i y) i ≡ Some y
get_set_same [] i y l = absurd (omega (arith, l))
get_set_same (x ∷ xs) zero y l = refl
get_set_same (x ∷ xs) (suc i) y l = get_set_same xs i y (omega (arith, l))

pub get_set_other : {X : Type 0} (xs : List X) (i k : ℕ) (y : X) → (k < i) ⊎ (i < k) → slice_get (set xs i y) k ≡ slice_get xs k
get_set_other [] i k y l = refl
get_set_other (x ∷ xs) zero zero y (inl l) = absurd (omega (arith, l))
get_set_other (x ∷ xs) zero zero y (inr l) = absurd (omega (arith, l))
get_set_other (x ∷ xs) zero (suc k) y l = refl
get_set_other (x ∷ xs) (suc i) zero y l = refl
get_set_other (x ∷ xs) (suc i) (suc k) y (inl l) = get_set_other xs i k y (inl (omega (arith, l)))
get_set_other (x ∷ xs) (suc i) (suc k) y (inr l) = get_set_other xs i k y (inr (omega (arith, l)))

module _ (index : Indexed) (schema : List Property) where
  -- ---- one refiner more

  pub one_more : (asked : List RefinerSpec) (all : List Refining) (one : RefinerSpec) (refining : Refining) (rows : List ℕ)
      → AreRefiningsOf index schema asked all rows → IsRefiningOf index schema one refining rows
      → AreRefiningsOf index schema (asked ++ one ∷ []) (all ++ refining ∷ []) rows
  one_more [] [] one refining rows are is = (is, tt)
  one_more [] (first ∷ all) one refining rows are is = absurd are
  one_more (first ∷ asked) [] one refining rows are is = absurd are
  one_more (first ∷ asked) (other ∷ all) one refining rows are is = (are.0, one_more asked all one refining rows are.1 is)

  pub next_counts : (asked : List RefinerSpec) (i : ℕ) (all : List Refining) (one : RefinerSpec) (refining : Refining) (rows : List ℕ)
      → i < length asked → one ≡ get_or asked i one → AreRefiningsOf index schema (take i asked) all rows → IsRefiningOf index schema one refining rows
      → AreRefiningsOf index schema (take (i + 1) asked) (all ++ refining ∷ []) rows
  next_counts asked i all one refining rows l at are is =
      subst (λ (front : List RefinerSpec). AreRefiningsOf index schema front (all ++ refining ∷ []) rows)
      (ap (λ (last : RefinerSpec). take i asked ++ last ∷ []) at ∙ sym (take_more asked i one l))
      (one_more (take i asked) all one refining rows are is)

  pub all_counts : (asked : List RefinerSpec) (i : ℕ) (all : List Refining) (rows : List ℕ) → length asked ≤ i
      → AreRefiningsOf index schema (take i asked) all rows → AreRefiningsOf index schema asked all rows
  all_counts asked i all rows past are = subst (λ (front : List RefinerSpec). AreRefiningsOf index schema front all rows) (take_all i asked past) are

  -- what is left to pay
  pub cost_left : (asked : List RefinerSpec) (i : ℕ) (one : RefinerSpec) → i < length asked → one ≡ get_or asked i one
      → sum_by (refiner_cost index schema) (drop i asked) ≡ refiner_cost index schema one + sum_by (refiner_cost index schema) (drop (i + 1) asked)
  cost_left asked i one l at =
      ap (sum_by (refiner_cost index schema)) (drop_more asked i one l ∙ ap (λ (first : RefinerSpec). first ∷ drop (i + 1) asked) (sym at))
      ∙ sum_by-cons (refiner_cost index schema) one (drop (i + 1) asked)

  pub rest_more : (all : List Refining) (refining : Refining) → sum_by refining_rest (all ++ refining ∷ []) ≡ sum_by refining_rest all + refining_rest refining
  rest_more all refining = sum_by-append refining_rest all (refining ∷ []) ∙ ap (λ n. sum_by refining_rest all + n) (sum_by-cons refining_rest refining [] ∙ omega arith)

  -- ---- one row more

  pub all_took : (asked : List RefinerSpec) (olds news : List Refining) (rows : List ℕ) (row : ℕ) → AreRefiningsOf index schema asked olds rows
      → ((k : ℕ) → Took row (slice_get olds k) (slice_get news k)) → are_rising (rows ++ row ∷ []) ≡ true → AreRefiningsOf index schema asked news (rows ++ row ∷ [])
  all_took [] [] [] rows row are took rising = tt
  all_took [] [] (new ∷ news) rows row are took rising = absurd (took 0)
  all_took [] (old ∷ olds) news rows row are took rising = absurd are
  all_took (asked ∷ more) [] news rows row are took rising = absurd are
  all_took (asked ∷ more) (old ∷ olds) [] rows row are took rising = absurd (took 0)
  all_took (asked ∷ more) (old ∷ olds) (new ∷ news) rows row are took rising =
      (took 0 index schema asked rows are.0 rising, all_took more olds news rows row are.1 (λ k. took (suc k)) rising)

  -- ---- one count more

  at_place : (asked : List RefinerSpec) (all : List Refining) (rows : List ℕ) (i : ℕ) (refining : Refining) (shown : Refined) → AreRefiningsOf index schema asked all rows
      → i < length all → refining ≡ get_or all i refining
      → ((one : RefinerSpec) → IsRefiningOf index schema one refining rows → shown ≡ refined_by index schema rows one)
      → map (refined_by index schema rows) (take (i + 1) asked) ≡ map (refined_by index schema rows) (take i asked) ++ shown ∷ []
  at_place [] [] rows i refining shown are l at counts = absurd (omega (arith, l))
  at_place [] (one ∷ all) rows i refining shown are l at counts = absurd are
  at_place (asked ∷ more) [] rows i refining shown are l at counts = absurd are
  at_place (asked ∷ more) (one ∷ all) rows zero refining shown are l at counts =
      let here : IsRefiningOf index schema asked refining rows = subst (λ (r : Refining). IsRefiningOf index schema asked r rows) (sym at) are.0 in
      ap (λ (first : Refined). first ∷ []) (sym (counts asked here))
  at_place (asked ∷ more) (one ∷ all) rows (suc i) refining shown are l at counts =
      let n : suc i + 1 ≡ suc (i + 1) = omega arith in
      rw n (ap (λ (rest : List Refined). refined_by index schema rows asked ∷ rest) (at_place more all rows i refining shown are.1 (omega (arith, l)) at counts))

  pub next_refined : (asked : List RefinerSpec) (all : List Refining) (rows : List ℕ) (i : ℕ) (refining : Refining) (shown : Refined) (done : List Refined)
      → AreRefiningsOf index schema asked all rows → i < length all → refining ≡ get_or all i refining
      → ((one : RefinerSpec) → IsRefiningOf index schema one refining rows → shown ≡ refined_by index schema rows one)
      → done ≡ map (refined_by index schema rows) (take i asked) → done ++ shown ∷ [] ≡ map (refined_by index schema rows) (take (i + 1) asked)
  next_refined asked all rows i refining shown done are l at counts before =
      ap (λ (front : List Refined). front ++ shown ∷ []) before ∙ sym (at_place asked all rows i refining shown are l at counts)

  as_many : (asked : List RefinerSpec) (all : List Refining) (rows : List ℕ) → AreRefiningsOf index schema asked all rows → length asked ≡ length all
  as_many [] [] rows are = refl
  as_many [] (one ∷ all) rows are = absurd are
  as_many (asked ∷ more) [] rows are = absurd are
  as_many (asked ∷ more) (one ∷ all) rows are = omega (arith, as_many more all rows are.1)

  pub all_refined : (asked : List RefinerSpec) (all : List Refining) (rows : List ℕ) (i : ℕ) (done : List Refined) → AreRefiningsOf index schema asked all rows → length all ≤ i
      → done ≡ map (refined_by index schema rows) (take i asked) → done ≡ map (refined_by index schema rows) asked
  all_refined asked all rows i done are past before =
      before ∙ ap (map (refined_by index schema rows)) (take_all i asked (omega (arith, past, as_many asked all rows are)))

-- a refiner among others takes a row

module _ (row : ℕ) (olds items : List Refining) (i : ℕ) (one new : Refining) (within : i < length items) (at : one ≡ get_or items i one)
    (same : (k : ℕ) → i ≤ k → slice_get items k ≡ slice_get olds k) (took : Took row (Some one) (Some new)) where
  here : slice_get olds i ≡ Some one
  here = sym (same i (omega arith)) ∙ slice_get-get_or items i one within ∙ ap Some (sym at)

  pub took_next : ((k : ℕ) → k < i → Took row (slice_get olds k) (slice_get items k)) → (k : ℕ) → k < i + 1 → Took row (slice_get olds k) (slice_get (set items i new) k)
  took_next before k l = elim (cases_lt k i) [
    | inl less ↦ subst (λ after. Took row (slice_get olds k) after) (sym (get_set_other items i k new (inl less))) (before k less)
    | inr more ↦
        let there : k ≡ i = omega (arith, l, more) in
        let old : slice_get olds k ≡ Some one = ap (slice_get olds) there ∙ here in
        let after : slice_get (set items i new) k ≡ Some new = ap (slice_get (set items i new)) there ∙ get_set_same items i new within in
        rw (old, after) took
  ]

  pub same_next : (k : ℕ) → i + 1 ≤ k → slice_get (set items i new) k ≡ slice_get olds k
  same_next k l = get_set_other items i k new (inr (omega (arith, l))) ∙ same k (omega (arith, l))

  pub cost_next : (before after all : ℕ) → after + refining_rest new ≤ before + refining_rest one → before + sum_by refining_rest items ≤ all
      → after + sum_by refining_rest (set items i new) ≤ all
  cost_next before after all step most = omega (arith, sum_by-set refining_rest items i new one within, ap refining_rest at, step, most)
