-- The least matches of a proximity expression are those of its plan.
use Rattle.std.proofs.Common.{◌≡◌, ◌⊎◌, inl, inr, ℕ, Bool, true, false, ◌||◌, cond, List, [], ◌∷◌, ◌++◌, map, length, refl, sym, ◌∙◌, ap, subst}
use Rattle.std.specs.Prelude.{nat_eq}
use Rattle.std.specs.List.{list_any, filter, sum}
use Rattle.std.proofs.lemmas.Bool.{eqb-true, eq-eqb}
use Rattle.sq_model.specs.Passages.{Passage}
use Rattle.sq_model.specs.Places.{places}
use Rattle.sq_model.specs.Lists.{joined}
use Rattle.sq_model.specs.Triples.{of_phrase, at_place, choices, near}
use Rattle.sq_model.specs.Spans.{triples, triples_each}
use Rattle.sq_model.specs.Copies.{distinct, weights, weights_each}
use Rattle.sq_least.specs.Dense.{Dense, EachDense, HaveWeights, weights_of_sum, DenseSums, WeightsOfMatches}
use Rattle.sq_least.specs.Laws.{IsAsLong, of_weight, of_weights}
use Rattle.sq_least.specs.Plan.{least, plan, plan_all, plan_each, LeastByWeight}
use Rattle.sq_model.specs.declared.triple.Triple.{Triple}
use Rattle.sq_model.specs.declared.fql.SpanTree.{SpanTree, Leaf, Union', Near', Row_of-SpanTree, end_of-SpanTree, more_of-SpanTree}
use Rattle.sq_model.proofs.Members.{IsIn, in_append, in_append_left, in_append_right, to_filter, of_filter, to_map, of_map, to_flat_map, of_flat_map}
use Rattle.sq_model.proofs.Choices.{IsChoice, to_choices, of_choices, to_near, of_near}
use Rattle.sq_least.proofs.WeightsSplit.{weight, weight-joined, finer, coarser}
use Rattle.sq_least.proofs.LeastNear.{inside_same}
use Rattle.sq_least.proofs.DenseLemmas.{dense_same, dense_chain, least_of_dense, dense_least, dense_union, dense_near}

-- ---- every match has one of the weights

or_cases : (a b : Bool) → (a || b) ≡ true → (a ≡ true) ⊎ (b ≡ true)
or_cases true b e = inl refl
or_cases false b e = inr e

found_by : (n : ℕ) (ns : List ℕ) → list_any (nat_eq n) ns ≡ true → IsIn n ns
found_by n [] e = cc
found_by n (m ∷ ns) e = elim (or_cases (nat_eq n m) (list_any (nat_eq n) ns) e) [ inl p ↦ inl (eqb-true n m p) | inr q ↦ inr (found_by n ns q) ]

distinct_test : (n m : ℕ) (ns : List ℕ) (b : Bool) → list_any (nat_eq m) ns ≡ b → (n ≡ m) ⊎ IsIn n (distinct ns) → (IsIn m ns → IsIn m (distinct ns)) → IsIn n (cond b (distinct ns) (m ∷ distinct ns))
distinct_test n m ns true e (inl p) more = let P : ℕ → Type 0 = λ v. IsIn v (distinct ns) in subst P (sym p) (more (found_by m ns e))
distinct_test n m ns true e (inr h) more = h
distinct_test n m ns false e (inl p) more = inl p
distinct_test n m ns false e (inr h) more = inr h

distinct_keeps : (n : ℕ) (ns : List ℕ) → IsIn n ns → IsIn n (distinct ns)
distinct_keeps n [] h = absurd h
distinct_keeps n (m ∷ ns) (inl p) = distinct_test n m ns (list_any (nat_eq m) ns) refl (inl p) (distinct_keeps m ns)
distinct_keeps n (m ∷ ns) (inr h) = distinct_test n m ns (list_any (nat_eq m) ns) refl (inr (distinct_keeps n ns h)) (distinct_keeps m ns)

weights_of_choice : (parts : List (List Triple)) (of_parts : List (List ℕ)) → HaveWeights parts of_parts → (chosen : List Triple) → IsChoice chosen parts → IsChoice (map weight chosen) of_parts
weights_of_choice [] [] have [] h = tt
weights_of_choice [] [] have (t ∷ chosen) h = absurd h
weights_of_choice [] (vs ∷ rest) have chosen h = absurd have
weights_of_choice (part ∷ parts) [] have chosen h = absurd have
weights_of_choice (part ∷ parts) (vs ∷ rest) have [] h = absurd h
weights_of_choice (part ∷ parts) (vs ∷ rest) have (t ∷ chosen) h = (have.0 t h.0, weights_of_choice parts rest have.1 chosen h.1)

module _ (p : Passage) where
  mutual
    weight_of_match : (tree : SpanTree) (t : Triple) → IsIn t (triples p tree) → IsIn t.weight (weights tree)
    weight_of_match (Leaf leaf) t h =
        let r = of_map (at_place (length leaf.pattern.texts)) t (places leaf.pattern p) h in
        inl (ap weight r.2)
    weight_of_match (Union' shape parts) t h = distinct_keeps t.weight (joined (weights_each parts)) (weight_of_joined parts t h)
    weight_of_match (Near' shape parts n ordered) t h =
        let r = of_near n ordered (triples_each p parts) t h in
        let P : ℕ → Type 0 = λ v. IsIn v (weights (Near' shape parts n ordered)) in
        let chosen = weights_of_choice (triples_each p parts) (weights_each parts) (have_weights parts) r.chosen r.is_choice in
        subst P (weight-joined r.chosen t r.joins)
        (distinct_keeps (sum (map weight r.chosen)) (map sum (choices (weights_each parts)))
        (to_map sum (map weight r.chosen) (choices (weights_each parts)) (to_choices (map weight r.chosen) (weights_each parts) chosen)))

    weight_of_joined : {m : _} (parts : Row_of-SpanTree m) (t : Triple) → IsIn t (joined (triples_each p parts)) → IsIn t.weight (joined (weights_each parts))
    weight_of_joined end_of-SpanTree t h = absurd h
    weight_of_joined (more_of-SpanTree part rest) t h = elim (in_append t (triples p part) (joined (triples_each p rest)) h) [
      | inl k ↦ in_append_left t.weight (weights part) (joined (weights_each rest)) (weight_of_match part t k)
      | inr k ↦ in_append_right t.weight (weights part) (joined (weights_each rest)) (weight_of_joined rest t k)
    ]

    have_weights : {m : _} (parts : Row_of-SpanTree m) → HaveWeights (triples_each p parts) (weights_each parts)
    have_weights end_of-SpanTree = tt
    have_weights (more_of-SpanTree part rest) = (weight_of_match part, have_weights rest)

pub weights_of_matches : WeightsOfMatches
weights_of_matches passage tree t h = weight_of_match passage tree t h

-- ---- matches of one weight

weighs : (v : ℕ) (matches : List Triple) (t : Triple) → IsIn t (of_weight v matches) → t.weight ≡ v
weighs v matches t h = eqb-true t.weight v (of_filter (λ t. nat_eq t.weight v) t matches h).1

one_weight : (v : ℕ) (matches few : List Triple) → Dense (of_weight v matches) few → (s t : Triple) → IsIn s few → IsIn t few → s.weight ≡ t.weight
one_weight v matches few d s t h k = weighs v matches s (d.some s h) ∙ sym (weighs v matches t (d.some t k))

filter_append_at : (b : Bool) (x : Triple) (all xs ys : List Triple) → all ≡ xs ++ ys → cond b (x ∷ all) all ≡ cond b (x ∷ xs) xs ++ ys
filter_append_at true x all xs ys e = ap (λ v. x ∷ v) e
filter_append_at false x all xs ys e = e

filter_append : (f : Triple → Bool) (xs ys : List Triple) → filter f (xs ++ ys) ≡ filter f xs ++ filter f ys
filter_append f [] ys = refl
filter_append f (x ∷ xs) ys = filter_append_at (f x) x (filter f (xs ++ ys)) (filter f xs) (filter f ys) (filter_append f xs ys)

-- the weights of a near of parts of the weights vs
module _ (n : ℕ) (ordered : Bool) (parts : List (List Triple)) where
  weighs_sum : (vs : List ℕ) → IsAsLong vs parts → (t : Triple) → IsIn t (near n ordered (of_weights vs parts)) → (IsIn t (near n ordered parts)) × (t.weight ≡ sum vs)
  weighs_sum vs l t h =
      let r = of_near n ordered (of_weights vs parts) t h in
      let c = coarser vs r.chosen parts l r.is_choice in (
        to_near n ordered parts t (record { chosen = r.chosen; is_choice = c.0; is_ordered = r.is_ordered; joins = r.joins; is_close = r.is_close }),
        sym (ap sum (sym c.1) ∙ weight-joined r.chosen t r.joins),
      )

of_weight_joined : (v : ℕ) (lists : List (List Triple)) → of_weight v (joined lists) ≡ joined (map (of_weight v) lists)
of_weight_joined v [] = refl
of_weight_joined v (xs ∷ lists) = filter_append (λ t. nat_eq t.weight v) xs (joined lists) ∙ ap (λ r. of_weight v xs ++ r) (of_weight_joined v lists)

each_of_map : (F G : List ℕ → List Triple) (all : List (List ℕ)) → ((vs : List ℕ) → IsIn vs all → Dense (F vs) (G vs)) → EachDense (map F all) (map G all)
each_of_map F G [] d = tt
each_of_map F G (vs ∷ all) d = (d vs (inl refl), each_of_map F G all (λ ws h. d ws (inr h)))

-- a step of the plan: the least ones of what is dense in matches of one weight
then_least : (v : ℕ) (matches few : List Triple) → Dense (of_weight v matches) few → Dense (of_weight v matches) (least few)
then_least v matches few d = dense_chain (of_weight v matches) few (least few) d (dense_least few (one_weight v matches few d))

as_long_as : (parts : List (List Triple)) (of_parts : List (List ℕ)) → HaveWeights parts of_parts → (vs : List ℕ) → IsChoice vs of_parts → IsAsLong vs parts
as_long_as [] [] have [] h = tt
as_long_as [] [] have (v ∷ vs) h = absurd h
as_long_as [] (ws ∷ rest) have vs h = absurd have
as_long_as (part ∷ parts) [] have vs h = absurd have
as_long_as (part ∷ parts) (ws ∷ rest) have [] h = absurd h
as_long_as (part ∷ parts) (ws ∷ rest) have (v ∷ vs) h = as_long_as parts rest have.1 vs h.1

module _ (n : ℕ) (ordered : Bool) (parts : List (List Triple)) (of_parts : List (List ℕ)) (have : HaveWeights parts of_parts) (v : ℕ) where
  abbrev by_weights : List ℕ → List Triple
  by_weights vs = near n ordered (of_weights vs parts)

  abbrev sums : List (List ℕ)
  sums = weights_of_sum v of_parts

  long_enough : (vs : List ℕ) → IsIn vs sums → IsAsLong vs parts × (sum vs ≡ v)
  long_enough vs h =
      let r = of_filter (λ vs. nat_eq (sum vs) v) vs (choices of_parts) h in
      (as_long_as parts of_parts have vs (of_choices vs of_parts r.0), eqb-true (sum vs) v r.1)

  some_sum : (t : Triple) → IsIn t (joined (map by_weights sums)) → IsIn t (of_weight v (near n ordered parts))
  some_sum t h =
      let r = of_flat_map (λ (xs : List Triple). xs) t (map by_weights sums) h in
      let s = of_map by_weights r.0 sums r.1 in
      let l = long_enough s.0 s.1 in
      let P : List Triple → Type 0 = λ xs. IsIn t xs in
      let w = weighs_sum n ordered parts s.0 l.0 t (subst P s.2 r.2) in
      to_filter (λ t. nat_eq t.weight v) t (near n ordered parts) w.0 (eq-eqb t.weight v (w.1 ∙ l.1))

  all_sums : (t : Triple) → IsIn t (of_weight v (near n ordered parts)) → IsIn t (joined (map by_weights sums))
  all_sums t h =
      let r = of_filter (λ t. nat_eq t.weight v) t (near n ordered parts) h in
      let c = of_near n ordered parts t r.0 in
      let vs = map weight c.chosen in
      let adds : sum vs ≡ v = weight-joined c.chosen t c.joins ∙ eqb-true t.weight v r.1 in
      let has : IsIn vs sums = to_filter (λ vs. nat_eq (sum vs) v) vs (choices of_parts) (to_choices vs of_parts (weights_of_choice parts of_parts have c.chosen c.is_choice)) (eq-eqb (sum vs) v adds) in
      to_flat_map (λ (xs : List Triple). xs) t (by_weights vs) (map by_weights sums) (to_map by_weights vs sums has)
      (to_near n ordered (of_weights vs parts) t
      (record { chosen = c.chosen; is_choice = finer c.chosen parts c.is_choice; is_ordered = c.is_ordered; joins = c.joins; is_close = c.is_close }))

pub dense_sums : DenseSums
dense_sums n ordered parts of_parts have v = record {
  some = some_sum n ordered parts of_parts have v;
  below = λ t h. (t, all_sums n ordered parts of_parts have v t h, (inside_same t, refl));
}

module _ (p : Passage) where
  module _ {m : _} (parts : Row_of-SpanTree m) (n : ℕ) (ordered : Bool) (v : ℕ) where
    abbrev near_by_weights : List ℕ → List Triple
    near_by_weights vs = near n ordered (of_weights vs (triples_each p parts))

    abbrev by_plan : List ℕ → List Triple
    by_plan vs = least (near n ordered (plan_each p parts vs))

    abbrev sums_each : List (List ℕ)
    sums_each = weights_of_sum v (weights_each parts)

    dense_one : ((vs : List ℕ) → IsAsLong vs (triples_each p parts) → EachDense (of_weights vs (triples_each p parts)) (plan_each p parts vs)) →
        (vs : List ℕ) → IsIn vs sums_each → Dense (near_by_weights vs) (by_plan vs)
    dense_one each vs h =
        let l = (long_enough n ordered (triples_each p parts) (weights_each parts) (have_weights p parts) v vs h).0 in
        let d = dense_near n ordered (of_weights vs (triples_each p parts)) (plan_each p parts vs) (each vs l) in
        let weighs_it = λ (t : Triple) (k : IsIn t (near n ordered (plan_each p parts vs))). (weighs_sum n ordered (triples_each p parts) vs l t (d.some t k)).1 in
        dense_chain (near_by_weights vs) (near n ordered (plan_each p parts vs)) (by_plan vs) d
        (dense_least (near n ordered (plan_each p parts vs)) (λ s t h k. weighs_it s h ∙ sym (weighs_it t k)))

    dense_of_near : ((vs : List ℕ) → IsAsLong vs (triples_each p parts) → EachDense (of_weights vs (triples_each p parts)) (plan_each p parts vs)) →
        Dense (of_weight v (near n ordered (triples_each p parts))) (joined (map by_plan sums_each))
    dense_of_near each =
        dense_chain (of_weight v (near n ordered (triples_each p parts))) (joined (map near_by_weights sums_each)) (joined (map by_plan sums_each))
        (dense_sums n ordered (triples_each p parts) (weights_each parts) (have_weights p parts) v)
        (dense_union (map near_by_weights sums_each) (map by_plan sums_each) (each_of_map near_by_weights by_plan sums_each (dense_one each)))

  mutual
    pub dense_plan : (tree : SpanTree) (v : ℕ) → Dense (of_weight v (triples p tree)) (plan p tree v)
    dense_plan (Leaf leaf) v = then_least v (of_phrase leaf.pattern p) (of_weight v (of_phrase leaf.pattern p)) (dense_same (of_weight v (of_phrase leaf.pattern p)))
    dense_plan (Union' shape parts) v =
        let P : List Triple → Type 0 = λ xs. Dense xs (joined (plan_all p parts v)) in
        then_least v (joined (triples_each p parts)) (joined (plan_all p parts v))
        (subst P (sym (of_weight_joined v (triples_each p parts))) (dense_union (map (of_weight v) (triples_each p parts)) (plan_all p parts v) (dense_all parts v)))
    dense_plan (Near' shape parts n ordered) v =
        then_least v (near n ordered (triples_each p parts)) (joined (map (by_plan parts n ordered v) (sums_each parts n ordered v))) (dense_of_near parts n ordered v (dense_each parts))

    dense_all : {m : _} (parts : Row_of-SpanTree m) (v : ℕ) → EachDense (map (of_weight v) (triples_each p parts)) (plan_all p parts v)
    dense_all end_of-SpanTree v = tt
    dense_all (more_of-SpanTree part rest) v = (dense_plan part v, dense_all rest v)

    dense_each : {m : _} (parts : Row_of-SpanTree m) (vs : List ℕ) → IsAsLong vs (triples_each p parts) → EachDense (of_weights vs (triples_each p parts)) (plan_each p parts vs)
    dense_each end_of-SpanTree [] l = tt
    dense_each end_of-SpanTree (v ∷ vs) l = absurd l
    dense_each (more_of-SpanTree part rest) [] l = absurd l
    dense_each (more_of-SpanTree part rest) (v ∷ vs) l = (dense_plan part v, dense_each rest vs l)

pub least_by_weight : LeastByWeight
least_by_weight passage tree v t =
    least_of_dense (of_weight v (triples passage tree)) (plan passage tree v)
    (one_weight v (triples passage tree) (of_weight v (triples passage tree)) (dense_same (of_weight v (triples passage tree)))) (dense_plan passage tree v) t
