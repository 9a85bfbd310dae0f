-- The matches of a near by the weights of its parts' matches.
use Rattle.std.proofs.Common.{◌≡◌, ℕ, ◌+◌, List, [], ◌∷◌, map, refl, ap, ap₂, Some, arith}
use Rattle.std.specs.Prelude.{nat_eq}
use Rattle.std.specs.List.{fold, reduce, sum}
use Rattle.std.proofs.lemmas.Bool.{eqb-true, eq-eqb}
use Rattle.std.proofs.lemmas.List.Sums.{sum_by-cons}
use Rattle.sq_least.specs.Laws.{of_weights, IsAsLong, NearSplitsByWeight}
use Rattle.sq_model.specs.Triples.{join}
use Rattle.sq_model.specs.declared.triple.Triple.{Triple}
use Rattle.sq_model.proofs.Members.{to_filter, of_filter}
use Rattle.sq_model.proofs.Choices.{IsChoice, to_near, of_near}

abbrev pub weight : Triple → ℕ
weight t = t.weight

sum-cons : (v : ℕ) (vs : List ℕ) → sum (v ∷ vs) ≡ v + sum vs
sum-cons v vs = sum_by-cons (λ x. x) v vs

weight-fold : (x : Triple) (xs : List Triple) → (fold join x xs).weight ≡ x.weight + sum (map weight xs)
weight-fold x [] = omega arith
weight-fold x (y ∷ ys) = omega (arith, weight-fold (join x y) ys, sum-cons y.weight (map weight ys))

pub weight-joined : (chosen : List Triple) (t : Triple) → reduce join chosen ≡ Some t → sum (map weight chosen) ≡ t.weight
weight-joined [] t e = cc
weight-joined (x ∷ xs) t e =
    let whole : fold join x xs ≡ t = cc in
    omega (arith, weight-fold x xs, sum-cons x.weight (map weight xs), ap weight whole)

pub finer : (chosen : List Triple) (parts : List (List Triple)) → IsChoice chosen parts → IsChoice chosen (of_weights (map weight chosen) parts)
finer [] [] h = tt
finer [] (part ∷ parts) h = absurd h
finer (x ∷ chosen) [] h = absurd h
finer (x ∷ chosen) (part ∷ parts) h = (to_filter (λ t. nat_eq t.weight x.weight) x part h.0 (eq-eqb x.weight x.weight refl), finer chosen parts h.1)

pub as_long : (chosen : List Triple) (parts : List (List Triple)) → IsChoice chosen parts → IsAsLong (map weight chosen) parts
as_long [] [] h = tt
as_long [] (part ∷ parts) h = absurd h
as_long (x ∷ chosen) [] h = absurd h
as_long (x ∷ chosen) (part ∷ parts) h = as_long chosen parts h.1

pub coarser : (vs : List ℕ) (chosen : List Triple) (parts : List (List Triple)) → IsAsLong vs parts → IsChoice chosen (of_weights vs parts) → IsChoice chosen parts × (map weight chosen ≡ vs)
coarser [] [] [] l h = (tt, refl)
coarser [] (x ∷ chosen) [] l h = absurd h
coarser [] chosen (part ∷ parts) l h = absurd l
coarser (v ∷ vs) chosen [] l h = absurd l
coarser (v ∷ vs) [] (part ∷ parts) l h = absurd h
coarser (v ∷ vs) (x ∷ chosen) (part ∷ parts) l h =
    let here = of_filter (λ t. nat_eq t.weight v) x part h.0 in
    let rest = coarser vs chosen parts l h.1 in
    ((here.0, rest.0), ap₂ (λ a b. a ∷ b) (eqb-true x.weight v here.1) rest.1)

pub near_splits_by_weight : NearSplitsByWeight
near_splits_by_weight n ordered parts t = (
  (λ h. let r = of_near n ordered parts t h in (
    map weight r.chosen,
    as_long r.chosen parts r.is_choice,
    weight-joined r.chosen t r.joins,
    to_near n ordered (of_weights (map weight r.chosen) parts) t (record { chosen = r.chosen; is_choice = finer r.chosen parts r.is_choice; is_ordered = r.is_ordered; joins = r.joins; is_close = r.is_close }),
  )),
  (λ h. let r = of_near n ordered (of_weights h.0 parts) t h.3 in
      to_near n ordered parts t (record { chosen = r.chosen; is_choice = (coarser h.0 r.chosen parts h.1 r.is_choice).0; is_ordered = r.is_ordered; joins = r.joins; is_close = r.is_close })),
)
