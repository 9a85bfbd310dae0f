-- The width of a near in place of the weights of its parts.
use Rattle.std.proofs.Common.{◌≡◌, ℕ, ◌+◌, ◌-◌, Bool, true, false, ◌&&◌, List, [], ◌∷◌, map, refl, sym, ◌∙◌, ap, ap₂, Some, arith}
use Rattle.std.specs.Prelude.{nat_lt, nat_le}
use Rattle.std.specs.List.{fold, reduce, sum}
use Rattle.sq_model.specs.Triples.{join, rises, keeps_order, is_near, near}
use Rattle.sq_model.specs.declared.triple.Triple.{Triple}
use Rattle.sq_model.proofs.Members.{to_map, of_map}
use Rattle.sq_model.proofs.Choices.{IsChoice, IsNear, to_near, of_near}
use Rattle.sq_least.specs.Laws.{weightless, HaveWeight, HasInterval, WidthCountsWeights}
use Rattle.sq_least.proofs.WeightsSplit.{weight, weight-joined}

-- ---- a choice without its weights

rises_weightless : (chosen : List Triple) → rises (map weightless chosen) ≡ rises chosen
rises_weightless [] = refl
rises_weightless (s ∷ []) = refl
rises_weightless (s ∷ t ∷ chosen) = ap (λ b. nat_lt s.last t.first && b) (rises_weightless (t ∷ chosen))

ordered_weightless : (ordered : Bool) (chosen : List Triple) → keeps_order ordered (map weightless chosen) ≡ keeps_order ordered chosen
ordered_weightless false chosen = refl
ordered_weightless true chosen = rises_weightless chosen

fold_weightless : (x : Triple) (xs : List Triple) → fold join (weightless x) (map weightless xs) ≡ weightless (fold join x xs)
fold_weightless x [] = refl
fold_weightless x (y ∷ xs) = fold_weightless (join x y) xs

joined_weightless : (chosen : List Triple) (t : Triple) → reduce join chosen ≡ Some t → reduce join (map weightless chosen) ≡ Some (weightless t)
joined_weightless [] t e = cc
joined_weightless (x ∷ xs) t e = let whole : fold join x xs ≡ t = cc in ap Some (fold_weightless x xs ∙ ap weightless whole)

to_weightless : (chosen : List Triple) (parts : List (List Triple)) → IsChoice chosen parts → IsChoice (map weightless chosen) (map (map weightless) parts)
to_weightless [] [] h = tt
to_weightless [] (part ∷ parts) h = absurd h
to_weightless (t ∷ chosen) [] h = absurd h
to_weightless (t ∷ chosen) (part ∷ parts) h = (to_map weightless t part h.0, to_weightless chosen parts h.1)

of_weightless : (light : List Triple) (parts : List (List Triple)) → IsChoice light (map (map weightless) parts) →
    (chosen : List Triple) × IsChoice chosen parts × (light ≡ map weightless chosen)
of_weightless [] [] h = ([], tt, refl)
of_weightless [] (part ∷ parts) h = absurd h
of_weightless (t ∷ light) [] h = absurd h
of_weightless (t ∷ light) (part ∷ parts) h =
    let s = of_map weightless t part h.0 in
    let rest = of_weightless light parts h.1 in
    (s.0 ∷ rest.0, (s.1, rest.1), ap₂ (λ a b. a ∷ b) s.2 rest.2)

-- ---- its weight

weights_are : (vs : List ℕ) (parts : List (List Triple)) → HaveWeight vs parts → (chosen : List Triple) → IsChoice chosen parts → map weight chosen ≡ vs
weights_are [] [] have [] h = refl
weights_are [] [] have (t ∷ chosen) h = absurd h
weights_are [] (part ∷ parts) have chosen h = absurd have
weights_are (v ∷ vs) [] have chosen h = absurd have
weights_are (v ∷ vs) (part ∷ parts) have [] h = absurd h
weights_are (v ∷ vs) (part ∷ parts) have (t ∷ chosen) h = ap₂ (λ a b. a ∷ b) (have.0 t h.0) (weights_are vs parts have.1 chosen h.1)

weighs : (vs : List ℕ) (parts : List (List Triple)) → HaveWeight vs parts → (chosen : List Triple) (t : Triple) → IsChoice chosen parts → reduce join chosen ≡ Some t → t.weight ≡ sum vs
weighs vs parts have chosen t h joins = sym (weight-joined chosen t joins) ∙ ap sum (weights_are vs parts have chosen h)

near_by_width : (n total : ℕ) (t : Triple) → t.weight ≡ total → is_near n t ≡ is_near (n + total) (weightless t)
near_by_width n total t e =
    let same : n + t.weight ≡ n + total + 0 = omega (arith, e) in
    ap (λ far. nat_le (t.last - t.first + 1) far) same

-- ---- the law

module _ (n : ℕ) (ordered : Bool) (vs : List ℕ) (parts : List (List Triple)) (have : HaveWeight vs parts) (first last : ℕ) where
  to_width : HasInterval (near n ordered parts) first last → HasInterval (near (n + sum vs) ordered (map (map weightless) parts)) first last
  to_width h =
      let t : Triple = h.0 in
      let r = of_near n ordered parts t h.1 in
      let total = weighs vs parts have r.chosen t r.is_choice r.joins in (
        weightless t,
        to_near (n + sum vs) ordered (map (map weightless) parts) (weightless t) (record {
          chosen = map weightless r.chosen;
          is_choice = to_weightless r.chosen parts r.is_choice;
          is_ordered = ordered_weightless ordered r.chosen ∙ r.is_ordered;
          joins = joined_weightless r.chosen t r.joins;
          is_close = sym (near_by_width n (sum vs) t total) ∙ r.is_close;
        }),
        h.2,
        h.3,
      )

  some_same : (s t : Triple) → Some s ≡ Some t → s ≡ t
  some_same s t e = cc

  of_choice : (light : Triple) → light.first ≡ first → light.last ≡ last → (r : IsNear (n + sum vs) ordered (map (map weightless) parts) light) →
      (chosen : List Triple) → IsChoice chosen parts → r.chosen ≡ map weightless chosen → HasInterval (near n ordered parts) first last
  of_choice light e f r [] h same = let none : reduce join r.chosen ≡ reduce join [] = ap (reduce join) same in cc
  of_choice light e f r (x ∷ xs) h same =
      let t : Triple = fold join x xs in
      let is : weightless t ≡ light = some_same (weightless t) light (sym (ap Some (fold_weightless x xs)) ∙ sym (ap (reduce join) same) ∙ r.joins) in
      let total = weighs vs parts have (x ∷ xs) t h refl in (
        t,
        to_near n ordered parts t (record {
          chosen = x ∷ xs;
          is_choice = h;
          is_ordered = sym (ordered_weightless ordered (x ∷ xs)) ∙ ap (keeps_order ordered) (sym same) ∙ r.is_ordered;
          joins = refl;
          is_close = near_by_width n (sum vs) t total ∙ ap (is_near (n + sum vs)) is ∙ r.is_close;
        }),
        ap (λ (u : Triple). u.first) is ∙ e,
        ap (λ (u : Triple). u.last) is ∙ f,
      )

  of_width : HasInterval (near (n + sum vs) ordered (map (map weightless) parts)) first last → HasInterval (near n ordered parts) first last
  of_width h =
      let r = of_near (n + sum vs) ordered (map (map weightless) parts) h.0 h.1 in
      let c = of_weightless r.chosen parts r.is_choice in
      of_choice h.0 h.2 h.3 r c.0 c.1 c.2

pub width_counts_weights : WidthCountsWeights
width_counts_weights n ordered vs parts have first last = (to_width n ordered vs parts have first last, of_width n ordered vs parts have first last)
