-- A near of least matches.
use Rattle.std.proofs.Common.{◌≡◌, ◌⊎◌, inl, inr, ℕ, ◌+◌, ◌-◌, ◌<◌, ◌≤◌, Bool, true, false, ◌&&◌, List, [], ◌∷◌, refl, sym, ap₂, Some, subst, arith}
use Rattle.std.specs.Prelude.{nat_lt, nat_le}
use Rattle.std.specs.List.{fold, reduce}
use Rattle.std.proofs.lemmas.Bool.{ltb-true, lt-ltb, leb-true, le-leb}
use Rattle.sq_least.specs.Dense.{Within}
use Rattle.sq_least.specs.Laws.{Inside, IsLeast, LeastInside, AreLeast, OneWeightEach, NearOfLeast}
use Rattle.sq_model.proofs.Members.{IsIn}
use Rattle.sq_model.specs.Triples.{join, rises, keeps_order, is_near, near}
use Rattle.sq_model.specs.declared.triple.Triple.{Triple}
use Rattle.sq_model.proofs.Choices.{IsChoice, to_near, of_near}

-- ---- each match has a least one inside

by_test : (a b : ℕ) (test : Bool) → nat_le a b ≡ test → (a ≤ b) ⊎ (b < a)
by_test a b true e = inl (leb-true a b e)
by_test a b false e = inr (grind arith)

le_or_lt : (a b : ℕ) → (a ≤ b) ⊎ (b < a)
le_or_lt a b = by_test a b (nat_le a b) refl

no_both : (a b : ℕ) → b < a → a ≤ b → ⊥
no_both a b h k = omega arith

inside_or_not : (t u : Triple) → Inside t u ⊎ (Inside t u → ⊥)
inside_or_not t u = elim (le_or_lt u.first t.first) [
  | inl a ↦ elim (le_or_lt t.last u.last) [ inl b ↦ inl (a, b) | inr n ↦ inr (λ h. no_both t.last u.last n h.1) ]
  | inr n ↦ inr (λ h. no_both u.first t.first n h.0)
]

pub inside_chain : (s t u : Triple) → Inside s t → Inside t u → Inside s u
inside_chain s t u h k = (omega (arith, h.0, k.0), omega (arith, h.1, k.1))

pub inside_same : (t : Triple) → Inside t t
inside_same t = (omega arith, omega arith)

record HasLeast (matches : List Triple) (t : Triple) : Type 0 where
  found : Triple
  is_in : (found ≡ t) ⊎ IsIn found matches
  inside : Inside found t
  least : (u : Triple) → IsIn u matches → Inside u found → Inside found u

least_below : (matches : List Triple) (t : Triple) → HasLeast matches t
least_below [] t = record { found = t; is_in = inl refl; inside = inside_same t; least = λ u h. absurd h }
least_below (m ∷ matches) t = elim (inside_or_not m t) [
  | inl h ↦ (let r = least_below matches m in record {
    found = r.found;
    is_in = inr (elim r.is_in [ inl e ↦ inl e | inr k ↦ inr k ]);
    inside = inside_chain r.found m t r.inside h;
    least = λ u k w. elim k [ inl e ↦ (let P : Triple → Type 0 = λ v. Inside r.found v in subst P (sym e) r.inside) | inr k ↦ r.least u k w ];
  })
  | inr n ↦ (let r = least_below matches t in record {
    found = r.found;
    is_in = elim r.is_in [ inl e ↦ inl e | inr k ↦ inr (inr k) ];
    inside = r.inside;
    least = λ u k w. elim k [
      | inl e ↦ absurd (n (inside_chain m r.found t (let P : Triple → Type 0 = λ v. Inside v r.found in subst P e w) r.inside))
      | inr k ↦ r.least u k w
    ];
  })
]

pub least_of : (matches : List Triple) (t : Triple) → IsIn t matches → (u : Triple) × IsLeast matches u × Inside u t
least_of matches t h =
    let r = least_below matches t in
    let P : Triple → Type 0 = λ v. IsIn v matches in
    (r.found, record { here = elim r.is_in [ inl e ↦ subst P (sym e) h | inr k ↦ k ]; least = r.least }, r.inside)

pub least_inside : LeastInside
least_inside = least_of

-- ---- a choice of least matches inside a choice

-- each lies inside the other list's at its place, and weighs the same
abbrev pub EachWithin : List Triple → List Triple → Type 0
EachWithin [] [] = Unit {0}
EachWithin [] (t ∷ ts) = ⊥
EachWithin (s ∷ ss) [] = ⊥
EachWithin (s ∷ ss) (t ∷ ts) = Within s t × EachWithin ss ts

least_choice : (chosen : List Triple) (parts fews : List (List Triple)) → OneWeightEach parts → AreLeast fews parts → IsChoice chosen parts →
    (small : List Triple) × IsChoice small fews × EachWithin small chosen
least_choice [] [] [] one are h = ([], tt, tt)
least_choice [] [] (few ∷ fews) one are h = absurd are
least_choice [] (part ∷ parts) fews one are h = absurd h
least_choice (t ∷ chosen) [] fews one are h = absurd h
least_choice (t ∷ chosen) (part ∷ parts) [] one are h = absurd are
least_choice (t ∷ chosen) (part ∷ parts) (few ∷ fews) one are h =
    let u = least_of part t h.0 in
    let rest = least_choice chosen parts fews one.1 are.1 h.1 in
    (u.0 ∷ rest.0, ((are.0 u.0).1 u.1, rest.1), ((u.2, one.0 u.0 t u.1.here h.0), rest.2))

less_choice : (chosen : List Triple) (parts fews : List (List Triple)) → AreLeast fews parts → IsChoice chosen fews → IsChoice chosen parts
less_choice [] [] [] are h = tt
less_choice [] (part ∷ parts) [] are h = absurd are
less_choice [] parts (few ∷ fews) are h = absurd h
less_choice (t ∷ chosen) parts [] are h = absurd h
less_choice (t ∷ chosen) [] (few ∷ fews) are h = absurd are
less_choice (t ∷ chosen) (part ∷ parts) (few ∷ fews) are h = (((are.0 t).0 h.0).here, less_choice chosen parts fews are.1 h.1)

-- ---- what it makes lies inside, too

join_within : (s t u v : Triple) → Within s t → Within u v → Within (join s u) (join t v)
join_within s t u v h k = ((omega (arith, h.0.0, k.0.0), omega (arith, h.0.1, k.0.1)), omega (arith, h.1, k.1))

fold_within : (s t : Triple) (ss ts : List Triple) → Within s t → EachWithin ss ts → Within (fold join s ss) (fold join t ts)
fold_within s t [] [] h k = h
fold_within s t [] (v ∷ ts) h k = absurd k
fold_within s t (u ∷ ss) [] h k = absurd k
fold_within s t (u ∷ ss) (v ∷ ts) h k = fold_within (join s u) (join t v) ss ts (join_within s t u v h k.0) k.1

pub joined_within : (small chosen : List Triple) (t : Triple) → EachWithin small chosen → reduce join chosen ≡ Some t → (s : Triple) × (reduce join small ≡ Some s) × Within s t
joined_within [] [] t w e = cc
joined_within [] (c ∷ chosen) t w e = absurd w
joined_within (s ∷ small) [] t w e = absurd w
joined_within (s ∷ small) (c ∷ chosen) t w e =
    let whole : fold join c chosen ≡ t = cc in
    let P : Triple → Type 0 = λ v. Within (fold join s small) v in
    (fold join s small, refl, subst P whole (fold_within s c small chosen w.0 w.1))

both_true : (a b : Bool) → (a && b) ≡ true → (a ≡ true) × (b ≡ true)
both_true true b e = (refl, e)
both_true false b e = cc

and_of : (a b : Bool) → a ≡ true → b ≡ true → (a && b) ≡ true
and_of a b p q = ap₂ (λ x y. x && y) p q

rises_within : (small chosen : List Triple) → EachWithin small chosen → rises chosen ≡ true → rises small ≡ true
rises_within [] chosen w e = refl
rises_within (s ∷ []) chosen w e = refl
rises_within (s ∷ u ∷ small) [] w e = absurd w
rises_within (s ∷ u ∷ small) (t ∷ []) w e = absurd w.1
rises_within (s ∷ u ∷ small) (t ∷ v ∷ chosen) w e =
    let h = both_true (nat_lt t.last v.first) (rises (v ∷ chosen)) e in
    let apart : t.last < v.first = ltb-true t.last v.first h.0 in
    let closer : s.last < u.first = omega (arith, w.0.0.1, w.1.0.0.0) in
    and_of (nat_lt s.last u.first) (rises (u ∷ small)) (lt-ltb s.last u.first closer) (rises_within (u ∷ small) (v ∷ chosen) w.1 h.1)

pub ordered_within : (ordered : Bool) (small chosen : List Triple) → EachWithin small chosen → keeps_order ordered chosen ≡ true → keeps_order ordered small ≡ true
ordered_within false small chosen w e = refl
ordered_within true small chosen w e = rises_within small chosen w e

pub near_within : (n : ℕ) (s t : Triple) → Within s t → is_near n t ≡ true → is_near n s ≡ true
near_within n s t w e =
    let far : t.last - t.first + 1 ≤ n + t.weight = leb-true (t.last - t.first + 1) (n + t.weight) e in
    le-leb (s.last - s.first + 1) (n + s.weight) (omega (arith, w.0.0, w.0.1, w.1))

-- ---- the law

module _ (n : ℕ) (ordered : Bool) (parts fews : List (List Triple)) (are : AreLeast fews parts) where
  fewer : (t : Triple) → IsIn t (near n ordered fews) → IsIn t (near n ordered parts)
  fewer t h =
      let r = of_near n ordered fews t h in
      to_near n ordered parts t (record { chosen = r.chosen; is_choice = less_choice r.chosen parts fews are r.is_choice; is_ordered = r.is_ordered; joins = r.joins; is_close = r.is_close })

  enough : OneWeightEach parts → (t : Triple) → IsIn t (near n ordered parts) → (s : Triple) × IsIn s (near n ordered fews) × Within s t
  enough one t h =
      let r = of_near n ordered parts t h in
      let c = least_choice r.chosen parts fews one are r.is_choice in
      let j = joined_within c.0 r.chosen t c.2 r.joins in
      (j.0, to_near n ordered fews j.0 (record { chosen = c.0; is_choice = c.1; is_ordered = ordered_within ordered c.0 r.chosen c.2 r.is_ordered; joins = j.1; is_close = near_within n j.0 t j.2 r.is_close }), j.2)

pub same_triple : (s t : Triple) → s.first ≡ t.first → s.last ≡ t.last → s.weight ≡ t.weight → s ≡ t
same_triple s t a b c = λ i. record { first = a i; last = b i; weight = c i }

pub near_of_least : NearOfLeast
near_of_least n ordered parts fews one are t = (
  (λ h. let s = enough n ordered parts fews are one t h.here in
      let back = h.least s.0 (fewer n ordered parts fews are s.0 s.1) s.2.0 in
      let same : s.0 ≡ t = same_triple s.0 t (omega (arith, s.2.0.0, back.0)) (omega (arith, s.2.0.1, back.1)) s.2.1 in
      let P : Triple → Type 0 = λ v. IsIn v (near n ordered fews) in
      record { here = subst P same s.1; least = λ u k w. h.least u (fewer n ordered parts fews are u k) w }),
  (λ h. record {
    here = fewer n ordered parts fews are t h.here;
    least = λ u k w. let s = enough n ordered parts fews are one u k in
        inside_chain t s.0 u (h.least s.0 s.1 (inside_chain s.0 u t s.2.0 w)) s.2.0;
  }),
)
