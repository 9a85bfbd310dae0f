-- Enough matches: what keeps them enough.
use Rattle.std.proofs.Common.{◌≡◌, inl, inr, Bool, true, false, not, ◌&&◌, ◌||◌, List, [], ◌∷◌, refl, ◌∙◌, ap, ap₂, subst, arith}
use Rattle.std.specs.Prelude.{nat_le}
use Rattle.std.specs.List.{list_all}
use Rattle.std.proofs.lemmas.Bool.{leb-true, le-leb}
use Rattle.sq_model.specs.Lists.{joined}
use Rattle.sq_least.specs.Dense.{Within, Dense, EachDense, DenseChain, LeastOfDense, DenseUnion, DenseNear}
use Rattle.sq_least.specs.Laws.{Inside, IsLeast, HasOneWeight}
use Rattle.sq_least.specs.Plan.{lies_inside, least}
use Rattle.sq_model.specs.declared.triple.Triple.{Triple}
use Rattle.sq_model.proofs.Members.{IsIn, in_append, in_append_left, in_append_right, to_filter, of_filter}
use Rattle.sq_model.proofs.Choices.{IsChoice, to_near, of_near}
use Rattle.sq_least.proofs.LeastNear.{EachWithin, inside_chain, inside_same, least_of, joined_within, ordered_within, near_within, same_triple}

within_chain : (s t u : Triple) → Within s t → Within t u → Within s u
within_chain s t u h k = (inside_chain s t u h.0 k.0, h.1 ∙ k.1)

pub dense_same : (matches : List Triple) → Dense matches matches
dense_same matches = record { some = λ t h. h; below = λ t h. (t, h, (inside_same t, refl)) }

pub dense_chain : DenseChain
dense_chain a b c h k = record {
  some = λ t i. h.some t (k.some t i);
  below = λ t i. let s = h.below t i in let u = k.below s.0 s.1 in (u.0, u.1, within_chain u.0 s.0 t u.2 s.2);
}

-- dense lists have the same least matches
pub least_of_dense : LeastOfDense
least_of_dense matches few one dense t = (
  (λ h. let s = dense.below t h.here in
      let back = h.least s.0 (dense.some s.0 s.1) s.2.0 in
      let same : s.0 ≡ t = same_triple s.0 t (omega (arith, s.2.0.0, back.0)) (omega (arith, s.2.0.1, back.1)) s.2.1 in
      let P : Triple → Type 0 = λ v. IsIn v few in
      record { here = subst P same s.1; least = λ u k w. h.least u (dense.some u k) w }),
  (λ h. record {
    here = dense.some t h.here;
    least = λ u k w. let s = dense.below u k in
        inside_chain t s.0 u (h.least s.0 s.1 (inside_chain s.0 u t s.2.0 w)) s.2.0;
  }),
)

-- ---- least, as a list

test_of_inside : (t u : Triple) → Inside t u → lies_inside t u ≡ true
test_of_inside t u h = ap₂ (λ a b. a && b) (le-leb u.first t.first h.0) (le-leb t.last u.last h.1)

two_true : (a b : Bool) → (a && b) ≡ true → (a ≡ true) × (b ≡ true)
two_true true b e = (refl, e)
two_true false b e = cc

inside_of_test : (t u : Triple) → lies_inside t u ≡ true → Inside t u
inside_of_test t u e =
    let h = two_true (nat_le u.first t.first) (nat_le t.last u.last) e in
    (leb-true u.first t.first h.0, leb-true t.last u.last h.1)

all_of : {X : Type 0} (p : X → Bool) (xs : List X) → ((x : X) → IsIn x xs → p x ≡ true) → list_all p xs ≡ true
all_of p [] h = refl
all_of p (x ∷ xs) h = ap₂ (λ a b. a && b) (h x (inl refl)) (all_of p xs (λ y k. h y (inr k)))

each_of : {X : Type 0} (p : X → Bool) (xs : List X) → list_all p xs ≡ true → (x : X) → IsIn x xs → p x ≡ true
each_of p [] e x k = absurd k
each_of p (y ∷ xs) e x (inl q) = ap p q ∙ (two_true (p y) (list_all p xs) e).0
each_of p (y ∷ xs) e x (inr k) = each_of p xs (two_true (p y) (list_all p xs) e).1 x k

implied : (a b : Bool) → (a ≡ true → b ≡ true) → (not a || b) ≡ true
implied true b h = h refl
implied false b h = refl

follows : (a b : Bool) → (not a || b) ≡ true → a ≡ true → b ≡ true
follows true b e h = e
follows false b e h = cc

pub to_least : (matches : List Triple) (t : Triple) → IsLeast matches t → IsIn t (least matches)
to_least matches t h =
    to_filter (λ t. list_all (λ u. not (lies_inside u t) || lies_inside t u) matches) t matches h.here
    (all_of (λ u. not (lies_inside u t) || lies_inside t u) matches
    (λ u k. implied (lies_inside u t) (lies_inside t u) (λ e. test_of_inside t u (h.least u k (inside_of_test u t e)))))

pub of_least : (matches : List Triple) (t : Triple) → IsIn t (least matches) → IsLeast matches t
of_least matches t h =
    let r = of_filter (λ t. list_all (λ u. not (lies_inside u t) || lies_inside t u) matches) t matches h in
    record {
      here = r.0;
      least = λ u k w. inside_of_test t u (follows (lies_inside u t) (lies_inside t u)
          (each_of (λ u. not (lies_inside u t) || lies_inside t u) matches r.1 u k) (test_of_inside u t w));
    }

pub dense_least : (matches : List Triple) → HasOneWeight matches → Dense matches (least matches)
dense_least matches one = record {
  some = λ t h. (of_least matches t h).here;
  below = λ t h. let u = least_of matches t h in (u.0, to_least matches u.0 u.1, (u.2, one u.0 t u.1.here h));
}

-- ---- unions

some_of_joined : (parts fews : List (List Triple)) → EachDense parts fews → (t : Triple) → IsIn t (joined fews) → IsIn t (joined parts)
some_of_joined [] [] d t h = h
some_of_joined [] (few ∷ fews) d t h = absurd d
some_of_joined (part ∷ parts) [] d t h = absurd d
some_of_joined (part ∷ parts) (few ∷ fews) d t h = elim (in_append t few (joined fews) h) [
  | inl k ↦ in_append_left t part (joined parts) (d.0.some t k)
  | inr k ↦ in_append_right t part (joined parts) (some_of_joined parts fews d.1 t k)
]

below_joined : (parts fews : List (List Triple)) → EachDense parts fews → (t : Triple) → IsIn t (joined parts) → (s : Triple) × IsIn s (joined fews) × Within s t
below_joined [] [] d t h = absurd h
below_joined [] (few ∷ fews) d t h = absurd d
below_joined (part ∷ parts) [] d t h = absurd d
below_joined (part ∷ parts) (few ∷ fews) d t h = elim (in_append t part (joined parts) h) [
  | inl k ↦ (let s = d.0.below t k in (s.0, in_append_left s.0 few (joined fews) s.1, s.2))
  | inr k ↦ (let s = below_joined parts fews d.1 t k in (s.0, in_append_right s.0 few (joined fews) s.1, s.2))
]

pub dense_union : DenseUnion
dense_union parts fews d = record { some = some_of_joined parts fews d; below = below_joined parts fews d }

-- ---- nears

more_choice : (chosen : List Triple) (parts fews : List (List Triple)) → EachDense parts fews → IsChoice chosen fews → IsChoice chosen parts
more_choice [] [] [] d h = tt
more_choice [] (part ∷ parts) [] d h = absurd d
more_choice [] parts (few ∷ fews) d h = absurd h
more_choice (t ∷ chosen) parts [] d h = absurd h
more_choice (t ∷ chosen) [] (few ∷ fews) d h = absurd d
more_choice (t ∷ chosen) (part ∷ parts) (few ∷ fews) d h = (d.0.some t h.0, more_choice chosen parts fews d.1 h.1)

small_choice : (chosen : List Triple) (parts fews : List (List Triple)) → EachDense parts fews → IsChoice chosen parts → (small : List Triple) × IsChoice small fews × EachWithin small chosen
small_choice [] [] [] d h = ([], tt, tt)
small_choice [] [] (few ∷ fews) d h = absurd d
small_choice [] (part ∷ parts) fews d h = absurd h
small_choice (t ∷ chosen) [] fews d h = absurd h
small_choice (t ∷ chosen) (part ∷ parts) [] d h = absurd d
small_choice (t ∷ chosen) (part ∷ parts) (few ∷ fews) d h =
    let s = d.0.below t h.0 in
    let rest = small_choice chosen parts fews d.1 h.1 in
    (s.0 ∷ rest.0, (s.1, rest.1), (s.2, rest.2))

pub dense_near : DenseNear
dense_near n ordered parts fews d = record {
  some = λ t h. let r = of_near n ordered fews t h in
      to_near n ordered parts t (record { chosen = r.chosen; is_choice = more_choice r.chosen parts fews d r.is_choice; is_ordered = r.is_ordered; joins = r.joins; is_close = r.is_close });
  below = λ t h. let r = of_near n ordered parts t h in
      let c = small_choice r.chosen parts fews d r.is_choice in
      let j = joined_within c.0 r.chosen t c.2 r.joins in
      (j.0, to_near n ordered fews j.0 (record { chosen = c.0; is_choice = c.1; is_ordered = ordered_within ordered c.0 r.chosen c.2 r.is_ordered; joins = j.1; is_close = near_within n j.0 t j.2 r.is_close }), j.2);
}
