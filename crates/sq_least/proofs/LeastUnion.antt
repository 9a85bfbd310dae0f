-- A union of least matches.
use Rattle.std.proofs.Common.{inl, inr, List, [], ◌∷◌}
use Rattle.sq_model.specs.Lists.{joined}
use Rattle.sq_model.specs.declared.triple.Triple.{Triple}
use Rattle.sq_model.proofs.Members.{IsIn, in_append, in_append_left, in_append_right}
use Rattle.sq_least.specs.Laws.{Inside, AreLeast, LeastOfUnion}
use Rattle.sq_least.proofs.LeastNear.{inside_chain, least_of}

of_few : (parts fews : List (List Triple)) → AreLeast fews parts → (t : Triple) → IsIn t (joined fews) → IsIn t (joined parts)
of_few [] [] are t h = h
of_few [] (few ∷ fews) are t h = absurd are
of_few (part ∷ parts) [] are t h = absurd are
of_few (part ∷ parts) (few ∷ fews) are t h = elim (in_append t few (joined fews) h) [
  | inl k ↦ in_append_left t part (joined parts) ((are.0 t).0 k).here
  | inr k ↦ in_append_right t part (joined parts) (of_few parts fews are.1 t k)
]

few_inside : (parts fews : List (List Triple)) → AreLeast fews parts → (t : Triple) → IsIn t (joined parts) → (s : Triple) × IsIn s (joined fews) × Inside s t
few_inside [] [] are t h = absurd h
few_inside [] (few ∷ fews) are t h = absurd are
few_inside (part ∷ parts) [] are t h = absurd are
few_inside (part ∷ parts) (few ∷ fews) are t h = elim (in_append t part (joined parts) h) [
  | inl k ↦ (let u = least_of part t k in (u.0, in_append_left u.0 few (joined fews) ((are.0 u.0).1 u.1), u.2))
  | inr k ↦ (let s = few_inside parts fews are.1 t k in (s.0, in_append_right s.0 few (joined fews) s.1, s.2))
]

to_few : (parts fews : List (List Triple)) → AreLeast fews parts → (t : Triple) → IsIn t (joined parts) → ((u : Triple) → IsIn u (joined parts) → Inside u t → Inside t u) →
    IsIn t (joined fews)
to_few [] [] are t h least = h
to_few [] (few ∷ fews) are t h least = absurd are
to_few (part ∷ parts) [] are t h least = absurd are
to_few (part ∷ parts) (few ∷ fews) are t h least = elim (in_append t part (joined parts) h) [
  | inl k ↦ in_append_left t few (joined fews) ((are.0 t).1 (record { here = k; least = λ u i w. least u (in_append_left u part (joined parts) i) w }))
  | inr k ↦ in_append_right t few (joined fews) (to_few parts fews are.1 t k (λ u i w. least u (in_append_right u part (joined parts) i) w))
]

pub least_of_union : LeastOfUnion
least_of_union parts fews are t = (
  (λ h. record { here = to_few parts fews are t h.here h.least; least = λ u k w. h.least u (of_few parts fews are u k) w }),
  (λ h. record {
    here = of_few parts fews are t h.here;
    least = λ u k w. let s = few_inside parts fews are u k in
        inside_chain t s.0 u (h.least s.0 s.1 (inside_chain s.0 u t s.2 w)) s.2;
  }),
)
