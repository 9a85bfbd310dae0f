-- A near as a relation: there is a choice of one match of each part.
use Rattle.std.proofs.Common.{◌≡◌, inl, inr, ℕ, Bool, true, List, [], ◌∷◌, map, refl, sym, Some, subst}
use Rattle.std.specs.List.{filter, filter_map, reduce}
use Rattle.sq_model.specs.Triples.{join, choices, keeps_order, is_near, near}
use Rattle.sq_model.specs.declared.triple.Triple.{Triple}
use Rattle.sq_model.proofs.Members.{IsIn, to_filter, of_filter, to_map, of_map, to_flat_map, of_flat_map, to_filter_map, of_filter_map}

-- one of each list, in order
abbrev pub IsChoice : {X : Type 0} → List X → List (List X) → Type 0
IsChoice [] [] = Unit {0}
IsChoice [] (xs ∷ rest) = ⊥
IsChoice (x ∷ chosen) [] = ⊥
IsChoice (x ∷ chosen) (xs ∷ rest) = IsIn x xs × IsChoice chosen rest

module _ {X : Type 0} where
  pub to_choices : (chosen : List X) (lists : List (List X)) → IsChoice chosen lists → IsIn chosen (choices lists)
  to_choices [] [] h = inl refl
  to_choices [] (xs ∷ rest) h = absurd h
  to_choices (x ∷ chosen) [] h = absurd h
  to_choices (x ∷ chosen) (xs ∷ rest) h =
      to_flat_map (λ x. map (λ c. x ∷ c) (choices rest)) (x ∷ chosen) x xs h.0 (to_map (λ c. x ∷ c) chosen (choices rest) (to_choices chosen rest h.1))

  pub of_choices : (chosen : List X) (lists : List (List X)) → IsIn chosen (choices lists) → IsChoice chosen lists
  of_choices chosen [] (inl p) = subst (λ c. IsChoice c []) (sym p) tt
  of_choices chosen [] (inr h) = absurd h
  of_choices chosen (xs ∷ rest) h =
      let r = of_flat_map (λ x. map (λ c. x ∷ c) (choices rest)) chosen xs h in
      let s = of_map (λ c. r.0 ∷ c) chosen (choices rest) r.2 in
      subst (λ c. IsChoice c (xs ∷ rest)) (sym s.2) (r.1, of_choices s.0 rest s.1)

-- t is the match that a choice of one match of each part makes
pub record IsNear (n : ℕ) (ordered : Bool) (parts : List (List Triple)) (t : Triple) : Type 0 where
  pub chosen : List Triple
  pub is_choice : IsChoice chosen parts
  pub is_ordered : keeps_order ordered chosen ≡ true
  pub joins : reduce join chosen ≡ Some t
  pub is_close : is_near n t ≡ true

pub to_near : (n : ℕ) (ordered : Bool) (parts : List (List Triple)) (t : Triple) → IsNear n ordered parts t → IsIn t (near n ordered parts)
to_near n ordered parts t h =
    to_filter (is_near n) t _
    (to_filter_map (reduce join) t h.chosen _ (to_filter (keeps_order ordered) h.chosen _ (to_choices h.chosen parts h.is_choice) h.is_ordered) h.joins)
    h.is_close

pub of_near : (n : ℕ) (ordered : Bool) (parts : List (List Triple)) (t : Triple) → IsIn t (near n ordered parts) → IsNear n ordered parts t
of_near n ordered parts t h =
    let r = of_filter (is_near n) t (filter_map (reduce join) (filter (keeps_order ordered) (choices parts))) h in
    let s = of_filter_map (reduce join) t (filter (keeps_order ordered) (choices parts)) r.0 in
    let u = of_filter (keeps_order ordered) s.0 (choices parts) s.1 in
    record { chosen = s.0; is_choice = of_choices s.0 parts u.0; is_ordered = u.1; joins = s.2; is_close = r.1 }
