-- The lists of an index are those of its terms.
use Rattle.std.proofs.Common.{◌≡◌, ℕ, zero, suc, ◌<◌, List, [], ◌∷◌, length, map, get_or, refl, sym, ap, ◌∙◌, arith}
use Rattle.std.proofs.lemmas.List.{length-map}
use Rattle.sq_coded.specs.declared.posting.Posting.{Posting}
use Rattle.sq_postings.specs.Indexed.{TermList, list_of, indexed, list_at, is_list_of, AreListsOf}
use Rattle.sq_postings.specs.Searched.{AreFound}
use Rattle.sq_postings.specs.declared.parts.Term.{Term}
use Rattle.sq_postings.specs.declared.parts.Parts.{Parts}

list_in : (lists : List (List Posting)) (terms : List Term) (i : ℕ) (d : TermList) (e : Term) → i < length terms → get_or (map (list_of lists) terms) i d ≡ list_of lists (get_or terms i e)
list_in lists [] i d e l = absurd (omega (arith, l))
list_in lists (t ∷ terms) zero d e l = refl
list_in lists (t ∷ terms) (suc i) d e l = list_in lists terms i d e (omega (arith, l))

no_term : Term
no_term = record { property = 0; token = []; list = 0 }

pub list_there : (parts : Parts) (i : ℕ) (e : Term) → i < length parts.terms → list_at (indexed parts) i ≡ list_of parts.lists (get_or parts.terms i e)
list_there parts i e l = list_in parts.lists parts.terms i (record { property = 0; token = []; postings = [] }) e l

pub lists_many : (parts : Parts) → length (indexed parts).lists ≡ length parts.terms
lists_many parts = length-map parts.terms (list_of parts.lists)

-- the lists that fit are those of the terms that do
pub lists_found : (parts : Parts) (property : ℕ) (wanted : List ℕ) (prefixed : _) (start end : ℕ) → AreFound parts.terms property wanted prefixed start end → AreListsOf (indexed parts) property wanted prefixed start end
lists_found parts property wanted prefixed start end found = record {
  ordered = found.ordered;
  within = omega (arith, found.within, lists_many parts);
  inside = λ i l m.
      let below : i < length parts.terms = omega (arith, m, found.within) in
      ap (is_list_of property wanted prefixed) (list_there parts i no_term below) ∙ found.inside i no_term l m;
  outside = λ i l fit.
      let below : i < length parts.terms = omega (arith, l, lists_many parts) in
      found.outside i no_term below (ap (is_list_of property wanted prefixed) (sym (list_there parts i no_term below)) ∙ fit);
}
