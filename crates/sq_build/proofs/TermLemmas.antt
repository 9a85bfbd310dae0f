-- The terms of a property: sorted they rise strictly, since no token has two.
use Rattle.std.proofs.Common.{◌≡◌, ℕ, ◌<◌, true, List, [], ◌∷◌, length, map, get_or, refl, sym, ap, subst, ◌∙◌, arith, Some, String, string_bytes}
use Rattle.std.specs.Global.{Global}
use Rattle.std.specs.Str.{bytes_eq}
use Rattle.std.specs.String.{string_eq, string_eq_equiv}
use Rattle.std.specs.HashMap.{HashMap, get_by_text, IsUnique}
use Rattle.std.specs.List.{All, Contains}
use Rattle.std.specs.List.Sorted.{IsPermutation, IsSortedBy}
use Rattle.std.proofs.lemmas.Bool.Decides.{nat_tests}
use Rattle.std.proofs.lemmas.List.{get_or_default, get_or-map, length-map}
use Rattle.std.proofs.lemmas.List.Elements.{All-map, All-head, All-tail, Contains-get_or}
use Rattle.std.proofs.lemmas.List.Sorted.{All-permutation, IsPermutation-sym, sum_by-IsPermutation}
use Rattle.std.proofs.lemmas.Map.Entries.{place_from_lookup, hash_map_get_place}
use Rattle.std.proofs.lemmas.Option.{slice_get-get_or, slice_get_within, get_or_from_slice_get}
use Rattle.std.proofs.lemmas.Slice.Eq.{bytes_eq-Decides}
use Rattle.sq_postings.specs.Rising.{rises, term_before, text_before}
use Rattle.sq_postings.specs.declared.parts.Term.{Term}
use Rattle.sq_build.specs.Terms.{term_of, by_token, token_of, IsTermOf, HasToken}
use Rattle.sq_build.proofs.KeyLemmas.{has, times, once, keys_rise}
use Rattle.sq_build.proofs.TestLemmas.{both_true, first_true, second_true}

same_property : (y z : Term) (property : ℕ) → y.property ≡ property → z.property ≡ property → text_before y.token z.token ≡ true → term_before y z ≡ true
same_property y z property p q up = grind (arith, nat_tests)

one_property : (property : ℕ) (terms : List Term) → All (λ term. term.property ≡ property) terms → rises by_token terms ≡ true → rises term_before terms ≡ true
one_property property [] own up = refl
one_property property (y ∷ []) own up = refl
one_property property (y ∷ (z ∷ zs)) own up =
    let later = All-tail (λ term. term.property ≡ property) y (z ∷ zs) own in
    both_true (term_before y z) _
    (same_property y z property (All-head (λ term. term.property ≡ property) y (z ∷ zs) own) (All-head (λ term. term.property ≡ property) z zs later) (first_true (by_token y z) _ up))
    (one_property property (z ∷ zs) later (second_true (by_token y z) _ up))

-- ---- the terms of a map

pub sorted_rise : {S : Type 0} (property : ℕ) (ids : HashMap (String Global) ℕ S) (terms sorted : List Term) → IsUnique string_eq ids → terms ≡ map (term_of property) ids.entries
    → IsPermutation terms sorted → IsSortedBy by_token sorted → rises term_before sorted ≡ true
sorted_rise property ids terms sorted unique is moved up =
    one_property property sorted
    (All-permutation (λ term. term.property ≡ property) terms sorted moved
    (subst (All (λ term. term.property ≡ property)) (sym is) (All-map (λ term. term.property ≡ property) (term_of property) ids.entries (λ k d l. refl))))
    (keys_rise token_of sorted
    (λ token. omega (arith, once (term_of property) token_of (λ e. refl) token ids.entries unique, ap (times token_of token) is, sum_by-IsPermutation (has token_of token) terms sorted moved))
    up)

pub sorted_lists : {S : Type 0} (property : ℕ) (ids : HashMap (String Global) ℕ S) (terms sorted : List Term) → IsUnique string_eq ids → terms ≡ map (term_of property) ids.entries
    → IsPermutation terms sorted → All (IsTermOf property (get_by_text ids)) sorted
sorted_lists property ids terms sorted unique is moved =
    All-permutation (IsTermOf property (get_by_text ids)) terms sorted moved
    (subst (All (IsTermOf property (get_by_text ids))) (sym is) (All-map (IsTermOf property (get_by_text ids)) (term_of property) ids.entries (λ k d l. record {
      property_is = refl;
      list_is = hash_map_get_place string_eq_equiv ids k (get_or ids.entries k d).0 (get_or ids.entries k d).1 unique (slice_get-get_or ids.entries k d l);
    })))

pub sorted_whole : {S : Type 0} (property : ℕ) (ids : HashMap (String Global) ℕ S) (terms sorted : List Term) → terms ≡ map (term_of property) ids.entries
    → IsPermutation terms sorted → (token : List ℕ) (id : ℕ) → get_by_text ids token ≡ Some id → HasToken sorted token
sorted_whole property ids terms sorted is moved token id found =
    let place = place_from_lookup (λ k. bytes_eq token (string_bytes k)) ids.entries id found in
    let same : string_bytes place.1 ≡ token = sym ((bytes_eq-Decides token (string_bytes place.1)).0 place.3) in
    let among : All (Contains sorted) (map (term_of property) ids.entries) =
    subst (All (Contains sorted)) is (All-permutation (Contains sorted) sorted terms (IsPermutation-sym terms sorted moved) (λ k d l. Contains-get_or sorted k d l)) in
    let there : Contains sorted (term_of property (place.1, id)) =
    subst (λ e. Contains sorted (term_of property e)) (get_or_from_slice_get ids.entries place.0 (place.1, id) (place.1, id) place.2)
    (subst (Contains sorted) (mapped place.0 (place.1, id) (slice_get_within ids.entries place.0 (place.1, id) place.2))
    (among place.0 (term_of property (place.1, id)) (inside place.0 (slice_get_within ids.entries place.0 (place.1, id) place.2)))) in
    (there.0, there.1, λ d. ap token_of (get_or_default sorted there.0 d (term_of property (place.1, id)) there.1 ∙ there.2) ∙ same)
  where
    inside : (i : ℕ) → i < length ids.entries → i < length (map (term_of property) ids.entries)
    inside i l = subst (λ n. i < n) (sym (length-map ids.entries (term_of property))) l

    mapped : (i : ℕ) (d : String Global × ℕ) → i < length ids.entries → get_or (map (term_of property) ids.entries) i (term_of property d) ≡ term_of property (get_or ids.entries i d)
    mapped i d l = get_or-map (term_of property) ids.entries i d (term_of property d) l
