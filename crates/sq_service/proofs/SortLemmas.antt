-- The sorts of a request and the keys of a hit.
use Rattle.std.proofs.Common.{◌≡◌, ℕ, ℤ, ◌+◌, ◌<◌, ◌≤◌, Bool, true, false, cond, List, [], ◌∷◌, ◌++◌, length, map, take, drop, get_or, option_to_list, Option, Some, None, Result, Ok, Err, refl, ap, sym, ◌∙◌, append_assoc, arith}
use Rattle.std.specs.Prelude.{int_lt, slice_get, option_map}
use Rattle.std.proofs.lemmas.List.{at_drop_more}
use Rattle.sq_schema.specs.declared.property.Property.{Property}
use Rattle.sq_model.specs.declared.corpus.Value.{Value}
use Rattle.sq_packet.specs.declared.request.Direction.{Direction}
use Rattle.sq_packet.specs.declared.request.Direction.TheVariants.{Ascending, Descending}
use Rattle.sq_packet.specs.declared.request.SortSpec.{SortSpec}
use Rattle.sq_ranking.specs.Keys as ranking
use Rattle.sq_ranking.specs.declared.keys.SortKeys.{SortKeys}
use Rattle.sq_engine.specs.Answer.{SortKey, key_of, key_among, least, greatest}
use Rattle.sq_engine.specs.Verdict.{key_named, onto_key, sort_keys}
use Rattle.sq_service.specs.declared.sorts.Sort.{Sort}
use Rattle.sq_service.specs.Sorts.{sort_of}

-- what is known of the sorts before, in front of what the others go by
abbrev pub behind : List (SortKey × Direction) → Result (List (SortKey × Direction)) ℕ → Result (List (SortKey × Direction)) ℕ
behind before (Ok keys) = Ok (before ++ keys)
behind before (Err i) = Err i

-- the key for the sort at a place, if there is one
abbrev pub key_in : ℤ → List Value → Option Sort → Option ℤ
key_in score values None = None
key_in score values (Some sort) = key_of score values (sort_of sort)

abbrev pub keys_in : ℤ → List Value → List Sort → SortKeys
keys_in score values sorts = record {
  first = key_in score values (slice_get sorts 0);
  second = key_in score values (slice_get sorts 1);
  third = key_in score values (slice_get sorts 2);
  fourth = key_in score values (slice_get sorts 3);
}

-- as far as there are sorts, the keys are those that are asked for
pub alike_keys : (score : ℤ) (values : List Value) (sorts : List Sort) → length sorts ≤ 4
    → take (length (map (λ sort. sort.1) (map sort_of sorts))) (ranking.keys_of (keys_in score values sorts))
    ≡ take (length (map (λ sort. sort.1) (map sort_of sorts))) (map (key_of score values) (map sort_of sorts))
alike_keys score values [] few = refl
alike_keys score values (a ∷ []) few = refl
alike_keys score values (a ∷ (b ∷ [])) few = refl
alike_keys score values (a ∷ (b ∷ (c ∷ []))) few = refl
alike_keys score values (a ∷ (b ∷ (c ∷ (d ∷ [])))) few = refl
alike_keys score values (a ∷ (b ∷ (c ∷ (d ∷ (e ∷ sorts))))) few = absurd (omega arith)

-- The key among numbers, of which some are gone through.

lesser : (t : Bool) (n m : ℤ) (ns : List ℤ) → Some (least (cond t m n) ns) ≡ Some (cond t (least m ns) (least n ns))
lesser true n m ns = refl
lesser false n m ns = refl

greater : (t : Bool) (n m : ℤ) (ns : List ℤ) → Some (greatest (cond t m n) ns) ≡ Some (cond t (greatest m ns) (greatest n ns))
greater true n m ns = refl
greater false n m ns = refl

pub key_step : (direction : Direction) (best : Option ℤ) (n : ℤ) (ns : List ℤ)
    → key_among direction (option_to_list (key_among direction (option_to_list best ++ n ∷ [])) ++ ns) ≡ key_among direction (option_to_list best ++ n ∷ ns)
key_step Ascending None n ns = refl
key_step Descending None n ns = refl
key_step Ascending (Some before) n ns = lesser (int_lt n before) before n ns
key_step Descending (Some before) n ns = greater (int_lt before n) before n ns

pub key_none : (direction : Direction) (best : Option ℤ) → key_among direction (option_to_list best ++ []) ≡ best
key_none Ascending None = refl
key_none Descending None = refl
key_none Ascending (Some n) = refl
key_none Descending (Some n) = refl

pub key_more : (direction : Direction) (best : Option ℤ) (here rest : List ℤ)
    → key_among direction (option_to_list (key_among direction (option_to_list best ++ here)) ++ rest) ≡ key_among direction (option_to_list best ++ (here ++ rest))
key_more direction best [] rest = ap (λ one. key_among direction (option_to_list one ++ rest)) (key_none direction best)
key_more direction best (n ∷ here) rest =
    ap (λ one. key_among direction (option_to_list one ++ rest)) (sym (key_step direction best n here))
    ∙ key_more direction (key_among direction (option_to_list best ++ n ∷ [])) here rest
    ∙ key_step direction best n (here ++ rest)

-- one sort more
behind_more : (before : List (SortKey × Direction)) (key : SortKey) (direction : Direction) (i : ℕ) (more : Result (List (SortKey × Direction)) ℕ)
    → behind (before ++ (key, direction) ∷ []) more ≡ behind before (onto_key (Some key) direction i more)
behind_more before key direction i (Ok keys) = ap Ok (append_assoc before ((key, direction) ∷ []) keys)
behind_more before key direction i (Err j) = refl

module _ (schema : List Property) (asked : List SortSpec) (i : ℕ) (before : List (SortKey × Direction)) (sort : SortSpec) (all : Result (List (SortKey × Direction)) ℕ)
    (within : i < length asked) (is : sort ≡ get_or asked i sort) (known : behind before (sort_keys schema i (drop i asked)) ≡ all) where
  opened : behind before (onto_key (key_named schema sort.name) sort.direction i (sort_keys schema (i + 1) (drop (i + 1) asked))) ≡ all
  opened =
      ap (λ one. behind before (sort_keys schema i (one ∷ drop (i + 1) asked))) is
      ∙ sym (at_drop_more (λ sorts. behind before (sort_keys schema i sorts)) asked i sort within) ∙ known

  pub sort_more : (found : SortKey) → key_named schema sort.name ≡ Some found
      → behind (before ++ (found, sort.direction) ∷ []) (sort_keys schema (i + 1) (drop (i + 1) asked)) ≡ all
  sort_more found named =
      behind_more before found sort.direction i (sort_keys schema (i + 1) (drop (i + 1) asked))
      ∙ ap (λ one. behind before (onto_key one sort.direction i (sort_keys schema (i + 1) (drop (i + 1) asked)))) (sym named) ∙ opened

  pub sort_stop : key_named schema sort.name ≡ None → Err i ≡ all
  sort_stop named = ap (λ one. behind before (onto_key one sort.direction i (sort_keys schema (i + 1) (drop (i + 1) asked)))) (sym named) ∙ opened

-- the directions stand in front
pub same_directions : (sorts : List Sort) → length sorts ≤ 4
    → ranking.directions_of (record {
      first = option_map (λ sort. sort.direction) (slice_get sorts 0);
      second = option_map (λ sort. sort.direction) (slice_get sorts 1);
      third = option_map (λ sort. sort.direction) (slice_get sorts 2);
      fourth = option_map (λ sort. sort.direction) (slice_get sorts 3);
    }) ≡ map (λ sort. sort.direction) sorts
same_directions [] few = refl
same_directions (a ∷ []) few = refl
same_directions (a ∷ (b ∷ [])) few = refl
same_directions (a ∷ (b ∷ (c ∷ []))) few = refl
same_directions (a ∷ (b ∷ (c ∷ (d ∷ [])))) few = refl
same_directions (a ∷ (b ∷ (c ∷ (d ∷ (e ∷ sorts))))) few = absurd (omega arith)
