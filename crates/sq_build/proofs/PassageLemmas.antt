-- The tokens of a passage, one after the other.
use Rattle.std.proofs.Common.{◌≡◌, ℕ, ◌+◌, ◌≤◌, Bool, true, false, cond, List, [], ◌∷◌, ◌++◌, length, map, drop, refl, sym, ap, ap₂, ◌∙◌, slice_get, Some, zero, suc, add-one, append_assoc}
use Rattle.std.specs.Str.{bytes_eq}
use Rattle.std.specs.Option.{option_map}
use Rattle.std.proofs.lemmas.List.{append-nil, drop_all, map-append}
use Rattle.std.proofs.lemmas.Option.{same_Some}
use Rattle.sq_tokens.specs.Token.{Token, token_text}
use Rattle.sq_coded.specs.declared.posting.Posting.{Posting}
use Rattle.sq_postings.specs.Occurrences.{places_from, posting}

split_cond : (b : Bool) (i : ℕ) (rest : List ℕ) → cond b (i ∷ rest) rest ≡ cond b (i ∷ []) [] ++ rest
split_cond true i rest = refl
split_cond false i rest = refl

map_cond : (row ordinal i : ℕ) (b : Bool) → map (posting row ordinal) (cond b (i ∷ []) []) ≡ cond b (posting row ordinal i ∷ []) []
map_cond row ordinal i true = refl
map_cond row ordinal i false = refl

places_step : (tokens : List Token) (k i : ℕ) (t text : List ℕ) → option_map token_text (slice_get tokens k) ≡ Some text
    → places_from i t (drop k tokens) ≡ cond (bytes_eq text t) (i ∷ []) [] ++ places_from (i + 1) t (drop (suc k) tokens)
places_step [] k i t text e = absurd (cc)
places_step (token ∷ tokens) zero i t text e =
    ap (λ s. cond (bytes_eq s t) (i ∷ places_from (i + 1) t tokens) (places_from (i + 1) t tokens)) (same_Some (token_text token) text e)
    ∙ split_cond (bytes_eq text t) i (places_from (i + 1) t tokens)
places_step (token ∷ tokens) (suc k) i t text e = places_step tokens k i t text e

pub passage_turn : (row ordinal place : ℕ) (text t : List ℕ) (tokens : List Token) (now new whole : List Posting) → option_map token_text (slice_get tokens place) ≡ Some text
    → new ≡ now ++ cond (bytes_eq text t) (posting row ordinal place ∷ []) []
    → now ++ map (posting row ordinal) (places_from place t (drop place tokens)) ≡ whole
    → new ++ map (posting row ordinal) (places_from (place + 1) t (drop (place + 1) tokens)) ≡ whole
passage_turn row ordinal place text t tokens now new whole at grows held =
    ap₂ (λ l k. l ++ map (posting row ordinal) (places_from (place + 1) t (drop k tokens))) grows (add-one place)
    ∙ append_assoc now (cond (bytes_eq text t) (posting row ordinal place ∷ []) []) (map (posting row ordinal) (places_from (place + 1) t (drop (suc place) tokens)))
    ∙ ap (λ l. now ++ l) (sym here) ∙ held
  where
    here : map (posting row ordinal) (places_from place t (drop place tokens))
        ≡ cond (bytes_eq text t) (posting row ordinal place ∷ []) [] ++ map (posting row ordinal) (places_from (place + 1) t (drop (suc place) tokens))
    here =
        ap (map (posting row ordinal)) (places_step tokens place place t text at)
        ∙ map-append (posting row ordinal) (cond (bytes_eq text t) (place ∷ []) []) (places_from (place + 1) t (drop (suc place) tokens))
        ∙ ap (λ l. l ++ map (posting row ordinal) (places_from (place + 1) t (drop (suc place) tokens))) (map_cond row ordinal place (bytes_eq text t))

pub passage_end : (row ordinal place : ℕ) (t : List ℕ) (tokens : List Token) (now whole : List Posting) → length tokens ≤ place
    → now ++ map (posting row ordinal) (places_from place t (drop place tokens)) ≡ whole → now ≡ whole
passage_end row ordinal place t tokens now whole past held =
    sym (append-nil now) ∙ ap (λ l. now ++ map (posting row ordinal) (places_from place t l)) (sym (drop_all place tokens past)) ∙ held
