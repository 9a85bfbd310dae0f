-- The postings of a token, by passages, and how many passages there are.
use Rattle.std.proofs.Common.{◌≡◌, ◌≢◌, inl, inr, ℕ, zero, suc, ◌+◌, ◌<◌, ◌≤◌, Bool, true, false, cond, List, [], ◌∷◌, length, map, filter, get_or, refl, ap, ◌∙◌, subst, arith}
use mathlib.Core.Logic.{⊎_elim}
use Rattle.std.specs.Prelude.{◌==◌, nat_le, slice_get, Option, Some, None, filter_map}
use Rattle.std.specs.List.{list_all, cons_option}
use Rattle.std.specs.Str.{bytes_eq}
use Rattle.std.proofs.lemmas.Bool.Decides.{nat_tests}
use Rattle.std.proofs.lemmas.List.{length-map}
use Rattle.sq_tokens.specs.Token.{Token, token_text}
use Rattle.sq_schema.specs.declared.property.Property.{Property}
use Rattle.sq_model.specs.Passages.{Passage, passages, passage_of, contents}
use Rattle.sq_model.specs.Valid.{IsValid, count_of, has_few, is_value, is_item, is_content_of}
use Rattle.sq_model.specs.declared.corpus.Content.{Content}
use Rattle.sq_model.specs.declared.corpus.Value.{Value}
use Rattle.sq_model.specs.declared.corpus.Item.{Item}
use Rattle.sq_model.specs.declared.corpus.Corpus.{Corpus}
use Rattle.sq_model.proofs.Members.{IsIn, in_append, in_append_left, in_append_right, to_map, of_map}
use Rattle.sq_coded.specs.declared.posting.Posting.{Posting}
use Rattle.sq_postings.specs.Occurrences.{places_from, posting, passage_postings, postings_from, postings_of, values_of, values_at}
use Rattle.sq_streams.proofs.SpanLemmas.{and_left, and_right}

-- ---- the places of a token

-- the token at a number equals the wanted one
pub record IsThere (wanted : List ℕ) (passage : Passage) (i : ℕ) : Type 0 where
  pub token : Token
  pub here : slice_get passage i ≡ Some token
  pub equal : bytes_eq (token_text token) wanted ≡ true

pub to_places : (o : ℕ) (wanted : List ℕ) (passage : Passage) (i : ℕ) → IsThere wanted passage i → IsIn (o + i) (places_from o wanted passage)
to_places o wanted [] i h = let e = h.here in absurd (grind (arith, e))
to_places o wanted (token ∷ tokens) zero h =
    let e : token ≡ h.token = grind (arith, h.here) in
    let yes : bytes_eq (token_text token) wanted ≡ true = ap (λ t. bytes_eq (token_text t) wanted) e ∙ h.equal in
    rw yes (inl (omega arith))
to_places o wanted (token ∷ tokens) (suc i) h =
    by (bytes_eq (token_text token) wanted) (subst (λ n. IsIn n (places_from (o + 1) wanted tokens)) (omega arith) (to_places (o + 1) wanted tokens i (record { token = h.token; here = h.here; equal = h.equal })))
  where
    by : (b : Bool) → IsIn (o + suc i) (places_from (o + 1) wanted tokens) → IsIn (o + suc i) (cond b (o ∷ places_from (o + 1) wanted tokens) (places_from (o + 1) wanted tokens))
    by true k = inr k
    by false k = k

pub of_places : (o : ℕ) (wanted : List ℕ) (passage : Passage) (n : ℕ) → IsIn n (places_from o wanted passage) → (i : ℕ) × (n ≡ o + i) × IsThere wanted passage i
of_places o wanted [] n h = absurd h
of_places o wanted (token ∷ tokens) n h = by (λ k. of_places (o + 1) wanted tokens n k) (bytes_eq (token_text token) wanted) refl h
  where
    further : (i : ℕ) × (n ≡ o + 1 + i) × IsThere wanted tokens i → (i : ℕ) × (n ≡ o + i) × IsThere wanted (token ∷ tokens) i
    further r = (suc r.0, omega (arith, r.1), record { token = r.2.token; here = r.2.here; equal = r.2.equal })

    by : (IsIn n (places_from (o + 1) wanted tokens) → (i : ℕ) × (n ≡ o + 1 + i) × IsThere wanted tokens i) → (b : Bool) → bytes_eq (token_text token) wanted ≡ b → IsIn n (cond b (o ∷ places_from (o + 1) wanted tokens) (places_from (o + 1) wanted tokens)) → (i : ℕ) × (n ≡ o + i) × IsThere wanted (token ∷ tokens) i
    by more true e (inl k) = (0, omega (arith, k), record { token = token; here = refl; equal = e })
    by more true e (inr k) = further (more k)
    by more false e k = further (more k)

-- ---- a token that stands somewhere has a posting

in_passages : (row o : ℕ) (wanted : List ℕ) (list : List Passage) (k i : ℕ) → IsThere wanted (get_or list k []) i → IsIn (posting row (o + k) i) (passage_postings row o wanted list)
in_passages row o wanted [] k i h = let e = h.here in absurd (grind (arith, e))
in_passages row o wanted (passage ∷ list) zero i h =
    subst (λ n. IsIn (posting row n i) (passage_postings row o wanted (passage ∷ list))) (omega arith)
    (in_append_left (posting row o i) (map (posting row o) (places_from 0 wanted passage)) (passage_postings row (o + 1) wanted list)
    (to_map (posting row o) i (places_from 0 wanted passage) (subst (λ n. IsIn n (places_from 0 wanted passage)) (omega arith) (to_places 0 wanted passage i h))))
in_passages row o wanted (passage ∷ list) (suc k) i h =
    in_append_right (posting row (o + suc k) i) (map (posting row o) (places_from 0 wanted passage)) (passage_postings row (o + 1) wanted list)
    (subst (λ n. IsIn (posting row n i) (passage_postings row (o + 1) wanted list)) (omega arith) (in_passages row (o + 1) wanted list k i h))

in_items : (r property : ℕ) (wanted : List ℕ) (items : List Item) (n k i : ℕ) → IsThere wanted (get_or (passages (get_or (map values_of items) n []) property) k []) i →
    IsIn (posting (r + n) k i) (postings_from r property wanted items)
in_items r property wanted [] n k i h = let e = h.here in absurd (grind (arith, e))
in_items r property wanted (item ∷ items) zero k i h =
    subst (λ n. IsIn (posting n k i) (postings_from r property wanted (item ∷ items))) (omega arith)
    (in_append_left (posting r k i) (passage_postings r 0 wanted (passages item.values property)) (postings_from (r + 1) property wanted items)
    (subst (λ n. IsIn (posting r n i) (passage_postings r 0 wanted (passages item.values property))) (omega arith) (in_passages r 0 wanted (passages item.values property) k i h)))
in_items r property wanted (item ∷ items) (suc n) k i h =
    in_append_right (posting (r + suc n) k i) (passage_postings r 0 wanted (passages item.values property)) (postings_from (r + 1) property wanted items)
    (subst (λ m. IsIn (posting m k i) (postings_from (r + 1) property wanted items)) (omega arith) (in_items (r + 1) property wanted items n k i h))

pub somewhere : (items : List Item) (row property ordinal : ℕ) (wanted : List ℕ) (i : ℕ) → IsThere wanted (get_or (passages (values_at items row) property) ordinal []) i →
    postings_of items property wanted ≢ []
somewhere items row property ordinal wanted i h = λ e. subst (IsIn (posting (0 + row) ordinal i)) e (in_items 0 property wanted items row ordinal i h)

-- ---- few passages of a property

len_filter_map : (xs : List Content) → length (filter_map passage_of xs) ≤ length xs
len_filter_map [] = omega arith
len_filter_map (x ∷ xs) = by (passage_of x) (len_filter_map xs)
  where
    by : (o : Option Passage) → length (filter_map passage_of xs) ≤ length xs → length (cons_option o (filter_map passage_of xs)) ≤ suc (length xs)
    by None h = omega (arith, h)
    by (Some y) h = omega (arith, h)

abbrev is_of : ℕ → Value → Bool
is_of property value = value.property == property

few_rows : (values : List Value) (at : ℕ) (schema : List Property) (i : ℕ) → has_few values at schema ≡ true → i < length schema → count_of values (at + i) ≤ 1_000
few_rows values at [] i h l = absurd (omega (arith, l))
few_rows values at (row ∷ rows) zero h l =
    let e : nat_le (count_of values at) 1_000 ≡ true = first_of (search h, grind (arith, h)) in
    let le : count_of values at ≤ 1_000 = grind (arith, nat_tests, e) in
    subst (λ n. count_of values n ≤ 1_000) (omega arith) le
few_rows values at (row ∷ rows) (suc i) h l =
    subst (λ n. count_of values n ≤ 1_000) (omega arith)
    (few_rows values (at + 1) rows i (first_of (search h, grind (arith, h))) (omega (arith, l)))

value_within : (schema : List Property) (n : ℕ) (content : Content) → is_content_of (slice_get schema n) content ≡ true → n < length schema
value_within [] n content h = absurd (grind (arith, h))
value_within (row ∷ rows) zero content h = omega arith
value_within (row ∷ rows) (suc n) content h = let r = value_within rows n content h in omega (arith, r)

none_past : (schema : List Property) (property : ℕ) (values : List Value) → length schema ≤ property → list_all (is_value schema) values ≡ true → count_of values property ≤ 0
none_past schema property [] past h = omega arith
none_past schema property (value ∷ values) past h =
    let w = value_within schema value.property value.content (and_left (is_value schema value) (list_all (is_value schema) values) h) in
    let no : (value.property == property) ≡ false = grind (arith, nat_tests, w, past) in
    rw no (none_past schema property values past (and_right (is_value schema value) (list_all (is_value schema) values) h))

few_values : (schema : List Property) (values : List Value) (property : ℕ) → list_all (is_value schema) values ≡ true → has_few values 0 schema ≡ true → length (passages values property) ≤ 1_000
few_values schema values property all few = omega (arith, len_filter_map (contents values property), length-map (filter (is_of property) values) (λ (v : Value). v.content), by (nat_le (length schema) property) refl)
  where
    by : (b : Bool) → nat_le (length schema) property ≡ b → count_of values property ≤ 1_000
    by true e = let past : length schema ≤ property = grind (arith, nat_tests, e) in omega (arith, none_past schema property values past all)
    by false e = let below : property < length schema = grind (arith, nat_tests, e) in subst (λ n. count_of values n ≤ 1_000) (omega arith) (few_rows values 0 schema property few below)

few_items : (schema : List Property) (items : List Item) (row property : ℕ) → list_all (is_item schema) items ≡ true → length (passages (get_or (map values_of items) row []) property) ≤ 1_000
few_items schema [] row property h = omega arith
few_items schema (item ∷ items) zero property h =
    let i : is_item schema item ≡ true = and_left (is_item schema item) (list_all (is_item schema) items) h in
    few_values schema item.values property (first_of (search i, grind (arith, i))) (first_of (search i, grind (arith, i)))
few_items schema (item ∷ items) (suc row) property h = few_items schema items row property (and_right (is_item schema item) (list_all (is_item schema) items) h)

pub few_passages : (corpus : Corpus) → IsValid corpus → (row property : ℕ) → length (passages (values_at corpus.items row) property) ≤ 1_000
few_passages corpus valid row property = few_items corpus.schema corpus.items row property valid.items

-- ---- the ordinal of a posting

ordinal_passages : (row o : ℕ) (wanted : List ℕ) (list : List Passage) (e : Posting) → IsIn e (passage_postings row o wanted list) → (e.row ≡ row) × (e.ordinal < o + length list)
ordinal_passages row o wanted [] e h = absurd h
ordinal_passages row o wanted (passage ∷ list) e h = ⊎_elim
    (λ k. let m = of_map (posting row o) e (places_from 0 wanted passage) k in (ap (λ (x : Posting). x.row) m.2, omega (arith, ap (λ (x : Posting). x.ordinal) m.2)))
    (λ k. let r = ordinal_passages row (o + 1) wanted list e k in (r.0, omega (arith, r.1)))
    (in_append e (map (posting row o) (places_from 0 wanted passage)) (passage_postings row (o + 1) wanted list) h)

ordinal_items : (r property : ℕ) (wanted : List ℕ) (items : List Item) (e : Posting) → IsIn e (postings_from r property wanted items) →
    (n : ℕ) × (e.ordinal < length (passages (get_or (map values_of items) n []) property))
ordinal_items r property wanted [] e h = absurd h
ordinal_items r property wanted (item ∷ items) e h = ⊎_elim
    (λ k. (0, omega (arith, (ordinal_passages r 0 wanted (passages item.values property) e k).1)))
    (λ k. let s = ordinal_items (r + 1) property wanted items e k in (suc s.0, s.1))
    (in_append e (passage_postings r 0 wanted (passages item.values property)) (postings_from (r + 1) property wanted items) h)

pub small_ordinal : (corpus : Corpus) → IsValid corpus → (property : ℕ) (wanted : List ℕ) (e : Posting) → IsIn e (postings_of corpus.items property wanted) → e.ordinal < 1_000
small_ordinal corpus valid property wanted e h =
    let r = ordinal_items 0 property wanted corpus.items e h in
    omega (arith, r.1, few_passages corpus valid r.0 property)
