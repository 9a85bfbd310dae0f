-- The lists of a token, among those of an index.
use Rattle.std.proofs.Common.{◌≡◌, inl, inr, ℕ, zero, suc, ◌+◌, ◌-◌, ◌<◌, ◌≤◌, Bool, true, false, cond, List, [], ◌∷◌, length, map, filter, take, drop, get_or, refl, sym, ap, ◌∙◌, subst, arith}
use Rattle.std.specs.Prelude.{◌==◌, slice_get}
use Rattle.std.proofs.lemmas.Bool.Decides.{nat_tests}
use Rattle.sq_tokens.specs.Pattern.{is_token_asked}
use Rattle.sq_schema.specs.declared.property.Property.{Property}
use Rattle.sq_model.specs.Looked.{looked_rows}
use Rattle.sq_model.specs.Passages.{is_searchable, searchable_from}
use Rattle.sq_model.specs.declared.corpus.Corpus.{Corpus}
use Rattle.sq_model.specs.declared.fql.Look.{Look}
use Rattle.sq_model.specs.declared.fql.Look.TheVariants.{Searchable, One}
use Rattle.sq_model.proofs.Members.{IsIn, to_filter, of_filter, to_flat_map, of_flat_map}
use Rattle.sq_postings.specs.Indexed.{Indexed, TermList, is_list_of, list_at, AreListsOf}
use Rattle.sq_postings.specs.Laws.{lists_between}
use Rattle.sq_postings.specs.StandsFor.{StandsFor, shape_of}
use Rattle.sq_streams.specs.Looked.{looks_at}
use Rattle.sq_streams.proofs.SpanLemmas.{and_left, and_right}
use Rattle.sq_streams.specs.PatternSpans.{searched_from, properties_looked, lists_of, lists_looked}

-- ---- the elements from one place to another that alone pass a test

not_true : (b : Bool) → (b ≡ true → ⊥) → b ≡ false
not_true true h = absurd (h refl)
not_true false h = refl

pub segment : {X : Type 0} (p : X → Bool) (xs : List X) (d : X) (s n : ℕ) → ((i : ℕ) → s ≤ i → i < s + n → p (get_or xs i d) ≡ true) →
    ((i : ℕ) → i < length xs → p (get_or xs i d) ≡ true → (s ≤ i) × (i < s + n)) → s + n ≤ length xs → take n (drop s xs) ≡ filter p xs
segment p [] d zero zero inside outside within = refl
segment p [] d zero (suc n) inside outside within = absurd (omega (arith, within))
segment p [] d (suc s) n inside outside within = absurd (omega (arith, within))
segment p (x ∷ xs) d zero zero inside outside within =
    let no : p x ≡ false = not_true (p x) (λ e. let r = outside 0 (omega arith) e in omega (arith, r.1)) in
    let more : take 0 (drop 0 xs) ≡ filter p xs = segment p xs d 0 0 (λ i l m. absurd (omega (arith, m))) (λ i l e. let r = outside (suc i) (omega (arith, l)) e in absurd (omega (arith, r.1))) (omega arith) in
    rw no more
segment p (x ∷ xs) d zero (suc n) inside outside within =
    let yes : p x ≡ true = inside 0 (omega arith) (omega arith) in
    let more : take n (drop 0 xs) ≡ filter p xs =
    segment p xs d 0 n (λ i l m. inside (suc i) (omega arith) (omega (arith, m))) (λ i l e. let r = outside (suc i) (omega (arith, l)) e in (omega arith, omega (arith, r.1))) (omega (arith, within)) in
    rw yes (ap (λ ys. x ∷ ys) more)
segment p (x ∷ xs) d (suc s) n inside outside within =
    let no : p x ≡ false = not_true (p x) (λ e. let r = outside 0 (omega arith) e in omega (arith, r.0)) in
    let more : take n (drop s xs) ≡ filter p xs =
    segment p xs d s n (λ i l m. inside (suc i) (omega (arith, l)) (omega (arith, m))) (λ i l e. let r = outside (suc i) (omega (arith, l)) e in (omega (arith, r.0), omega (arith, r.1))) (omega (arith, within)) in
    rw no more

abbrev pub no_list : TermList
no_list = record { property = 0; token = []; postings = [] }

pub between_is : (index : Indexed) (property : ℕ) (wanted : List ℕ) (prefixed : Bool) (start end : ℕ) → AreListsOf index property wanted prefixed start end →
    lists_between index start end ≡ lists_of index wanted prefixed property
between_is index property wanted prefixed start end are =
    segment (is_list_of property wanted prefixed) index.lists no_list start (end - start)
    (λ i l m. are.inside i l (omega (arith, m, are.ordered)))
    (λ i l e. let r = are.outside i l e in (r.0, omega (arith, r.1, are.ordered)))
    (omega (arith, are.ordered, are.within))

-- ---- members by their numbers

pub number_of : {X : Type 0} (x : X) (xs : List X) (d : X) → IsIn x xs → (i : ℕ) × (i < length xs) × (x ≡ get_or xs i d)
number_of x [] d h = absurd h
number_of x (y ∷ xs) d (inl e) = (0, omega arith, e)
number_of x (y ∷ xs) d (inr h) = let r = number_of x xs d h in (suc r.0, omega (arith, r.1), r.2)

pub of_number : {X : Type 0} (xs : List X) (d : X) (i : ℕ) → i < length xs → IsIn (get_or xs i d) xs
of_number [] d i l = absurd (omega (arith, l))
of_number (x ∷ xs) d zero l = inl refl
of_number (x ∷ xs) d (suc i) l = inr (of_number xs d i (omega (arith, l)))

-- ---- the properties looked at

searched_shapes : (at : ℕ) (schema : List Property) → searched_from at (map shape_of schema) ≡ searchable_from at schema
searched_shapes at [] = refl
searched_shapes at (row ∷ rows) = by row.searchable (searched_shapes (at + 1) rows)
  where
    by : (b : Bool) → searched_from (at + 1) (map shape_of rows) ≡ searchable_from (at + 1) rows →
        cond b (at ∷ searched_from (at + 1) (map shape_of rows)) (searched_from (at + 1) (map shape_of rows)) ≡ cond b (at ∷ searchable_from (at + 1) rows) (searchable_from (at + 1) rows)
    by true e = ap (λ ps. at ∷ ps) e
    by false e = e

pub properties_are : (index : Indexed) (corpus : Corpus) → StandsFor index corpus → (look : Look) → properties_looked look index ≡ looked_rows look corpus.schema
properties_are index corpus stands (One property) = refl
properties_are index corpus stands Searchable = ap (searched_from 0) stands.shapes ∙ searched_shapes 0 corpus.schema

-- a searchable row is one of those looked at, and no other
to_searchable : (at : ℕ) (schema : List Property) (i : ℕ) → is_searchable (slice_get schema i) ≡ true → IsIn (at + i) (searchable_from at schema)
to_searchable at [] i h = absurd (grind (arith, h))
to_searchable at (row ∷ rows) zero h = rw h (inl (omega arith))
to_searchable at (row ∷ rows) (suc i) h = by row.searchable (subst (λ n. IsIn n (searchable_from (at + 1) rows)) (omega arith) (to_searchable (at + 1) rows i h))
  where
    by : (b : Bool) → IsIn (at + suc i) (searchable_from (at + 1) rows) → IsIn (at + suc i) (cond b (at ∷ searchable_from (at + 1) rows) (searchable_from (at + 1) rows))
    by true h = inr h
    by false h = h

of_searchable : (at : ℕ) (schema : List Property) (p : ℕ) → IsIn p (searchable_from at schema) → (i : ℕ) × (p ≡ at + i) × (is_searchable (slice_get schema i) ≡ true)
of_searchable at [] p h = absurd h
of_searchable at (row ∷ rows) p h = by (λ k. of_searchable (at + 1) rows p k) row.searchable refl h
  where
    further : (i : ℕ) × (p ≡ at + 1 + i) × (is_searchable (slice_get rows i) ≡ true) → (i : ℕ) × (p ≡ at + i) × (is_searchable (slice_get (row ∷ rows) i) ≡ true)
    further r = (suc r.0, omega (arith, r.1), r.2)

    by : (IsIn p (searchable_from (at + 1) rows) → (i : ℕ) × (p ≡ at + 1 + i) × (is_searchable (slice_get rows i) ≡ true)) → (b : Bool) → row.searchable ≡ b → IsIn p (cond b (at ∷ searchable_from (at + 1) rows) (searchable_from (at + 1) rows)) → (i : ℕ) × (p ≡ at + i) × (is_searchable (slice_get (row ∷ rows) i) ≡ true)
    by more true e (inl k) = (0, omega (arith, k), e)
    by more true e (inr k) = further (more k)
    by more false e k = further (more k)

pub to_looked : (look : Look) (schema : List Property) (p : ℕ) → looks_at look schema p ≡ true → IsIn p (looked_rows look schema)
to_looked (One property) schema p h = inl (grind (arith, nat_tests, h))
to_looked Searchable schema p h = subst (λ n. IsIn n (searchable_from 0 schema)) (omega arith) (to_searchable 0 schema p h)

pub of_looked : (look : Look) (schema : List Property) (p : ℕ) → IsIn p (looked_rows look schema) → looks_at look schema p ≡ true
of_looked (One property) schema p (inl e) = grind (arith, nat_tests, e)
of_looked (One property) schema p (inr h) = absurd h
of_looked Searchable schema p h = let r = of_searchable 0 schema p h in let same : r.0 ≡ p = omega (arith, r.1) in subst (λ n. is_searchable (slice_get schema n) ≡ true) same r.2

-- ---- the lists looked at

pub record IsLooked (index : Indexed) (look : Look) (schema : List Property) (wanted : List ℕ) (prefixed : Bool) (list : TermList) : Type 0 where
  pub number : ℕ
  pub below : number < length index.lists
  pub same : list ≡ list_at index number
  pub looks : looks_at look schema list.property ≡ true
  pub asked : is_token_asked prefixed wanted list.token ≡ true

pub of_lists : (index : Indexed) (corpus : Corpus) → StandsFor index corpus → (look : Look) (wanted : List ℕ) (prefixed : Bool) (list : TermList) →
    IsIn list (lists_looked index look wanted prefixed) → IsLooked index look corpus.schema wanted prefixed list
of_lists index corpus stands look wanted prefixed list h =
    let r = of_flat_map (lists_of index wanted prefixed) list (properties_looked look index) h in
    let f = of_filter (is_list_of r.0 wanted prefixed) list index.lists r.2 in
    let n = number_of list index.lists no_list f.0 in
    let p : (list.property == r.0) ≡ true = and_left (list.property == r.0) (is_token_asked prefixed wanted list.token) f.1 in
    let same : r.0 ≡ list.property = grind (arith, nat_tests, p) in
    record {
      number = n.0;
      below = n.1;
      same = n.2;
      looks = of_looked look corpus.schema list.property (subst (λ q. IsIn q (looked_rows look corpus.schema)) same (subst (IsIn r.0) (properties_are index corpus stands look) r.1));
      asked = and_right (list.property == r.0) (is_token_asked prefixed wanted list.token) f.1;
    }

pub to_lists : (index : Indexed) (corpus : Corpus) → StandsFor index corpus → (look : Look) (wanted : List ℕ) (prefixed : Bool) (number : ℕ) → number < length index.lists →
    looks_at look corpus.schema (list_at index number).property ≡ true → is_token_asked prefixed wanted (list_at index number).token ≡ true →
    IsIn (list_at index number) (lists_looked index look wanted prefixed)
to_lists index corpus stands look wanted prefixed number below looks asked =
    let list : TermList = list_at index number in
    let p : (list.property == list.property) ≡ true = grind (arith, nat_tests) in
    let fits : is_list_of list.property wanted prefixed list ≡ true = rw (p, asked) refl in
    to_flat_map (lists_of index wanted prefixed) list list.property (properties_looked look index)
    (subst (IsIn list.property) (sym (properties_are index corpus stands look)) (to_looked look corpus.schema list.property looks))
    (to_filter (is_list_of list.property wanted prefixed) list index.lists (of_number index.lists no_list number below) fits)
