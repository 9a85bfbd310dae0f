-- A row has a match exactly where the stream of one of the weights has a span there.
use Rattle.std.proofs.Common.{◌≡◌, ◌⊎◌, inl, inr, ◌≤◌, ◌<◌, ℕ, zero, suc, ◌+◌, ◌*◌, ◌/◌, ◌%◌, Bool, true, false, not, ◌&&◌, ◌||◌, cond, List, [], ◌∷◌, map, length, Option, Some, None, refl, sym, ap, subst, ◌∙◌, arith}
use Rattle.std.specs.Prelude.{◌==◌, nat_eq, nat_le, filter, filter_map, slice_get, slice_index_or}
use Rattle.std.specs.List.{list_any, list_all, reduce, cons_option}
use Rattle.std.proofs.lemmas.List.{length-map}
use Rattle.std.proofs.lemmas.Bool.{eqb-true, eq-eqb, leb-true}
use Rattle.std.proofs.lemmas.Nat.{div-mul-add, mod-mul-add}
use Rattle.sq_cursor.specs.declared.span.Span.{Span}
use Rattle.sq_cursor.specs.Spans.{passage_of}
use Rattle.sq_schema.specs.declared.property.Property.{Property}
use Rattle.sq_model.specs.Copies.{weights}
use Rattle.sq_model.specs.Lists.{is_empty, joined}
use Rattle.sq_model.specs.Looked.{looked}
use Rattle.sq_model.specs.Passages.{Passage, contents, passages, searchable, searchable_from, is_searchable, passage_of as passage_in}
use Rattle.sq_model.specs.Spans.{triples, triples_each}
use Rattle.sq_model.specs.Triples.{join}
use Rattle.sq_model.specs.Valid.{IsValid, is_item, is_value, is_content_of, count_of, has_few}
use Rattle.sq_model.specs.declared.corpus.Corpus.{Corpus}
use Rattle.sq_model.specs.declared.corpus.Content.{Content}
use Rattle.sq_model.specs.declared.corpus.Item.{Item}
use Rattle.sq_model.specs.declared.corpus.Value.{Value}
use Rattle.sq_model.specs.declared.fql.Look.{Look}
use Rattle.sq_model.specs.declared.fql.Look.TheVariants.{Searchable, One}
use Rattle.sq_model.specs.declared.fql.SpanTree.{SpanTree, Leaf, Union', Near', Row_of-SpanTree, end_of-SpanTree, more_of-SpanTree}
use Rattle.sq_model.specs.declared.triple.Triple.{Triple}
use Rattle.sq_model.proofs.Members.{IsIn, to_filter, of_filter, of_map, to_flat_map, of_flat_map, of_filter_map, in_append}
use Rattle.sq_model.proofs.Choices.{IsChoice, of_near}
use Rattle.sq_near.specs.Covers.{match_of}
use Rattle.sq_near.specs.Rows.{is_in_row, has_row}
use Rattle.sq_least.specs.Dense.{WeightsOfMatches}
use Rattle.sq_postings.specs.Occurrences.{values_of, values_at, passage_at}
use Rattle.sq_streams.specs.Looked.{looks_at, passage_looked}
use Rattle.sq_streams.specs.TreeLaws.{RowsHaveMatches}
use Rattle.sq_streams.specs.TreeStreams.{IsStreamOf, EachWeightOf}
use Rattle.sq_streams.proofs.SumLemmas.{and_left, and_right}
use Rattle.sq_streams.proofs.DenseSpans.{match_in, span_in}

-- ---- tests of lists

any_of : {X : Type 0} (test : X → Bool) (x : X) (xs : List X) → IsIn x xs → test x ≡ true → list_any test xs ≡ true
any_of test x [] i e = absurd i
any_of test x (y ∷ xs) (inl p) e = let here : test y ≡ true = ap test (sym p) ∙ e in rw here refl
any_of test x (y ∷ xs) (inr i) e = at (test y) (any_of test x xs i e)
  where
    at : (b : Bool) → list_any test xs ≡ true → (b || list_any test xs) ≡ true
    at true more = refl
    at false more = more

some_of : {X : Type 0} (test : X → Bool) (xs : List X) → list_any test xs ≡ true → (x : X) × IsIn x xs × (test x ≡ true)
some_of test [] e = cc
some_of {X} test (y ∷ xs) e = at (test y) refl e (λ more. some_of test xs more)
  where
    at : (b : Bool) → test y ≡ b → (b || list_any test xs) ≡ true → (list_any test xs ≡ true → (x : X) × IsIn x xs × (test x ≡ true)) → (x : X) × IsIn x (y ∷ xs) × (test x ≡ true)
    at true here more later = (y, inl refl, here)
    at false here more later = let r = later more in (r.0, inr r.1, r.2)

same_test : (a b : Bool) → (a ≡ true → b ≡ true) → (b ≡ true → a ≡ true) → a ≡ b
same_test true b f g = sym (f refl)
same_test false true f g = g refl
same_test false false f g = refl

-- ---- no match in no tokens

mutual
  none_in : (tree : SpanTree) (t : Triple) → IsIn t (triples [] tree) → ⊥
  none_in (Leaf leaf) t i = i
  none_in (Union' shape parts) t i = none_in_each parts t i
  none_in (Near' shape parts n ordered) t i = let r = of_near n ordered (triples_each [] parts) t i in none_chosen parts r.chosen r.is_choice t r.joins

  none_in_each : {m : _} (parts : Row_of-SpanTree m) (t : Triple) → IsIn t (joined (triples_each [] parts)) → ⊥
  none_in_each end_of-SpanTree t i = i
  none_in_each (more_of-SpanTree part rest) t i = elim (in_append t (triples [] part) (joined (triples_each [] rest)) i) [ inl k ↦ none_in part t k | inr k ↦ none_in_each rest t k ]

  none_chosen : {m : _} (parts : Row_of-SpanTree m) (chosen : List Triple) → IsChoice chosen (triples_each [] parts) → (t : Triple) → reduce join chosen ≡ Some t → ⊥
  none_chosen end_of-SpanTree [] c t e = cc
  none_chosen end_of-SpanTree (u ∷ chosen) c t e = c
  none_chosen (more_of-SpanTree part rest) [] c t e = c
  none_chosen (more_of-SpanTree part rest) (u ∷ chosen) c t e = none_in part u c.0

some_match : (ts : List Triple) (t : Triple) → IsIn t ts → not (is_empty ts) ≡ true
some_match [] t i = absurd i
some_match (u ∷ ts) t i = refl

first_match : (ts : List Triple) → not (is_empty ts) ≡ true → (t : Triple) × IsIn t ts
first_match [] e = cc
first_match (t ∷ ts) e = (t, inl refl)

-- ---- elements by number

at_number : {X : Type 0} (xs : List X) (i : ℕ) (d : X) → (IsIn (slice_index_or xs i d) xs) ⊎ (slice_index_or xs i d ≡ d)
at_number [] i d = inr refl
at_number (x ∷ xs) zero d = inl (inl refl)
at_number (x ∷ xs) (suc i) d = elim (at_number xs i d) [ inl k ↦ inl (inr k) | inr e ↦ inr e ]

number_in : {X : Type 0} (x : X) (xs : List X) (d : X) → IsIn x xs → (i : ℕ) × (i < length xs) × (slice_index_or xs i d ≡ x)
number_in x [] d i = absurd i
number_in x (y ∷ xs) d (inl p) = (0, omega arith, sym p)
number_in x (y ∷ xs) d (inr k) = let r = number_in x xs d k in (suc r.0, omega (arith, r.1), r.2)

-- ---- searchable properties

to_searchable : (at : ℕ) (rows : List Property) (i : ℕ) → is_searchable (slice_get rows i) ≡ true → IsIn (at + i) (searchable_from at rows)
to_searchable at [] i e = cc
to_searchable at (row ∷ rows) zero e = let same : at + 0 ≡ at = omega arith in let here : row.searchable ≡ true = e in rw here (inl same)
to_searchable at (row ∷ rows) (suc i) e =
    let same : at + 1 + i ≡ at + suc i = omega arith in
    here row.searchable (subst (λ n. IsIn n (searchable_from (at + 1) rows)) same (to_searchable (at + 1) rows i e))
  where
    here : (b : Bool) → IsIn (at + suc i) (searchable_from (at + 1) rows) → IsIn (at + suc i) (cond b (at ∷ searchable_from (at + 1) rows) (searchable_from (at + 1) rows))
    here true more = inr more
    here false more = more

of_searchable : (at : ℕ) (rows : List Property) (p : ℕ) → IsIn p (searchable_from at rows) → (i : ℕ) × (p ≡ at + i) × (is_searchable (slice_get rows i) ≡ true)
of_searchable at [] p k = absurd k
of_searchable at (row ∷ rows) p k = here row.searchable refl k (λ j. let r = of_searchable (at + 1) rows p j in (suc r.0, omega (arith, r.1), r.2))
  where
    here : (b : Bool) → row.searchable ≡ b → IsIn p (cond b (at ∷ searchable_from (at + 1) rows) (searchable_from (at + 1) rows)) →
        (IsIn p (searchable_from (at + 1) rows) → (i : ℕ) × (p ≡ at + i) × (is_searchable (slice_get (row ∷ rows) i) ≡ true)) →
        (i : ℕ) × (p ≡ at + i) × (is_searchable (slice_get (row ∷ rows) i) ≡ true)
    here true e (inl q) later = (0, omega (arith, q), e)
    here true e (inr j) later = later j
    here false e j later = later j

-- ---- few passages of a property

in_schema : (schema : List Property) (p : ℕ) (content : Content) → is_content_of (slice_get schema p) content ≡ true → p < length schema
in_schema [] p content e = cc
in_schema (row ∷ rows) zero content e = omega arith
in_schema (row ∷ rows) (suc p) content e = let h = in_schema rows p content e in omega (arith, h)

few_at : (values : List Value) (at : ℕ) (rows : List Property) (i : ℕ) → has_few values at rows ≡ true → i < length rows → count_of values (at + i) ≤ 1_000
few_at values at [] i e l = absurd (omega (arith, l))
few_at values at (row ∷ rows) zero e l =
    let first = and_left (nat_le (count_of values at) 1_000) (row.multi || nat_le (count_of values at) 1) (and_left _ (has_few values (at + 1) rows) e) in
    let same : at + 0 ≡ at = omega arith in
    subst (λ n. count_of values n ≤ 1_000) (sym same) (leb-true (count_of values at) 1_000 first)
few_at values at (row ∷ rows) (suc i) e l =
    let more = and_right (nat_le (count_of values at) 1_000 && (row.multi || nat_le (count_of values at) 1)) (has_few values (at + 1) rows) e in
    let same : at + 1 + i ≡ at + suc i = omega arith in
    subst (λ n. count_of values n ≤ 1_000) same (few_at values (at + 1) rows i more (omega (arith, l)))

fewer : (contents : List Content) → length (filter_map passage_in contents) ≤ length contents
fewer [] = omega arith
fewer (content ∷ contents) = at (passage_in content) (fewer contents)
  where
    at : (o : Option Passage) → length (filter_map passage_in contents) ≤ length contents → length (cons_option o (filter_map passage_in contents)) ≤ length (content ∷ contents)
    at None h = omega (arith, h)
    at (Some p) h = omega (arith, h)

few_passages : (values : List Value) (property : ℕ) → length (passages values property) ≤ count_of values property
few_passages values property =
    let fit : length (passages values property) ≤ length (contents values property) = fewer (contents values property) in
    let same : length (contents values property) ≡ count_of values property = length-map (filter (λ (value : Value). value.property == property) values) (λ (value : Value). value.content) in
    omega (arith, fit, same)

each_of : {X : Type 0} (test : X → Bool) (xs : List X) → list_all test xs ≡ true → (x : X) → IsIn x xs → test x ≡ true
each_of test [] e x k = absurd k
each_of test (y ∷ xs) e x (inl q) = ap test q ∙ and_left (test y) (list_all test xs) e
each_of test (y ∷ xs) e x (inr k) = each_of test xs (and_right (test y) (list_all test xs) e) x k

-- a valid item has few passages of each property that has one
few_of_item : (schema : List Property) (item : Item) → is_item schema item ≡ true → (property : ℕ) (p : Passage) → IsIn p (passages item.values property) → length (passages item.values property) ≤ 1_000
few_of_item schema item valid property p k =
    let all = and_right _ (list_all (is_value schema) item.values) (and_left _ (has_few item.values 0 schema) valid) in
    let few = and_right _ (has_few item.values 0 schema) valid in
    let content = of_filter_map passage_in p (contents item.values property) k in
    let value = of_map (λ (value : Value). value.content) content.0 (filter (λ (value : Value). value.property == property) item.values) content.1 in
    let kept = of_filter (λ (value : Value). value.property == property) value.0 item.values value.1 in
    let known : value.0.property < length schema = in_schema schema value.0.property value.0.content (each_of (is_value schema) item.values all value.0 kept.0) in
    let is : value.0.property ≡ property = eqb-true value.0.property property kept.1 in
    let same : 0 + property ≡ property = omega arith in
    let count : count_of item.values property ≤ 1_000 = subst (λ n. count_of item.values n ≤ 1_000) same (few_at item.values 0 schema property few (subst (λ n. n < length schema) is known)) in
    let fit = few_passages item.values property in
    omega (arith, count, fit)

-- ---- the passages that are looked at

module _ (corpus : Corpus) (valid : IsValid corpus) (row : ℕ) where
  abbrev values : List Value
  values = values_at corpus.items row

  few_here : (property : ℕ) (p : Passage) → IsIn p (passages values property) → length (passages values property) ≤ 1_000
  few_here property p k = at (at_number (map values_of corpus.items) row [])
    where
      at : (IsIn values (map values_of corpus.items)) ⊎ (values ≡ []) → length (passages values property) ≤ 1_000
      at (inl i) =
          let m = of_map values_of values corpus.items i in
          let fit = each_of (is_item corpus.schema) corpus.items valid.items m.0 m.1 in
          subst (λ vs. length (passages vs property) ≤ 1_000) (sym m.2) (few_of_item corpus.schema m.0 fit property p (subst (λ vs. IsIn p (passages vs property)) m.2 k))
      at (inr e) = absurd (subst (λ vs. IsIn p (passages vs property)) e k)

  module _ (look : Look) where
    looked_at : (property : ℕ) (p : Passage) → looks_at look corpus.schema property ≡ true → IsIn p (passages values property) → (part : ℕ) × (passage_looked corpus look row part ≡ p)
    looked_at property p looks k =
        let r = number_in p (passages values property) [] k in
        let few = few_here property p k in
        let within : r.0 < 1_000 = omega (arith, r.1, few) in
        let part = property * 1_000 + r.0 in
        let of_part : part / 1_000 ≡ property = div-mul-add property 1_000 r.0 within in
        let ordinal : part % 1_000 ≡ r.0 = mod-mul-add property 1_000 r.0 within in
        let seen : looks_at look corpus.schema (part / 1_000) ≡ true = ap (looks_at look corpus.schema) of_part ∙ looks in (
          part,
          ap (λ b. cond b (passage_at corpus.items row part) []) seen
              ∙ (ap (λ q. slice_index_or (passages values q) (part % 1_000) []) of_part ∙ (ap (λ o. slice_index_or (passages values property) o []) ordinal ∙ r.2)),
        )

  to_looked : (look : Look) (tree : SpanTree) (part : ℕ) (t : Triple) → IsIn t (triples (passage_looked corpus look row part) tree) →
      IsIn (passage_looked corpus look row part) (looked look corpus.schema values)
  to_looked look tree part t i = at (looks_at look corpus.schema (part / 1_000)) refl
    where
      in_passages : (look : Look) → looks_at look corpus.schema (part / 1_000) ≡ true → (p : Passage) → IsIn p (passages values (part / 1_000)) → IsIn p (looked look corpus.schema values)
      in_passages (One wanted) looks p k = subst (λ q. IsIn p (passages values q)) (eqb-true (part / 1_000) wanted looks) k
      in_passages Searchable looks p k =
          let same : 0 + part / 1_000 ≡ part / 1_000 = omega arith in
          to_flat_map (passages values) p (part / 1_000) (searchable corpus.schema) (subst (λ n. IsIn n (searchable corpus.schema)) same (to_searchable 0 corpus.schema (part / 1_000) looks)) k

      known : looks_at look corpus.schema (part / 1_000) ≡ true → passage_looked corpus look row part ≡ passage_at corpus.items row part →
          (IsIn (passage_at corpus.items row part) (passages values (part / 1_000))) ⊎ (passage_at corpus.items row part ≡ []) → IsIn (passage_looked corpus look row part) (looked look corpus.schema values)
      known looks is (inl k) = subst (λ p. IsIn p (looked look corpus.schema values)) (sym is) (in_passages look looks (passage_at corpus.items row part) k)
      known looks is (inr e) = absurd (none_in tree t (subst (λ p. IsIn t (triples p tree)) (is ∙ e) i))

      at : (b : Bool) → looks_at look corpus.schema (part / 1_000) ≡ b → IsIn (passage_looked corpus look row part) (looked look corpus.schema values)
      at true looks = known looks (ap (λ b. cond b (passage_at corpus.items row part) []) looks) (at_number (passages values (part / 1_000)) (part % 1_000) [])
      at false looks = absurd (none_in tree t (subst (λ p. IsIn t (triples p tree)) (ap (λ b. cond b (passage_at corpus.items row part) []) looks) i))

  of_looked : (look : Look) (p : Passage) → IsIn p (looked look corpus.schema values) → (part : ℕ) × (passage_looked corpus look row part ≡ p)
  of_looked (One property) p k = looked_at (One property) property p (eq-eqb property property refl) k
  of_looked Searchable p k =
      let r = of_flat_map (passages values) p (searchable corpus.schema) k in
      let s = of_searchable 0 corpus.schema r.0 r.1 in
      let is : r.0 ≡ s.0 = omega (arith, s.1) in
      looked_at Searchable r.0 p (subst (λ n. is_searchable (slice_get corpus.schema n) ≡ true) (sym is) s.2) r.2

-- ---- the law

weight_of : (corpus : Corpus) (look : Look) (tree : SpanTree) (vs : List ℕ) (lists : List (List Span)) → EachWeightOf corpus look tree vs lists → (l : List Span) → IsIn l lists →
    (v : ℕ) × IsStreamOf corpus look tree v l
weight_of corpus look tree [] [] each l i = absurd i
weight_of corpus look tree [] (k ∷ lists) each l i = absurd each
weight_of corpus look tree (v ∷ vs) [] each l i = absurd i
weight_of corpus look tree (v ∷ vs) (k ∷ lists) each l (inl p) = (v, subst (IsStreamOf corpus look tree v) (sym p) each.0)
weight_of corpus look tree (v ∷ vs) (k ∷ lists) each l (inr i) = weight_of corpus look tree vs lists each.1 l i

stream_with : (corpus : Corpus) (look : Look) (tree : SpanTree) (vs : List ℕ) (lists : List (List Span)) → EachWeightOf corpus look tree vs lists → (v : ℕ) → IsIn v vs →
    (l : List Span) × IsIn l lists × IsStreamOf corpus look tree v l
stream_with corpus look tree [] lists each v i = absurd i
stream_with corpus look tree (w ∷ vs) [] each v i = absurd each
stream_with corpus look tree (w ∷ vs) (k ∷ lists) each v (inl p) = (k, inl refl, subst (λ u. IsStreamOf corpus look tree u k) (sym p) each.0)
stream_with corpus look tree (w ∷ vs) (k ∷ lists) each v (inr i) = let r = stream_with corpus look tree vs lists each.1 v i in (r.0, inr r.1, r.2)

abbrev has_match : SpanTree → Passage → Bool
has_match tree p = not (is_empty (triples p tree))

pub rows_have_matches : WeightsOfMatches → RowsHaveMatches
rows_have_matches of_matches corpus look tree lists valid each row = same_test (list_any (has_row row) lists) (list_any (has_match tree) (looked look corpus.schema (values_at corpus.items row))) to of
  where
    to : list_any (has_row row) lists ≡ true → list_any (has_match tree) (looked look corpus.schema (values_at corpus.items row)) ≡ true
    to e =
        let l = some_of (has_row row) lists e in
        let s = some_of (is_in_row row) l.0 l.2 in
        let w = weight_of corpus look tree (weights tree) lists each l.0 l.1 in
        let here : passage_of s.0 ≡ (row, s.0.part) = ap (λ n. (n, s.0.part)) (eqb-true s.0.row row s.2) in
        let t = match_of w.0 s.0 in
        let k = w.1.dense row s.0.part in
        let found = of_filter (λ (u : Triple). nat_eq u.weight w.0) t (triples (passage_looked corpus look row s.0.part) tree) (k.some t (match_in w.0 (row, s.0.part) l.0 s.0 s.1 here)) in
        any_of (has_match tree) (passage_looked corpus look row s.0.part) (looked look corpus.schema (values_at corpus.items row)) (to_looked corpus valid row look tree s.0.part t found.0)
        (some_match (triples (passage_looked corpus look row s.0.part) tree) t found.0)

    of : list_any (has_match tree) (looked look corpus.schema (values_at corpus.items row)) ≡ true → list_any (has_row row) lists ≡ true
    of e =
        let p = some_of (has_match tree) (looked look corpus.schema (values_at corpus.items row)) e in
        let t = first_match (triples p.0 tree) p.2 in
        let at = of_looked corpus valid row look p.0 p.1 in
        let found : IsIn t.0 (triples (passage_looked corpus look row at.0) tree) = subst (λ q. IsIn t.0 (triples q tree)) (sym at.1) t.1 in
        let l = stream_with corpus look tree (weights tree) lists each t.0.weight (of_matches (passage_looked corpus look row at.0) tree t.0 found) in
        let k = l.2.dense row at.0 in
        let b = k.below t.0 (to_filter (λ (u : Triple). nat_eq u.weight t.0.weight) t.0 (triples (passage_looked corpus look row at.0) tree) found (eq-eqb t.0.weight t.0.weight refl)) in
        let s = span_in t.0.weight (row, at.0) l.0 b.0 b.1 in
        let here : is_in_row row s.0 ≡ true = eq-eqb s.0.row row (ap (λ (q : ℕ × ℕ). q.0) s.2) in
        any_of (has_row row) l.0 lists l.1 (any_of (is_in_row row) s.0 l.0 s.1 here)
