-- The spans of a literal in one row are its places in the row's passages, in order.
use Rattle.std.proofs.Common.{◌≡◌, inl, inr, ℕ, zero, suc, ◌+◌, ◌-◌, ◌*◌, ◌/◌, ◌%◌, ◌<◌, ◌≤◌, Bool, true, false, not, ◌&&◌, ◌||◌, cond, List, [], ◌∷◌, ◌++◌, length, map, get_or, refl, sym, ap, ◌∙◌, subst, arith, length-append}
use mathlib.Core.Logic.{⊎_elim}
use Rattle.std.specs.Prelude.{nat_le, ◌==◌, flat_map, sum_by}
use Rattle.std.specs.List.{list_any}
use Rattle.std.proofs.lemmas.Bool.{eq-eqb, eqb-true}
use Rattle.std.proofs.lemmas.List.{length-map, append-nil}
use Rattle.std.proofs.lemmas.List.Folds.{list_any-append}
use Rattle.std.proofs.lemmas.List.Sums.{sum_by-append, sum_by-cons}
use Rattle.sq_schema.specs.declared.property.Property.{Property}
use Rattle.sq_tokens.specs.Pattern.{Phrase}
use Rattle.sq_cursor.specs.declared.span.Span.{Span}
use Rattle.sq_cursor.specs.Spans.{comes_after, all_come_after, are_ordered}
use Rattle.sq_model.specs.Looked.{looked, looked_rows}
use Rattle.sq_model.specs.Passages.{Passage, passages, searchable_from}
use Rattle.sq_model.specs.Places.{places, is_edge, fits_edge}
use Rattle.sq_model.specs.Valid.{IsValid}
use Rattle.sq_model.specs.declared.corpus.Value.{Value}
use Rattle.sq_model.specs.declared.corpus.Corpus.{Corpus}
use Rattle.sq_model.specs.declared.fql.Look.{Look}
use Rattle.sq_model.specs.declared.fql.Look.TheVariants.{Searchable, One}
use Rattle.sq_model.proofs.Members.{IsIn, to_filter, of_filter, to_map, of_map, in_append, in_append_left, in_append_right}
use Rattle.sq_near.specs.Covers.{is_at}
use Rattle.sq_near.specs.Rows.{is_in_row, spans_in}
use Rattle.sq_near.specs.Streams.{ordered_filter}
use Rattle.sq_near.specs.Laws.{JoinedAreLeast}
use Rattle.sq_postings.specs.Edges.{is_at_edge}
use Rattle.sq_postings.specs.Indexed.{Indexed, length_of}
use Rattle.sq_postings.specs.Laws.{ListsHavePlaces}
use Rattle.sq_postings.specs.Occurrences.{values_at, passage_at}
use Rattle.sq_postings.specs.StandsFor.{StandsFor}
use Rattle.sq_streams.specs.Looked.{looks_at, passage_looked}
use Rattle.sq_streams.specs.PatternSpans.{phrase_spans}
use Rattle.sq_streams.proofs.SpanLemmas.{and_left, and_right, after_part, ordered_same}
use Rattle.sq_streams.proofs.PatternLists.{to_looked, of_looked}
use Rattle.sq_streams.proofs.PatternPostings.{few_passages}
use Rattle.sq_streams.proofs.PatternPlaces.{placed, placed_ordered, is_here, of_places, same_at, phrase_ordered}

-- ---- the places in the passages of a row

-- in passages of which the first has this part
abbrev in_passages : Phrase → ℕ → ℕ → List Passage → List Span
in_passages phrase row part [] = []
in_passages phrase row part (passage ∷ list) = map (placed (length phrase.texts) row part) (places phrase passage) ++ in_passages phrase row (part + 1) list

abbrev in_properties : Phrase → ℕ → List Value → List ℕ → List Span
in_properties phrase row values [] = []
in_properties phrase row values (property ∷ properties) = in_passages phrase row (property * 1_000) (passages values property) ++ in_properties phrase row values properties

record IsPlaced (phrase : Phrase) (row part : ℕ) (list : List Passage) (s : Span) : Type 0 where
  ordinal : ℕ
  place : ℕ
  below : ordinal < length list
  here : IsIn place (places phrase (get_or list ordinal []))
  same : s ≡ placed (length phrase.texts) row (part + ordinal) place

of_passages : (phrase : Phrase) (row part : ℕ) (list : List Passage) (s : Span) → IsIn s (in_passages phrase row part list) → IsPlaced phrase row part list s
of_passages phrase row part [] s h = absurd h
of_passages phrase row part (passage ∷ list) s h = ⊎_elim
    (λ k.
    let m = of_map (placed (length phrase.texts) row part) s (places phrase passage) k in
    let first : part ≡ part + 0 = omega arith in
    record { ordinal = 0; place = m.0; below = omega arith; here = m.1; same = m.2 ∙ ap (λ n. placed (length phrase.texts) row n m.0) first })
    (λ k.
    let r = of_passages phrase row (part + 1) list s k in
    let next : part + 1 + r.ordinal ≡ part + suc r.ordinal = omega arith in
    record { ordinal = suc r.ordinal; place = r.place; below = omega (arith, r.below); here = r.here; same = r.same ∙ ap (λ n. placed (length phrase.texts) row n r.place) next })
    (in_append s (map (placed (length phrase.texts) row part) (places phrase passage)) (in_passages phrase row (part + 1) list) h)

to_passages : (phrase : Phrase) (row part : ℕ) (list : List Passage) (ordinal place : ℕ) → ordinal < length list → IsIn place (places phrase (get_or list ordinal [])) →
    IsIn (placed (length phrase.texts) row (part + ordinal) place) (in_passages phrase row part list)
to_passages phrase row part [] ordinal place l h = absurd (omega (arith, l))
to_passages phrase row part (passage ∷ list) zero place l h =
    subst (λ n. IsIn (placed (length phrase.texts) row n place) (in_passages phrase row part (passage ∷ list))) (omega arith)
    (in_append_left (placed (length phrase.texts) row part place) (map (placed (length phrase.texts) row part) (places phrase passage)) (in_passages phrase row (part + 1) list)
    (to_map (placed (length phrase.texts) row part) place (places phrase passage) h))
to_passages phrase row part (passage ∷ list) (suc ordinal) place l h =
    in_append_right (placed (length phrase.texts) row (part + suc ordinal) place) (map (placed (length phrase.texts) row part) (places phrase passage)) (in_passages phrase row (part + 1) list)
    (subst (λ n. IsIn (placed (length phrase.texts) row n place) (in_passages phrase row (part + 1) list)) (omega arith) (to_passages phrase row (part + 1) list ordinal place (omega (arith, l)) h))

record IsPlacedIn (phrase : Phrase) (row : ℕ) (values : List Value) (properties : List ℕ) (s : Span) : Type 0 where
  property : ℕ
  listed : IsIn property properties
  is : IsPlaced phrase row (property * 1_000) (passages values property) s

of_properties : (phrase : Phrase) (row : ℕ) (values : List Value) (properties : List ℕ) (s : Span) → IsIn s (in_properties phrase row values properties) → IsPlacedIn phrase row values properties s
of_properties phrase row values [] s h = absurd h
of_properties phrase row values (property ∷ properties) s h = ⊎_elim
    (λ k. record { property = property; listed = inl refl; is = of_passages phrase row (property * 1_000) (passages values property) s k })
    (λ k. let r = of_properties phrase row values properties s k in record { property = r.property; listed = inr r.listed; is = r.is })
    (in_append s (in_passages phrase row (property * 1_000) (passages values property)) (in_properties phrase row values properties) h)

to_properties : (phrase : Phrase) (row : ℕ) (values : List Value) (properties : List ℕ) (property : ℕ) (s : Span) → IsIn property properties →
    IsIn s (in_passages phrase row (property * 1_000) (passages values property)) → IsIn s (in_properties phrase row values properties)
to_properties phrase row values [] property s i h = absurd i
to_properties phrase row values (p ∷ properties) property s (inl e) h =
    in_append_left s (in_passages phrase row (p * 1_000) (passages values p)) (in_properties phrase row values properties)
    (subst (λ n. IsIn s (in_passages phrase row (n * 1_000) (passages values n))) e h)
to_properties phrase row values (p ∷ properties) property s (inr i) h =
    in_append_right s (in_passages phrase row (p * 1_000) (passages values p)) (in_properties phrase row values properties) (to_properties phrase row values properties property s i h)

-- ---- they are in order

all_behind : (a : Span) (ys : List Span) → ((y : Span) → IsIn y ys → comes_after a y ≡ true) → all_come_after a ys ≡ true
all_behind a [] h = refl
all_behind a (y ∷ ys) h = rw (h y (inl refl)) (all_behind a ys (λ z i. h z (inr i)))

all_behind_both : (a : Span) (xs ys : List Span) → all_come_after a xs ≡ true → all_come_after a ys ≡ true → all_come_after a (xs ++ ys) ≡ true
all_behind_both a [] ys h k = k
all_behind_both a (x ∷ xs) ys h k = rw (and_left (comes_after a x) (all_come_after a xs) h) (all_behind_both a xs ys (and_right (comes_after a x) (all_come_after a xs) h) k)

append_ordered : (xs ys : List Span) → are_ordered xs ≡ true → are_ordered ys ≡ true → ((x y : Span) → IsIn x xs → IsIn y ys → comes_after x y ≡ true) → are_ordered (xs ++ ys) ≡ true
append_ordered [] ys h k f = k
append_ordered (x ∷ xs) ys h k f =
    let proper = and_left (nat_le x.first x.last) (all_come_after x xs && are_ordered xs) h in
    let more = and_right (nat_le x.first x.last) (all_come_after x xs && are_ordered xs) h in
    let behind = all_behind_both x xs ys (and_left (all_come_after x xs) (are_ordered xs) more) (all_behind x ys (λ y i. f x y (inl refl) i)) in
    rw (proper, behind) (append_ordered xs ys (and_right (all_come_after x xs) (are_ordered xs) more) k (λ u v i j. f u v (inr i) j))

-- each is at least `low`, and above the one before
abbrev Rise : ℕ → List ℕ → Type 0
Rise low [] = Unit {0}
Rise low (p ∷ ps) = (low ≤ p) × Rise (p + 1) ps

rise_lower : (low high : ℕ) (ps : List ℕ) → low ≤ high → Rise high ps → Rise low ps
rise_lower low high [] l h = tt
rise_lower low high (p ∷ ps) l h = (omega (arith, l, h.0), h.1)

rise_in : (low : ℕ) (ps : List ℕ) (p : ℕ) → Rise low ps → IsIn p ps → low ≤ p
rise_in low [] p h i = absurd i
rise_in low (q ∷ ps) p h (inl e) = omega (arith, h.0, e)
rise_in low (q ∷ ps) p h (inr i) = omega (arith, h.0, rise_in (q + 1) ps p h.1 i)

searchable_rise : (at : ℕ) (schema : List Property) → Rise at (searchable_from at schema)
searchable_rise at [] = tt
searchable_rise at (row ∷ rows) = by row.searchable (searchable_rise (at + 1) rows)
  where
    by : (b : Bool) → Rise (at + 1) (searchable_from (at + 1) rows) → Rise at (cond b (at ∷ searchable_from (at + 1) rows) (searchable_from (at + 1) rows))
    by true h = (omega arith, h)
    by false h = rise_lower at (at + 1) (searchable_from (at + 1) rows) (omega arith) h

looked_rise : (look : Look) (schema : List Property) → Rise 0 (looked_rows look schema)
looked_rise (One property) schema = (omega arith, tt)
looked_rise Searchable schema = searchable_rise 0 schema

row_is : (phrase : Phrase) (row part : ℕ) (list : List Passage) (s : Span) → IsPlaced phrase row part list s → (s.row ≡ row) × (part ≤ s.part) × (s.part < part + length list)
row_is phrase row part list s h =
    let p : s.part ≡ part + h.ordinal = ap (λ (x : Span). x.part) h.same in
    (ap (λ (x : Span). x.row) h.same, omega (arith, p), omega (arith, p, h.below))

module _ (phrase : Phrase) (some : 0 < length phrase.texts) (row : ℕ) where
  passages_ordered : (part : ℕ) (list : List Passage) → are_ordered (in_passages phrase row part list) ≡ true
  passages_ordered part [] = refl
  passages_ordered part (passage ∷ list) =
      append_ordered (map (placed (length phrase.texts) row part) (places phrase passage)) (in_passages phrase row (part + 1) list)
      (placed_ordered phrase row part passage some) (passages_ordered (part + 1) list)
      (λ x y i j.
      let m = of_map (placed (length phrase.texts) row part) x (places phrase passage) i in
      let r = row_is phrase row (part + 1) list y (of_passages phrase row (part + 1) list y j) in
      let p : x.part ≡ part = ap (λ (s : Span). s.part) m.2 in
      after_part x y (ap (λ (s : Span). s.row) m.2 ∙ sym r.0) (omega (arith, p, r.1)))

  properties_ordered : (values : List Value) → ((property : ℕ) → length (passages values property) ≤ 1_000) → (low : ℕ) (properties : List ℕ) → Rise low properties →
      are_ordered (in_properties phrase row values properties) ≡ true
  properties_ordered values few low [] h = refl
  properties_ordered values few low (property ∷ properties) h =
      append_ordered (in_passages phrase row (property * 1_000) (passages values property)) (in_properties phrase row values properties)
      (passages_ordered (property * 1_000) (passages values property)) (properties_ordered values few (property + 1) properties h.1)
      (λ x y i j.
      let r = row_is phrase row (property * 1_000) (passages values property) x (of_passages phrase row (property * 1_000) (passages values property) x i) in
      let q = of_properties phrase row values properties y j in
      let t = row_is phrase row (q.property * 1_000) (passages values q.property) y q.is in
      let later = rise_in (property + 1) properties q.property h.1 q.listed in
      after_part x y (r.0 ∙ sym t.0) (omega (arith, r.2, t.1, later, few property)))

-- ---- the spans of a row

in_row : (row : ℕ) (s : Span) → is_in_row row s ≡ true → s.row ≡ row
in_row row s e = eqb-true s.row row e

module _ (index : Indexed) (corpus : Corpus) (valid : IsValid corpus) (stands : StandsFor index corpus) (have : ListsHavePlaces index corpus) (least : JoinedAreLeast) (look : Look) (phrase : Phrase) (some : 0 < length phrase.texts) (row : ℕ) where
  abbrev values : List Value
  values = values_at corpus.items row

  abbrev properties : List ℕ
  properties = looked_rows look corpus.schema

  abbrev spans : List Span
  spans = phrase_spans index look phrase

  to_row : (s : Span) → IsIn s (spans_in row spans) → IsIn s (in_properties phrase row values properties)
  to_row s h = by (looks_at look corpus.schema (s.part / 1_000)) refl
    where
      f : IsIn s spans × (is_in_row row s ≡ true)
      f = of_filter (is_in_row row) s spans h

      here : s.row ≡ row
      here = in_row row s f.1

      k : (i : ℕ) × IsIn i (places phrase (passage_looked corpus look row s.part)) × (s ≡ placed (length phrase.texts) row s.part i)
      k = of_map (placed (length phrase.texts) row s.part) s (places phrase (passage_looked corpus look row s.part))
          (subst (IsIn s) (same_at index corpus valid stands have least look phrase row s.part some) (to_filter (is_at (row, s.part)) s spans f.0 (is_here row s.part s here refl)))

      within : k.0 < length (passage_looked corpus look row s.part)
      within = (of_places phrase (passage_looked corpus look row s.part) k.0 k.1).1

      by : (b : Bool) → looks_at look corpus.schema (s.part / 1_000) ≡ b → IsIn s (in_properties phrase row values properties)
      by false e =
          let none : passage_looked corpus look row s.part ≡ [] = rw e refl in
          absurd (omega (arith, within, ap length none))
      by true e =
          let property : ℕ = s.part / 1_000 in
          let ordinal : ℕ = s.part % 1_000 in
          let is : passage_looked corpus look row s.part ≡ get_or (passages values property) ordinal [] = rw e refl in
          let place = subst (λ p. IsIn k.0 (places phrase p)) is k.1 in
          let long : k.0 < length (get_or (passages values property) ordinal []) = subst (λ p. k.0 < length p) is within in
          let split : property * 1_000 + ordinal ≡ s.part = omega arith in
          let there = to_passages phrase row (property * 1_000) (passages values property) ordinal k.0 (listed (passages values property) ordinal k.0 long) place in
          to_properties phrase row values properties property s (to_looked look corpus.schema property e)
          (subst (λ x. IsIn x (in_passages phrase row (property * 1_000) (passages values property))) (ap (λ n. placed (length phrase.texts) row n k.0) split ∙ sym k.2) there)
        where
          listed : (list : List Passage) (n i : ℕ) → i < length (get_or list n []) → n < length list
          listed [] n i l = absurd (omega (arith, l))
          listed (x ∷ list) zero i l = omega arith
          listed (x ∷ list) (suc n) i l = let r = listed list n i l in omega (arith, r)

  of_row : (s : Span) → IsIn s (in_properties phrase row values properties) → IsIn s (spans_in row spans)
  of_row s h =
      let q = of_properties phrase row values properties s h in
      let r = q.is in
      let few = few_passages corpus valid row q.property in
      let part : ℕ = q.property * 1_000 + r.ordinal in
      let of : part / 1_000 ≡ q.property = omega (arith, r.below, few) in
      let at : part % 1_000 ≡ r.ordinal = omega (arith, r.below, few) in
      let looks : looks_at look corpus.schema (part / 1_000) ≡ true = ap (looks_at look corpus.schema) of ∙ of_looked look corpus.schema q.property q.listed in
      let whole : passage_looked corpus look row part ≡ passage_at corpus.items row part = rw looks refl in
      let is : passage_looked corpus look row part ≡ get_or (passages values q.property) r.ordinal [] =
      whole ∙ ap (λ p. get_or (passages values p) (part % 1_000) []) of ∙ ap (λ n. get_or (passages values q.property) n []) at in
      let place = to_map (placed (length phrase.texts) row part) r.place (places phrase (passage_looked corpus look row part)) (subst (λ p. IsIn r.place (places phrase p)) (sym is) r.here) in
      let inside = subst (IsIn (placed (length phrase.texts) row part r.place)) (sym (same_at index corpus valid stands have least look phrase row part some)) place in
      let f = of_filter (is_at (row, part)) (placed (length phrase.texts) row part r.place) spans inside in
      subst (λ x. IsIn x (spans_in row spans)) (sym r.same) (to_filter (is_in_row row) (placed (length phrase.texts) row part r.place) spans f.0 (eq-eqb row row refl))

  same_row : spans_in row spans ≡ in_properties phrase row values properties
  same_row =
      ordered_same (spans_in row spans) (in_properties phrase row values properties)
      (ordered_filter (is_in_row row) spans (phrase_ordered index corpus valid stands have least look phrase.prefixed phrase.texts))
      (properties_ordered phrase some row values (few_passages corpus valid row) 0 properties (looked_rise look corpus.schema))
      to_row of_row

  looked_are : looked look corpus.schema values ≡ flat_map (passages values) properties
  looked_are = at look
    where
      at : (look : Look) → looked look corpus.schema values ≡ flat_map (passages values) (looked_rows look corpus.schema)
      at (One property) = sym (append-nil (passages values property))
      at Searchable = refl

  -- ---- how many

  abbrev count : Passage → ℕ
  count passage = length (places phrase passage)

  count_passages : (part : ℕ) (list : List Passage) → length (in_passages phrase row part list) ≡ sum_by count list
  count_passages part [] = refl
  count_passages part (passage ∷ list) =
      let here : length (map (placed (length phrase.texts) row part) (places phrase passage)) ≡ count passage = length-map (places phrase passage) (placed (length phrase.texts) row part) in
      omega (arith, length-append (map (placed (length phrase.texts) row part) (places phrase passage)) (in_passages phrase row (part + 1) list), here, count_passages (part + 1) list, sum_by-cons count passage list)

  count_properties : (ps : List ℕ) → length (in_properties phrase row values ps) ≡ sum_by count (flat_map (passages values) ps)
  count_properties [] = refl
  count_properties (property ∷ ps) =
      omega (
        arith,
        length-append (in_passages phrase row (property * 1_000) (passages values property)) (in_properties phrase row values ps),
        count_passages (property * 1_000) (passages values property),
        count_properties ps,
        sum_by-append count (passages values property) (flat_map (passages values) ps),
      )

  pub counted : length (spans_in row spans) ≡ sum_by count (looked look corpus.schema values)
  counted = ap length same_row ∙ count_properties properties ∙ ap (sum_by count) (sym looked_are)

  -- ---- at edges

  module _ (starts ends : Bool) where
    abbrev edge : Passage → Bool
    edge = fits_edge phrase starts ends

    edge_places : (part : ℕ) (passage : Passage) → length_of index row part ≡ length passage → (is : List ℕ) →
        list_any (is_at_edge index starts ends) (map (placed (length phrase.texts) row part) is) ≡ list_any (is_edge starts ends (length phrase.texts) (length passage)) is
    edge_places part passage long [] = refl
    edge_places part passage long (i ∷ is) =
        let m : ℕ = length phrase.texts in
        let last : i + m - 1 + 1 ≡ i + m = omega (arith, some) in
        let test : (i + m - 1 + 1 == length_of index row part) ≡ (i + m == length passage) = ap (λ n. n == length_of index row part) last ∙ ap (λ n. i + m == n) long in
        ap (λ b. ((not starts || i == 0) && (not ends || b)) || list_any (is_at_edge index starts ends) (map (placed m row part) is)) test
        ∙ ap (λ b. is_edge starts ends m (length passage) i || b) (edge_places part passage long is)

    edge_passages : (property part k : ℕ) (list all : List Passage) → part ≡ property * 1_000 + k → all ≡ passages values property → ((n : ℕ) → get_or list n [] ≡ get_or all (k + n) []) → k + length list ≤ 1_000 →
        list_any (is_at_edge index starts ends) (in_passages phrase row part list) ≡ list_any edge list
    edge_passages property part k [] all e f g l = refl
    edge_passages property part k (passage ∷ list) all e f g l =
        let of : part / 1_000 ≡ property = omega (arith, e, l) in
        let at : part % 1_000 ≡ k = omega (arith, e, l) in
        let first : k ≡ k + 0 = omega arith in
        let there : passage_at corpus.items row part ≡ passage =
        ap (λ p. get_or (passages values p) (part % 1_000) []) of ∙ ap (λ n. get_or (passages values property) n []) at ∙ ap (λ ps. get_or ps k []) (sym f)
        ∙ ap (λ n. get_or all n []) first ∙ sym (g 0) in
        let long : length_of index row part ≡ length passage = stands.lengths row part ∙ ap length there in
        let next : (n : ℕ) → get_or list n [] ≡ get_or all (k + 1 + n) [] = λ n. let on : k + suc n ≡ k + 1 + n = omega arith in g (suc n) ∙ ap (λ i. get_or all i []) on in
        list_any-append (is_at_edge index starts ends) (map (placed (length phrase.texts) row part) (places phrase passage)) (in_passages phrase row (part + 1) list)
        ∙ ap (λ b. b || list_any (is_at_edge index starts ends) (in_passages phrase row (part + 1) list)) (edge_places part passage long (places phrase passage))
        ∙ ap (λ b. edge passage || b) (edge_passages property (part + 1) (k + 1) list all (omega (arith, e)) f next (omega (arith, l)))

    edge_properties : (ps : List ℕ) → list_any (is_at_edge index starts ends) (in_properties phrase row values ps) ≡ list_any edge (flat_map (passages values) ps)
    edge_properties [] = refl
    edge_properties (property ∷ ps) =
        list_any-append (is_at_edge index starts ends) (in_passages phrase row (property * 1_000) (passages values property)) (in_properties phrase row values ps)
        ∙ ap (λ b. b || list_any (is_at_edge index starts ends) (in_properties phrase row values ps))
        (edge_passages property (property * 1_000) 0 (passages values property) (passages values property) (omega arith) refl (λ n. let same : n ≡ 0 + n = omega arith in ap (λ i. get_or (passages values property) i []) same) (omega (arith, few_passages corpus valid row property)))
        ∙ ap (λ b. list_any edge (passages values property) || b) (edge_properties ps) ∙ sym (list_any-append edge (passages values property) (flat_map (passages values) ps))

    pub edges : list_any (is_at_edge index starts ends) (spans_in row spans) ≡ list_any edge (looked look corpus.schema values)
    edges = ap (list_any (is_at_edge index starts ends)) same_row ∙ edge_properties properties ∙ ap (list_any edge) (sym looked_are)
