-- The spans of a literal are its places, passage by passage.
use Rattle.std.proofs.Common.{◌≡◌, inl, inr, ℕ, zero, suc, ◌+◌, ◌-◌, ◌<◌, ◌≤◌, Bool, true, false, ◌&&◌, cond, List, [], ◌∷◌, length, map, filter, drop, refl, sym, ap, ◌∙◌, subst, arith}
use Rattle.std.specs.Prelude.{eqb, nat_le, slice_get, Option, Some, None}
use Rattle.std.specs.List.{range_with_len}
use Rattle.std.proofs.lemmas.Bool.{eq-eqb, eqb-true}
use Rattle.std.proofs.lemmas.Bool.Decides.{nat_tests}
use Rattle.std.proofs.lemmas.List.{length-map}
use Rattle.std.proofs.lemmas.Option.{slice_get_within}
use Rattle.sq_tokens.specs.Token.{Token, token_text}
use Rattle.sq_tokens.specs.Pattern.{Phrase, is_token_asked, begins_with, fits_at}
use Rattle.sq_cursor.specs.declared.span.Span.{Span}
use Rattle.sq_cursor.specs.Spans.{all_come_after, are_ordered}
use Rattle.sq_model.specs.Lists.{joined, is_empty}
use Rattle.sq_model.specs.Passages.{Passage}
use Rattle.sq_model.specs.Places.{places}
use Rattle.sq_model.specs.Triples.{at_place, of_phrase, near}
use Rattle.sq_model.specs.Valid.{IsValid}
use Rattle.sq_model.specs.declared.corpus.Corpus.{Corpus}
use Rattle.sq_model.specs.declared.fql.Look.{Look}
use Rattle.sq_model.specs.declared.triple.Triple.{Triple}
use Rattle.sq_model.proofs.Members.{IsIn, to_filter, of_filter, to_map, of_map}
use Rattle.sq_near.specs.Covers.{is_at, match_of, matches_at, covers}
use Rattle.sq_near.specs.Laws.{IsLeastPair, AllOrdered, JoinedAreLeast}
use Rattle.sq_near.specs.Least.{ordered_least}
use Rattle.sq_near.specs.Streams.{ordered_filter}
use Rattle.sq_postings.specs.Indexed.{Indexed, spans_of_list}
use Rattle.sq_postings.specs.Laws.{span_at, ListsHavePlaces}
use Rattle.sq_postings.specs.StandsFor.{StandsFor}
use Rattle.sq_streams.specs.Looked.{passage_looked}
use Rattle.sq_streams.specs.PatternSpans.{lists_looked, token_spans, texts_spans, in_a_row, phrase_spans}
use Rattle.sq_streams.proofs.SpanLemmas.{and_left, and_right, after_ends, ordered_same}
use Rattle.sq_streams.proofs.PatternTokens.{HasToken, of_token, to_token}
use Rattle.sq_streams.proofs.PatternRuns.{single_at, AreSingles, Runs, of_least, to_least}

-- ---- where a phrase fits

-- from i on the tokens are those asked for
abbrev pub Stands : Bool → List (List ℕ) → Passage → ℕ → Type 0
Stands prefixed [] passage i = Unit {0}
Stands prefixed (text ∷ more) passage i = HasToken (prefixed && is_empty more) text passage i × Stands prefixed more passage (i + 1)

drop_here : (passage : Passage) (i : ℕ) (token : Token) → slice_get passage i ≡ Some token → drop i (map token_text passage) ≡ token_text token ∷ drop (i + 1) (map token_text passage)
drop_here [] i token h = absurd (grind (arith, h))
drop_here (t ∷ passage) zero token h = let e : t ≡ token = grind (arith, h) in ap (λ (x : Token). token_text x ∷ map token_text passage) e
drop_here (t ∷ passage) (suc i) token h =
    let next : suc (i + 1) ≡ suc i + 1 = omega arith in
    drop_here passage i token h ∙ ap (λ n. token_text token ∷ drop n (map token_text (t ∷ passage))) next

drop_past : (passage : Passage) (i : ℕ) → slice_get passage i ≡ None → drop i (map token_text passage) ≡ []
drop_past [] zero h = refl
drop_past [] (suc i) h = refl
drop_past (t ∷ passage) zero h = absurd (grind (arith, h))
drop_past (t ∷ passage) (suc i) h = drop_past passage i h

and_true : (b : Bool) → b && true ≡ b
and_true true = refl
and_true false = refl

and_false : (b : Bool) → b && false ≡ false
and_false true = refl
and_false false = refl

to_begins : (prefixed : Bool) (texts : List (List ℕ)) (passage : Passage) (i : ℕ) → Stands prefixed texts passage i → begins_with prefixed texts (drop i (map token_text passage)) ≡ true
to_begins prefixed [] passage i h = refl
to_begins prefixed (text ∷ []) passage i h =
    ap (begins_with prefixed (text ∷ [])) (drop_here passage i h.0.token h.0.here)
    ∙ subst (λ b. is_token_asked b text (token_text h.0.token) ≡ true) (and_true prefixed) h.0.asked
to_begins prefixed (text ∷ next ∷ more) passage i h =
    let equal : is_token_asked false text (token_text h.0.token) ≡ true = subst (λ b. is_token_asked b text (token_text h.0.token) ≡ true) (and_false prefixed) h.0.asked in
    ap (begins_with prefixed (text ∷ next ∷ more)) (drop_here passage i h.0.token h.0.here)
    ∙ ap (λ b. b && begins_with prefixed (next ∷ more) (drop (i + 1) (map token_text passage))) equal
    ∙ to_begins prefixed (next ∷ more) passage (i + 1) h.1

of_begins : (prefixed : Bool) (texts : List (List ℕ)) (passage : Passage) (i : ℕ) → begins_with prefixed texts (drop i (map token_text passage)) ≡ true → Stands prefixed texts passage i
of_begins prefixed [] passage i h = tt
of_begins prefixed (text ∷ more) passage i h = by (λ k. of_begins prefixed more passage (i + 1) k) (slice_get passage i) refl
  where
    asked : (more : List (List ℕ)) (token : Token) → begins_with prefixed (text ∷ more) (token_text token ∷ drop (i + 1) (map token_text passage)) ≡ true →
        (is_token_asked (prefixed && is_empty more) text (token_text token) ≡ true) × (begins_with prefixed more (drop (i + 1) (map token_text passage)) ≡ true)
    asked [] token h = (subst (λ b. is_token_asked b text (token_text token) ≡ true) (sym (and_true prefixed)) h, refl)
    asked (next ∷ more) token h = (
      subst (λ b. is_token_asked b text (token_text token) ≡ true) (sym (and_false prefixed)) (and_left (is_token_asked false text (token_text token)) (begins_with prefixed (next ∷ more) (drop (i + 1) (map token_text passage))) h),
      and_right (is_token_asked false text (token_text token)) (begins_with prefixed (next ∷ more) (drop (i + 1) (map token_text passage))) h,
    )

    none : (more : List (List ℕ)) → begins_with prefixed (text ∷ more) [] ≡ true → ⊥
    none [] h = grind (arith, h)
    none (next ∷ more) h = grind (arith, h)

    by : (begins_with prefixed more (drop (i + 1) (map token_text passage)) ≡ true → Stands prefixed more passage (i + 1)) → (o : Option Token) → slice_get passage i ≡ o → Stands prefixed (text ∷ more) passage i
    by further None e = absurd (none more (ap (begins_with prefixed (text ∷ more)) (sym (drop_past passage i e)) ∙ h))
    by further (Some token) e =
        let a = asked more token (ap (begins_with prefixed (text ∷ more)) (sym (drop_here passage i token e)) ∙ h) in
        (record { token = token; here = e; asked = a.0 }, further a.1)

-- ---- places

to_range : (o n i : ℕ) → o ≤ i → i < o + n → IsIn i (range_with_len o n)
to_range o zero i l m = absurd (omega (arith, l, m))
to_range o (suc n) i l m = by (λ k. to_range (o + 1) n i k (omega (arith, m))) (nat_le i o) refl
  where
    by : (o + 1 ≤ i → IsIn i (range_with_len (o + 1) n)) → (b : Bool) → nat_le i o ≡ b → IsIn i (o ∷ range_with_len (o + 1) n)
    by more true e = let k : i ≤ o = grind (arith, nat_tests, e) in inl (omega (arith, k, l))
    by more false e = let k : o < i = grind (arith, nat_tests, e) in inr (more (omega (arith, k)))

of_range : (o n i : ℕ) → IsIn i (range_with_len o n) → (o ≤ i) × (i < o + n)
of_range o zero i h = absurd h
of_range o (suc n) i (inl e) = (omega (arith, e), omega (arith, e))
of_range o (suc n) i (inr h) = let r = of_range (o + 1) n i h in (omega (arith, r.0), omega (arith, r.1))

pub of_places : (phrase : Phrase) (passage : Passage) (i : ℕ) → IsIn i (places phrase passage) → Stands phrase.prefixed phrase.texts passage i × (i < length passage)
of_places phrase passage i h =
    let f = of_filter (fits_at phrase passage) i (range_with_len 0 (length passage)) h in
    (of_begins phrase.prefixed phrase.texts passage i f.1, omega (arith, (of_range 0 (length passage) i f.0).1))

pub to_places : (phrase : Phrase) (passage : Passage) (i : ℕ) → 0 < length phrase.texts → Stands phrase.prefixed phrase.texts passage i → IsIn i (places phrase passage)
to_places phrase passage i some h =
    to_filter (fits_at phrase passage) i (range_with_len 0 (length passage)) (to_range 0 (length passage) i (omega arith) (omega (arith, within phrase.texts some h))) (to_begins phrase.prefixed phrase.texts passage i h)
  where
    within : (texts : List (List ℕ)) → 0 < length texts → Stands phrase.prefixed texts passage i → i < length passage
    within [] some h = absurd (omega (arith, some))
    within (text ∷ more) some h = slice_get_within passage i h.0.token h.0.here

-- ---- the place of a phrase of m tokens as a span

abbrev pub placed : ℕ → ℕ → ℕ → ℕ → Span
placed m row part i = record { row = row; part = part; first = i; last = i + m - 1 }

ordered_places : (m row part o n : ℕ) (p : ℕ → Bool) → 0 < m → are_ordered (map (placed m row part) (filter p (range_with_len o n))) ≡ true
ordered_places m row part o zero p some = refl
ordered_places m row part o (suc n) p some = by (p o) (ordered_places m row part (o + 1) n p some)
  where
    later : (low n : ℕ) → o < low → all_come_after (placed m row part o) (map (placed m row part) (filter p (range_with_len low n))) ≡ true
    later low zero l = refl
    later low (suc n) l = at (p low) (later (low + 1) n (omega (arith, l)))
      where
        at : (b : Bool) → all_come_after (placed m row part o) (map (placed m row part) (filter p (range_with_len (low + 1) n))) ≡ true →
            all_come_after (placed m row part o) (map (placed m row part) (cond b (low ∷ filter p (range_with_len (low + 1) n)) (filter p (range_with_len (low + 1) n)))) ≡ true
        at true h = rw (after_ends (placed m row part o) (placed m row part low) refl refl l (omega (arith, l, some))) h
        at false h = h

    by : (b : Bool) → are_ordered (map (placed m row part) (filter p (range_with_len (o + 1) n))) ≡ true →
        are_ordered (map (placed m row part) (cond b (o ∷ filter p (range_with_len (o + 1) n)) (filter p (range_with_len (o + 1) n)))) ≡ true
    by true h = let fits : nat_le o (o + m - 1) ≡ true = (let l : o ≤ o + m - 1 = omega (arith, some) in grind (arith, nat_tests, l)) in rw (fits, later (o + 1) n (omega arith)) h
    by false h = h

pub placed_ordered : (phrase : Phrase) (row part : ℕ) (passage : Passage) → 0 < length phrase.texts → are_ordered (map (placed (length phrase.texts) row part) (places phrase passage)) ≡ true
placed_ordered phrase row part passage some = ordered_places (length phrase.texts) row part 0 (length passage) (fits_at phrase passage) some

span_with : (s : Span) (row part first last : ℕ) → s.row ≡ row → s.part ≡ part → s.first ≡ first → s.last ≡ last → s ≡ record { row = row; part = part; first = first; last = last }
span_with s row part first last a b c d = λ i. record { row = a i; part = b i; first = c i; last = d i }

pub at_passage : (row part : ℕ) (s : Span) → is_at (row, part) s ≡ true → (s.row ≡ row) × (s.part ≡ part)
at_passage row part s h =
    (eqb-true s.row row (and_left (eqb s.row row) (eqb s.part part) h), eqb-true s.part part (and_right (eqb s.row row) (eqb s.part part) h))

pub is_here : (row part : ℕ) (s : Span) → s.row ≡ row → s.part ≡ part → is_at (row, part) s ≡ true
is_here row part s e f = rw (eq-eqb s.row row e, eq-eqb s.part part f) refl

-- ---- the spans of a literal

module _ (index : Indexed) (corpus : Corpus) (valid : IsValid corpus) (stands : StandsFor index corpus) (have : ListsHavePlaces index corpus) (joined_are_least : JoinedAreLeast) (look : Look) where
  abbrev passage : ℕ → ℕ → Passage
  passage row part = passage_looked corpus look row part

  singles : (row part : ℕ) (prefixed : Bool) (texts : List (List ℕ)) → AreSingles (map (matches_at 0 (row, part)) (texts_spans index look prefixed texts))
  singles row part prefixed [] = tt
  singles row part prefixed (text ∷ more) = (one, singles row part prefixed more)
    where
      spans : List Span
      spans = token_spans index look text (prefixed && is_empty more)

      one : (t : Triple) → IsIn t (matches_at 0 (row, part) spans) → t ≡ single_at t.first
      one t h =
          let m = of_map (match_of 0) t (filter (is_at (row, part)) spans) h in
          let f = of_filter (is_at (row, part)) m.0 spans m.1 in
          let r = of_token index corpus valid stands have look text (prefixed && is_empty more) m.0 f.0 in
          let same : match_of 0 m.0 ≡ single_at m.0.first = ap (λ n. record { first = m.0.first; last = n; weight = 0 }) (sym r.0) in
          m.2 ∙ same ∙ ap (λ (x : Triple). single_at x.first) (sym m.2)

  to_runs : (row part : ℕ) (prefixed : Bool) (texts : List (List ℕ)) (i : ℕ) → Stands prefixed texts (passage row part) i → Runs (map (matches_at 0 (row, part)) (texts_spans index look prefixed texts)) i
  to_runs row part prefixed [] i h = tt
  to_runs row part prefixed (text ∷ more) i h =
      let spans = token_spans index look text (prefixed && is_empty more) in
      let here = to_token index corpus valid stands have look text (prefixed && is_empty more) row part i h.0 in (
        to_map (match_of 0) (span_at row part i) (filter (is_at (row, part)) spans) (to_filter (is_at (row, part)) (span_at row part i) spans here (is_here row part (span_at row part i) refl refl)),
        to_runs row part prefixed more (i + 1) h.1,
      )

  of_runs : (row part : ℕ) (prefixed : Bool) (texts : List (List ℕ)) (i : ℕ) → Runs (map (matches_at 0 (row, part)) (texts_spans index look prefixed texts)) i → Stands prefixed texts (passage row part) i
  of_runs row part prefixed [] i h = tt
  of_runs row part prefixed (text ∷ more) i h = (one, of_runs row part prefixed more (i + 1) h.1)
    where
      spans : List Span
      spans = token_spans index look text (prefixed && is_empty more)

      one : HasToken (prefixed && is_empty more) text (passage row part) i
      one =
          let m = of_map (match_of 0) (single_at i) (filter (is_at (row, part)) spans) h.0 in
          let f = of_filter (is_at (row, part)) m.0 spans m.1 in
          let r = of_token index corpus valid stands have look text (prefixed && is_empty more) m.0 f.0 in
          let p = at_passage row part m.0 f.1 in
          let first : m.0.first ≡ i = ap (λ (x : Triple). x.first) (sym m.2) in
          subst (HasToken (prefixed && is_empty more) text (passage row part)) first
          (subst (λ n. HasToken (prefixed && is_empty more) text (passage row n) m.0.first) p.1
          (subst (λ n. HasToken (prefixed && is_empty more) text (passage n m.0.part) m.0.first) p.0 r.1))

  all_ordered : (prefixed : Bool) (texts : List (List ℕ)) → AllOrdered (texts_spans index look prefixed texts)
  all_ordered prefixed [] = tt
  all_ordered prefixed (text ∷ more) = (ordered_least (joined (map spans_of_list (lists_looked index look text (prefixed && is_empty more)))), all_ordered prefixed more)

  many : (prefixed : Bool) (texts : List (List ℕ)) → length (texts_spans index look prefixed texts) ≡ length texts
  many prefixed [] = refl
  many prefixed (text ∷ more) = ap suc (many prefixed more)

  pub phrase_ordered : (prefixed : Bool) (texts : List (List ℕ)) → are_ordered (in_a_row (texts_spans index look prefixed texts)) ≡ true
  phrase_ordered prefixed [] = ordered_least (covers 0 true [])
  phrase_ordered prefixed (text ∷ []) = ordered_least (joined (map spans_of_list (lists_looked index look text (prefixed && true))))
  phrase_ordered prefixed (text ∷ next ∷ more) =
      ordered_least (covers (length (texts_spans index look prefixed (text ∷ next ∷ more))) true (texts_spans index look prefixed (text ∷ next ∷ more)))

  pub of_phrase_spans : (prefixed : Bool) (texts : List (List ℕ)) (s : Span) → 0 < length texts → IsIn s (in_a_row (texts_spans index look prefixed texts)) →
      (s.last + 1 ≡ s.first + length texts) × Stands prefixed texts (passage s.row s.part) s.first
  of_phrase_spans prefixed [] s some h = absurd (omega (arith, some))
  of_phrase_spans prefixed (text ∷ []) s some h =
      let r = of_token index corpus valid stands have look text (prefixed && true) s h in
      (omega (arith, r.0), (r.1, tt))
  of_phrase_spans prefixed (text ∷ next ∷ more) s some h =
      let texts : List (List ℕ) = text ∷ next ∷ more in
      let lists = texts_spans index look prefixed texts in
      let ls : List (List Triple) = map (matches_at 0 (s.row, s.part)) lists in
      let pair : IsLeastPair (near (length lists) true ls) s.first s.last = (joined_are_least (length lists) true lists (all_ordered prefixed texts) s).0 h in
      let long : length ls ≡ length lists = length-map lists (matches_at 0 (s.row, s.part)) in
      let r = of_least ls (singles s.row s.part prefixed texts) s.first s.last (subst (λ w. IsLeastPair (near w true ls) s.first s.last) (sym long) pair) in
      (omega (arith, r.0, long, many prefixed texts), of_runs s.row s.part prefixed texts s.first r.1)

  pub to_phrase_spans : (prefixed : Bool) (texts : List (List ℕ)) (s : Span) → 0 < length texts → s.last + 1 ≡ s.first + length texts → Stands prefixed texts (passage s.row s.part) s.first →
      IsIn s (in_a_row (texts_spans index look prefixed texts))
  to_phrase_spans prefixed [] s some e h = absurd (omega (arith, some))
  to_phrase_spans prefixed (text ∷ []) s some e h =
      let same : s ≡ span_at s.row s.part s.first = span_with s s.row s.part s.first s.first refl refl refl (omega (arith, e)) in
      subst (λ x. IsIn x (token_spans index look text (prefixed && true))) (sym same) (to_token index corpus valid stands have look text (prefixed && true) s.row s.part s.first h.0)
  to_phrase_spans prefixed (text ∷ next ∷ more) s some e h =
      let texts : List (List ℕ) = text ∷ next ∷ more in
      let lists = texts_spans index look prefixed texts in
      let ls : List (List Triple) = map (matches_at 0 (s.row, s.part)) lists in
      let long : length ls ≡ length lists = length-map lists (matches_at 0 (s.row, s.part)) in
      let first : List Triple = matches_at 0 (s.row, s.part) (token_spans index look text (prefixed && false)) in
      let rest : List (List Triple) = map (matches_at 0 (s.row, s.part)) (texts_spans index look prefixed (next ∷ more)) in
      let pair : IsLeastPair (near (length ls) true ls) s.first s.last =
      to_least first rest (singles s.row s.part prefixed texts) s.first s.last (omega (arith, e, long, many prefixed texts)) (to_runs s.row s.part prefixed texts s.first h) in
      (joined_are_least (length lists) true lists (all_ordered prefixed texts) s).1 (subst (λ w. IsLeastPair (near w true ls) s.first s.last) long pair)

  -- ---- passage by passage

  pub same_at : (phrase : Phrase) (row part : ℕ) → 0 < length phrase.texts →
      filter (is_at (row, part)) (phrase_spans index look phrase) ≡ map (placed (length phrase.texts) row part) (places phrase (passage row part))
  same_at phrase row part some =
      ordered_same (filter (is_at (row, part)) spans) (map (placed m row part) (places phrase (passage row part)))
      (ordered_filter (is_at (row, part)) spans (phrase_ordered phrase.prefixed phrase.texts)) (placed_ordered phrase row part (passage row part) some) to of
    where
      m : ℕ
      m = length phrase.texts

      spans : List Span
      spans = phrase_spans index look phrase

      to : (t : Span) → IsIn t (filter (is_at (row, part)) spans) → IsIn t (map (placed m row part) (places phrase (passage row part)))
      to t h =
          let f = of_filter (is_at (row, part)) t spans h in
          let p = at_passage row part t f.1 in
          let r = of_phrase_spans phrase.prefixed phrase.texts t some f.0 in
          let here = subst (λ n. Stands phrase.prefixed phrase.texts (passage row n) t.first) p.1 (subst (λ n. Stands phrase.prefixed phrase.texts (passage n t.part) t.first) p.0 r.1) in
          let same : t ≡ placed m row part t.first = span_with t row part t.first (t.first + m - 1) p.0 p.1 refl (omega (arith, r.0)) in
          subst (λ x. IsIn x (map (placed m row part) (places phrase (passage row part)))) (sym same)
          (to_map (placed m row part) t.first (places phrase (passage row part)) (to_places phrase (passage row part) t.first some here))

      of : (t : Span) → IsIn t (map (placed m row part) (places phrase (passage row part))) → IsIn t (filter (is_at (row, part)) spans)
      of t h =
          let k = of_map (placed m row part) t (places phrase (passage row part)) h in
          let r = of_places phrase (passage row part) k.0 k.1 in
          let s : Span = placed m row part k.0 in
          let there = to_phrase_spans phrase.prefixed phrase.texts s some (omega (arith, some)) r.0 in
          subst (λ x. IsIn x (filter (is_at (row, part)) spans)) (sym k.2) (to_filter (is_at (row, part)) s spans there (is_here row part s refl refl))

  pub places_are : (phrase : Phrase) (row part : ℕ) → 0 < length phrase.texts →
      matches_at (length phrase.texts) (row, part) (phrase_spans index look phrase) ≡ of_phrase phrase (passage row part)
  places_are phrase row part some = ap (map (match_of (length phrase.texts))) (same_at phrase row part some) ∙ as_matches (places phrase (passage row part))
    where
      as_matches : (is : List ℕ) → map (match_of (length phrase.texts)) (map (placed (length phrase.texts) row part) is) ≡ map (at_place (length phrase.texts)) is
      as_matches [] = refl
      as_matches (i ∷ is) = ap (λ ts. at_place (length phrase.texts) i ∷ ts) (as_matches is)
