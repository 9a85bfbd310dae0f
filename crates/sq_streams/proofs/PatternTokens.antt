-- The spans of one token are its places.
use Rattle.std.proofs.Common.{◌≡◌, ℕ, ◌+◌, ◌*◌, ◌/◌, ◌%◌, ◌<◌, Bool, true, false, List, [], map, filter, length, refl, sym, ap, ◌∙◌, subst, arith}
use Rattle.std.specs.Prelude.{slice_get, Some}
use Rattle.std.specs.Str.{bytes_eq}
use Rattle.std.proofs.lemmas.Bool.{eq-eqb}
use Rattle.std.proofs.lemmas.Slice.Eq.{bytes_eq-Decides}
use Rattle.sq_tokens.specs.Token.{Token, token_text}
use Rattle.sq_tokens.specs.Pattern.{is_token_asked}
use Rattle.sq_cursor.specs.declared.span.Span.{Span}
use Rattle.sq_model.specs.Lists.{joined}
use Rattle.sq_model.specs.Passages.{Passage}
use Rattle.sq_model.specs.Valid.{IsValid}
use Rattle.sq_model.specs.declared.corpus.Corpus.{Corpus}
use Rattle.sq_model.specs.declared.fql.Look.{Look}
use Rattle.sq_model.proofs.Members.{IsIn, to_filter, of_filter, to_map, of_map, to_flat_map, of_flat_map}
use Rattle.sq_postings.specs.Indexed.{Indexed, TermList, list_at, span_of, spans_of_list}
use Rattle.sq_postings.specs.Laws.{span_at, is_in_passage, ListsHavePlaces}
use Rattle.sq_postings.specs.Occurrences.{places_from, passage_at}
use Rattle.sq_postings.specs.StandsFor.{StandsFor}
use Rattle.sq_streams.specs.Looked.{looks_at, passage_looked}
use Rattle.sq_streams.specs.PatternSpans.{lists_looked, token_spans}
use Rattle.sq_streams.proofs.SpanLemmas.{of_single, to_single}
use Rattle.sq_streams.proofs.PatternLists.{of_lists, to_lists}
use Rattle.sq_streams.proofs.PatternPostings.{IsThere, of_places, to_places, somewhere, small_ordinal}

-- the token at a number is asked for
pub record HasToken (prefixed : Bool) (wanted : List ℕ) (passage : Passage) (i : ℕ) : Type 0 where
  pub token : Token
  pub here : slice_get passage i ≡ Some token
  pub asked : is_token_asked prefixed wanted (token_text token) ≡ true

-- ---- one token

asked_same : (prefixed : Bool) (wanted a b : List ℕ) → bytes_eq a b ≡ true → is_token_asked prefixed wanted b ≡ true → is_token_asked prefixed wanted a ≡ true
asked_same prefixed wanted a b e h = ap (is_token_asked prefixed wanted) ((bytes_eq-Decides a b).0 e) ∙ h

looked_yes : (corpus : Corpus) (look : Look) (row part : ℕ) → looks_at look corpus.schema (part / 1_000) ≡ true → passage_looked corpus look row part ≡ passage_at corpus.items row part
looked_yes corpus look row part e = rw e refl

module _ (index : Indexed) (corpus : Corpus) (valid : IsValid corpus) (stands : StandsFor index corpus) (have : ListsHavePlaces index corpus) (look : Look) where
  abbrev passage : ℕ → ℕ → Passage
  passage row part = passage_looked corpus look row part

  -- a span of a list is a place of its token
  of_list : (number : ℕ) → number < length index.lists → (s : Span) → IsIn s (spans_of_list (list_at index number)) →
      (s.first ≡ s.last) × (s.part / 1_000 ≡ (list_at index number).property) × IsThere (list_at index number).token (passage_at corpus.items s.row s.part) s.first
  of_list number below s i =
      let list : TermList = list_at index number in
      let m = of_map (span_of list.property) s list.postings i in
      let small = small_ordinal corpus valid list.property list.token m.0 (subst (IsIn m.0) (stands.lists number below) m.1) in
      let part : s.part ≡ list.property * 1_000 + m.0.ordinal = ap (λ (x : Span). x.part) m.2 in
      let first : s.first ≡ m.0.place = ap (λ (x : Span). x.first) m.2 in
      let last : s.last ≡ m.0.place = ap (λ (x : Span). x.last) m.2 in
      let whole : filter (is_in_passage s.row s.part) (spans_of_list list) ≡ map (span_at s.row s.part) (places_from 0 list.token (passage_at corpus.items s.row s.part)) =
      subst (λ n. filter (is_in_passage s.row n) (spans_of_list list) ≡ map (span_at s.row n) (places_from 0 list.token (passage_at corpus.items s.row n))) (sym part)
      (have number s.row m.0.ordinal below small) in
      let test : is_in_passage s.row s.part s ≡ true = rw (eq-eqb s.row s.row refl, eq-eqb s.part s.part refl) refl in
      let there = subst (IsIn s) whole (to_filter (is_in_passage s.row s.part) s (spans_of_list list) i test) in
      let k = of_map (span_at s.row s.part) s (places_from 0 list.token (passage_at corpus.items s.row s.part)) there in
      let q = of_places 0 list.token (passage_at corpus.items s.row s.part) k.0 k.1 in
      let number_is : q.0 ≡ s.first = omega (arith, q.1, ap (λ (x : Span). x.first) k.2) in
      (first ∙ sym last, omega (arith, part, small), subst (IsThere list.token (passage_at corpus.items s.row s.part)) number_is q.2)

  of_joined : (wanted : List ℕ) (prefixed : Bool) (s : Span) → IsIn s (joined (map spans_of_list (lists_looked index look wanted prefixed))) →
      (s.first ≡ s.last) × HasToken prefixed wanted (passage s.row s.part) s.first
  of_joined wanted prefixed s h =
      let r = of_flat_map (λ (xs : List Span). xs) s (map spans_of_list (lists_looked index look wanted prefixed)) h in
      let m = of_map spans_of_list r.0 (lists_looked index look wanted prefixed) r.1 in
      let l = of_lists index corpus stands look wanted prefixed m.0 m.1 in
      let here : IsIn s (spans_of_list (list_at index l.number)) = subst (λ (list : TermList). IsIn s (spans_of_list list)) l.same (subst (IsIn s) m.2 r.2) in
      let o = of_list l.number l.below s here in
      let looks : looks_at look corpus.schema (s.part / 1_000) ≡ true = ap (looks_at look corpus.schema) (o.1 ∙ ap (λ (list : TermList). list.property) (sym l.same)) ∙ l.looks in
      let asked : is_token_asked prefixed wanted (list_at index l.number).token ≡ true = ap (λ (list : TermList). is_token_asked prefixed wanted list.token) (sym l.same) ∙ l.asked in
      let there = o.2 in (
        o.0,
        subst (λ p. HasToken prefixed wanted p s.first) (sym (looked_yes corpus look s.row s.part looks))
            (record { token = there.token; here = there.here; asked = asked_same prefixed wanted (token_text there.token) (list_at index l.number).token there.equal asked }),
      )

  to_joined : (wanted : List ℕ) (prefixed : Bool) (row part i : ℕ) → HasToken prefixed wanted (passage row part) i →
      IsIn (span_at row part i) (joined (map spans_of_list (lists_looked index look wanted prefixed)))
  to_joined wanted prefixed row part i h = by (looks_at look corpus.schema (part / 1_000)) refl
    where
      by : (b : Bool) → looks_at look corpus.schema (part / 1_000) ≡ b → IsIn (span_at row part i) (joined (map spans_of_list (lists_looked index look wanted prefixed)))
      by false e =
          let none : passage row part ≡ [] = rw e refl in
          let gone : slice_get [] i ≡ Some h.token = subst (λ p. slice_get p i ≡ Some h.token) none h.here in
          absurd (grind (arith, gone))
      by true e =
          let text : List ℕ = token_text h.token in
          let is : passage row part ≡ passage_at corpus.items row part = looked_yes corpus look row part e in
          let there : IsThere text (passage_at corpus.items row part) i = record { token = h.token; here = subst (λ p. slice_get p i ≡ Some h.token) is h.here; equal = (bytes_eq-Decides text text).1 refl } in
          let w = stands.whole (part / 1_000) text (somewhere corpus.items row (part / 1_000) (part % 1_000) text i there) in
          let list : TermList = list_at index w.0 in
          let property : list.property ≡ part / 1_000 = w.2 in
          let token : list.token ≡ text = w.3 in
          let member = to_lists index corpus stands look wanted prefixed w.0 w.1 (ap (looks_at look corpus.schema) property ∙ e) (ap (is_token_asked prefixed wanted) token ∙ h.asked) in
          let split : list.property * 1_000 + part % 1_000 ≡ part = omega (arith, property) in
          let few : part % 1_000 < 1_000 = omega arith in
          let whole : filter (is_in_passage row part) (spans_of_list list) ≡ map (span_at row part) (places_from 0 list.token (passage_at corpus.items row part)) =
          subst (λ n. filter (is_in_passage row n) (spans_of_list list) ≡ map (span_at row n) (places_from 0 list.token (passage_at corpus.items row n))) split (have w.0 row (part % 1_000) w.1 few) in
          let place = subst (λ n. IsIn n (places_from 0 list.token (passage_at corpus.items row part))) (omega arith) (to_places 0 list.token (passage_at corpus.items row part) i (subst (λ t. IsThere t (passage_at corpus.items row part) i) (sym token) there)) in
          let inside = subst (IsIn (span_at row part i)) (sym whole) (to_map (span_at row part) i (places_from 0 list.token (passage_at corpus.items row part)) place) in
          let f = of_filter (is_in_passage row part) (span_at row part i) (spans_of_list list) inside in
          to_flat_map (λ (xs : List Span). xs) (span_at row part i) (spans_of_list list) (map spans_of_list (lists_looked index look wanted prefixed))
          (to_map spans_of_list list (lists_looked index look wanted prefixed) member) f.0

  pub of_token : (wanted : List ℕ) (prefixed : Bool) (s : Span) → IsIn s (token_spans index look wanted prefixed) → (s.first ≡ s.last) × HasToken prefixed wanted (passage s.row s.part) s.first
  of_token wanted prefixed s h = of_joined wanted prefixed s (of_single (joined (map spans_of_list (lists_looked index look wanted prefixed))) s h)

  pub to_token : (wanted : List ℕ) (prefixed : Bool) (row part i : ℕ) → HasToken prefixed wanted (passage row part) i → IsIn (span_at row part i) (token_spans index look wanted prefixed)
  to_token wanted prefixed row part i h =
      to_single (joined (map spans_of_list (lists_looked index look wanted prefixed))) (span_at row part i) (λ x k. (of_joined wanted prefixed x k).0) (to_joined wanted prefixed row part i h)
