-- What is left of joins and of merges, by the definition of a near.
use Rattle.std.proofs.Common.{◌≡◌, inl, inr, ℕ, ◌≤◌, Bool, true, List, [], ◌∷◌, map, filter, Some, refl, sym, ◌∙◌, ap, subst, arith}
use mathlib.Core.Logic.{⊎_elim}
use Rattle.std.specs.Prelude.{eqb, nat_le}
use Rattle.std.specs.List.{reduce}
use Rattle.std.proofs.lemmas.Bool.{eq-eqb, eqb-true}
use Rattle.std.proofs.lemmas.Bool.Decides.{nat_tests}
use Rattle.sq_cursor.specs.declared.span.Span.{Span}
use Rattle.sq_cursor.specs.Spans.{passage_of}
use Rattle.sq_model.specs.Lists.{joined}
use Rattle.sq_model.specs.Triples.{join, near}
use Rattle.sq_model.specs.declared.triple.Triple.{Triple}
use Rattle.sq_model.proofs.Members.{IsIn, to_filter, of_filter, to_map, of_map, to_flat_map, of_flat_map, in_append, in_append_left, in_append_right}
use Rattle.sq_model.proofs.Choices.{IsChoice, of_near}
use Rattle.sq_near.specs.Least.{contains, least_of, ordered_least}
use Rattle.sq_near.specs.Covers.{is_at, match_of, matches_at, span_of, covers}
use Rattle.sq_near.specs.Laws.{IsLeastPair, AllOrdered, JoinedAreLeast, MergedAreLeast}
use Rattle.sq_near.proofs.BaseLemmas.{Wraps, base_least, proper_in, contains_of, wraps_same, same_span}
use Rattle.sq_near.proofs.CoverLemmas.{of_cover}
use Rattle.sq_near.proofs.JoinLemmas.{and_cases, no_some}

-- ---- the least spans of a list

-- a span of the list that ends no earlier than it begins, and contains no other such span of its passage
record IsLeastSpan (spans : List Span) (t : Span) : Type 0 where
  here : IsIn t spans
  proper : nat_le t.first t.last ≡ true
  least : (u : Span) → IsIn u spans → nat_le u.first u.last ≡ true → passage_of u ≡ passage_of t → contains t u ≡ true → u ≡ t

wraps_contained : (t u : Span) → passage_of u ≡ passage_of t → contains t u ≡ true → Wraps t u
wraps_contained t u q c = record {
  row = sym (ap (λ (p : ℕ × ℕ). p.0) q);
  part = sym (ap (λ (p : ℕ × ℕ). p.1) q);
  first = grind (arith, nat_tests);
  last = grind (arith, nat_tests);
}

passage_wrapped : (t l : Span) → Wraps t l → passage_of l ≡ passage_of t
passage_wrapped t l w = ap (λ n. (n, l.part)) (sym w.row) ∙ ap (λ n. (t.row, n)) (sym w.part)

to_least : (spans : List Span) (t : Span) → IsIn t (least_of spans) → IsLeastSpan spans t
to_least spans t i = record {
  here = (base_least spans).some t i;
  proper = proper_in t (least_of spans) i (ordered_least spans);
  least = λ u k p q c.
      let w = wraps_contained t u q c in
      let b = (base_least spans).below u k p in
      let tl : Wraps t b.0 = record { row = w.row ∙ b.2.row; part = w.part ∙ b.2.part; first = omega (arith, w.first, b.2.first); last = omega (arith, w.last, b.2.last) } in
      let same : t ≡ b.0 = wraps_same (least_of spans) t b.0 (ordered_least spans) i b.1 tl in
      same_span u t (subst (Wraps u) (sym same) b.2) w;
}

of_least : (spans : List Span) (t : Span) → IsLeastSpan spans t → IsIn t (least_of spans)
of_least spans t h =
    let b = (base_least spans).below t h.here h.proper in
    let same : b.0 ≡ t = h.least b.0 ((base_least spans).some b.0 b.1) (proper_in b.0 (least_of spans) b.1 (ordered_least spans))
    (passage_wrapped t b.0 b.2) (contains_of t b.0 b.2.first b.2.last) in
    subst (λ u. IsIn u (least_of spans)) same b.1

-- ---- covers

-- a cover is a near of the spans of its passage
cover_to : (width : ℕ) (ordered : Bool) (lists : List (List Span)) (s : Span) → IsIn s (covers width ordered lists) →
    (t : Triple) × (span_of (passage_of s) t ≡ s) × IsIn t (near width ordered (map (matches_at 0 (passage_of s)) lists))
cover_to width ordered [] s h = absurd h
cover_to width ordered (l ∷ lists) s h =
    let r = of_flat_map (λ p. map (span_of p) (near width ordered (map (matches_at 0 p) (l ∷ lists)))) s (map passage_of l) h in
    let m = of_map (span_of r.0) s (near width ordered (map (matches_at 0 r.0) (l ∷ lists))) r.2 in
    let same : passage_of s ≡ r.0 = ap passage_of m.2 in
    (m.0, ap (λ q. span_of q m.0) same ∙ sym m.2, subst (λ q. IsIn m.0 (near width ordered (map (matches_at 0 q) (l ∷ lists)))) (sym same) m.1)

cover_of : (width : ℕ) (ordered : Bool) (lists : List (List Span)) (s : Span) (t : Triple) → span_of (passage_of s) t ≡ s → IsIn t (near width ordered (map (matches_at 0 (passage_of s)) lists)) →
    IsIn s (covers width ordered lists)
cover_of width ordered lists s t e i =
    let n = of_near width ordered (map (matches_at 0 (passage_of s)) lists) t i in at lists n.chosen n.is_choice n.joins i
  where
    at : (lists : List (List Span)) (ts : List Triple) → IsChoice ts (map (matches_at 0 (passage_of s)) lists) → reduce join ts ≡ Some t → IsIn t (near width ordered (map (matches_at 0 (passage_of s)) lists)) →
        IsIn s (covers width ordered lists)
    at [] [] c j i = absurd (no_some j)
    at [] (u ∷ ts) c j i = absurd c
    at (l ∷ lists) [] c j i = absurd c
    at (l ∷ lists) (u ∷ ts) c j i =
        let p : ℕ × ℕ = passage_of s in
        let m = of_map (match_of 0) u (filter (is_at p) l) c.0 in
        let f = of_filter (is_at p) m.0 l m.1 in
        let g = and_cases (eqb m.0.row p.0) (eqb m.0.part p.1) f.1 in
        let here : p ≡ passage_of m.0 = ap (λ k. (k, s.part)) (sym (eqb-true m.0.row s.row g.0)) ∙ ap (λ k. (m.0.row, k)) (sym (eqb-true m.0.part s.part g.1)) in
        to_flat_map (λ q. map (span_of q) (near width ordered (map (matches_at 0 q) (l ∷ lists)))) s p (map passage_of l)
        (subst (λ q. IsIn q (map passage_of l)) (sym here) (to_map passage_of m.0 l f.0))
        (subst (λ x. IsIn x (map (span_of p) (near width ordered (map (matches_at 0 p) (l ∷ lists))))) e (to_map (span_of p) t (near width ordered (map (matches_at 0 p) (l ∷ lists))) i))

proper_choice : (xs : List Span) (lists : List (List Span)) → IsChoice xs lists → AllOrdered lists → (x : Span) → IsIn x xs → nat_le x.first x.last ≡ true
proper_choice [] lists c o x i = absurd i
proper_choice (y ∷ xs) [] c o x i = absurd c
proper_choice (y ∷ xs) (l ∷ lists) c o x (inl e) = ap (λ (z : Span). nat_le z.first z.last) e ∙ proper_in y l c.0 o.0
proper_choice (y ∷ xs) (l ∷ lists) c o x (inr i) = proper_choice xs lists c.1 o.1 x i

le_test : (a b c d : ℕ) → nat_le a b ≡ true → c ≤ a → b ≤ d → nat_le c d ≡ true
le_test a b c d e l m = let k : a ≤ b = grind (arith, nat_tests) in let n : c ≤ d = omega (arith, k, l, m) in grind (arith, nat_tests)

proper_cover : (width : ℕ) (ordered : Bool) (lists : List (List Span)) → AllOrdered lists → (s : Span) → IsIn s (covers width ordered lists) → nat_le s.first s.last ≡ true
proper_cover width ordered lists o s i =
    let c = of_cover width ordered lists s i in
    let x = c.hull.first.0 in
    let p = proper_choice c.chosen lists c.choice o x c.hull.first.1 in
    let w = c.hull.within x c.hull.first.1 in
    le_test x.first x.last s.first s.last p w.0 w.1

-- ---- the laws

span_with : (p : ℕ × ℕ) (s : Span) (first last : ℕ) → p ≡ passage_of s → first ≡ s.first → last ≡ s.last → record { row = p.0; part = p.1; first = first; last = last } ≡ s
span_with p s first last e f g = λ i. record { row = (e i).0; part = (e i).1; first = f i; last = g i }

le_of : (a b : ℕ) → nat_le a b ≡ true → a ≤ b
le_of a b e = grind (arith, nat_tests)

-- the least spans of a list whose members of a passage are, by their ends, the matches
module _ (spans : List Span) (matches : ℕ × ℕ → List Triple) (to : (s : Span) → IsIn s spans → (t : Triple) × (span_of (passage_of s) t ≡ s) × IsIn t (matches (passage_of s)))
    (of : (s : Span) (t : Triple) → span_of (passage_of s) t ≡ s → IsIn t (matches (passage_of s)) → IsIn s spans)
    (proper : (s : Span) → IsIn s spans → nat_le s.first s.last ≡ true) (s : Span) where
  least_pair : IsIn s (least_of spans) → IsLeastPair (matches (passage_of s)) s.first s.last
  least_pair i =
      let l = to_least spans s i in
      let m = to s l.here in
      record {
        here = (m.0, m.2, ap (λ (x : Span). x.first) m.1, ap (λ (x : Span). x.last) m.1);
        least = λ t k a b.
            let u : Span = span_of (passage_of s) t in
            let here : IsIn u spans = of u t refl k in
            let same : u ≡ s = l.least u here (proper u here) refl (contains_of s u a b) in
            (ap (λ (x : Span). x.first) same, ap (λ (x : Span). x.last) same);
      }

  least_span : IsLeastPair (matches (passage_of s)) s.first s.last → IsIn s (least_of spans)
  least_span h =
      let here : IsIn s spans = of s h.here.0 (span_with (passage_of s) s h.here.0.first h.here.0.last refl h.here.2 h.here.3) h.here.1 in
      of_least spans s (record {
        here = here;
        proper = proper s here;
        least = λ u i p q c.
            let m = to u i in
            let first : m.0.first ≡ u.first = ap (λ (x : Span). x.first) m.1 in
            let last : m.0.last ≡ u.last = ap (λ (x : Span). x.last) m.1 in
            let w = wraps_contained s u q c in
            let k = h.least m.0 (subst (λ p. IsIn m.0 (matches p)) q m.2) (omega (arith, w.first, first)) (omega (arith, w.last, last)) in
            span_with (passage_of u) s u.first u.last q (sym first ∙ k.0) (sym last ∙ k.1);
      })

pub joined_are_least : JoinedAreLeast
joined_are_least width ordered lists o s =
    let matches : ℕ × ℕ → List Triple = λ p. near width ordered (map (matches_at 0 p) lists) in
    let to = cover_to width ordered lists in
    let of = cover_of width ordered lists in
    let proper = proper_cover width ordered lists o in
    (least_pair (covers width ordered lists) matches to of proper s, least_span (covers width ordered lists) matches to of proper s)

-- ---- unions

union_to : (lists : List (List Span)) (s : Span) → IsIn s (joined lists) → (t : Triple) × (span_of (passage_of s) t ≡ s) × IsIn t (joined (map (matches_at 0 (passage_of s)) lists))
union_to [] s h = absurd h
union_to (l ∷ lists) s h = ⊎_elim
    (λ i. (match_of 0 s, refl, in_append_left (match_of 0 s) (matches_at 0 (passage_of s) l) (joined (map (matches_at 0 (passage_of s)) lists)) (at i)))
    (λ i. let r = union_to lists s i in (r.0, r.1, in_append_right r.0 (matches_at 0 (passage_of s) l) (joined (map (matches_at 0 (passage_of s)) lists)) r.2))
    (in_append s l (joined lists) h)
  where
    at : IsIn s l → IsIn (match_of 0 s) (matches_at 0 (passage_of s) l)
    at i =
        let here : is_at (passage_of s) s ≡ true = rw (eq-eqb s.row s.row refl, eq-eqb s.part s.part refl) refl in
        to_map (match_of 0) s (filter (is_at (passage_of s)) l) (to_filter (is_at (passage_of s)) s l i here)

union_of : (lists : List (List Span)) (s : Span) (t : Triple) → span_of (passage_of s) t ≡ s → IsIn t (joined (map (matches_at 0 (passage_of s)) lists)) → IsIn s (joined lists)
union_of [] s t e h = absurd h
union_of (l ∷ lists) s t e h = ⊎_elim
    (λ i. in_append_left s l (joined lists) (at i))
    (λ i. in_append_right s l (joined lists) (union_of lists s t e i))
    (in_append t (matches_at 0 (passage_of s) l) (joined (map (matches_at 0 (passage_of s)) lists)) h)
  where
    at : IsIn t (matches_at 0 (passage_of s) l) → IsIn s l
    at i =
        let m = of_map (match_of 0) t (filter (is_at (passage_of s)) l) i in
        let f = of_filter (is_at (passage_of s)) m.0 l m.1 in
        let g = and_cases (eqb m.0.row s.row) (eqb m.0.part s.part) f.1 in
        let first : m.0.first ≡ s.first = sym (ap (λ (u : Triple). u.first) m.2) ∙ ap (λ (x : Span). x.first) e in
        let last : m.0.last ≡ s.last = sym (ap (λ (u : Triple). u.last) m.2) ∙ ap (λ (x : Span). x.last) e in
        let here : passage_of m.0 ≡ passage_of s = ap (λ n. (n, m.0.part)) (eqb-true m.0.row s.row g.0) ∙ ap (λ n. (s.row, n)) (eqb-true m.0.part s.part g.1) in
        subst (λ x. IsIn x l) (span_with (passage_of m.0) s m.0.first m.0.last here first last) f.0

proper_union : (lists : List (List Span)) → AllOrdered lists → (s : Span) → IsIn s (joined lists) → nat_le s.first s.last ≡ true
proper_union [] o s h = absurd h
proper_union (l ∷ lists) o s h = ⊎_elim (λ i. proper_in s l i o.0) (λ i. proper_union lists o.1 s i) (in_append s l (joined lists) h)

pub merged_are_least : MergedAreLeast
merged_are_least lists o s =
    let matches : ℕ × ℕ → List Triple = λ p. joined (map (matches_at 0 p) lists) in
    let to = union_to lists in
    let of = union_of lists in
    let proper = proper_union lists o in
    (least_pair (joined lists) matches to of proper s, least_span (joined lists) matches to of proper s)
