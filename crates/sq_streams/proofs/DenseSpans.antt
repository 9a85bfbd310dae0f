-- The spans of merges and joins are enough of the matches of their parts.
use Rattle.std.proofs.Common.{◌≡◌, ℕ, ◌+◌, Bool, true, List, [], ◌∷◌, ◌++◌, map, refl, sym, ap, subst, ◌∙◌, arith}
use Rattle.std.specs.Prelude.{◌↔◌, eqb, sum, filter}
use Rattle.std.proofs.lemmas.Bool.{eqb-true, eq-eqb}
use Rattle.std.proofs.lemmas.List.{map-append}
use Rattle.sq_cursor.specs.declared.span.Span.{Span}
use Rattle.sq_cursor.specs.Spans.{passage_of}
use Rattle.sq_model.specs.Lists.{joined}
use Rattle.sq_model.specs.Triples.{near}
use Rattle.sq_model.specs.declared.triple.Triple.{Triple}
use Rattle.sq_model.proofs.Members.{IsIn, to_filter, of_filter, to_map, of_map, of_flat_map}
use Rattle.sq_model.proofs.Choices.{IsChoice, of_near}
use Rattle.sq_near.specs.Covers.{is_at, match_of, matches_at, span_of, joined_spans, merged_spans}
use Rattle.sq_near.specs.Laws.{IsLeastPair, AllOrdered, JoinedAreLeast, MergedAreLeast}
use Rattle.sq_least.specs.Dense.{Dense}
use Rattle.sq_least.specs.Laws.{IsLeast, LeastInside, HasInterval, HaveWeight, weightless, of_weights, IsAsLong, NearSplitsByWeight, WidthCountsWeights}
use Rattle.sq_streams.proofs.SumLemmas.{and_left, and_right}

same_triple : (s t : Triple) → s.first ≡ t.first → s.last ≡ t.last → s.weight ≡ t.weight → s ≡ t
same_triple s t e f g = λ i. record { first = e i; last = f i; weight = g i }

-- ---- where a list of spans has the least pairs of a passage

-- a span stands in the list of matches of its passage
pub match_in : (v : ℕ) (p : ℕ × ℕ) (spans : List Span) (s : Span) → IsIn s spans → passage_of s ≡ p → IsIn (match_of v s) (matches_at v p spans)
match_in v p spans s i e =
    let here : is_at p s ≡ true = (let row = eq-eqb s.row p.0 (ap (λ (q : ℕ × ℕ). q.0) e) in let part = eq-eqb s.part p.1 (ap (λ (q : ℕ × ℕ). q.1) e) in rw (row, part) refl) in
    to_map (match_of v) s (filter (is_at p) spans) (to_filter (is_at p) s spans i here)

-- a match of a passage is that of a span of the passage
pub span_in : (v : ℕ) (p : ℕ × ℕ) (spans : List Span) (t : Triple) → IsIn t (matches_at v p spans) → (s : Span) × IsIn s spans × (passage_of s ≡ p) × (t ≡ match_of v s)
span_in v p spans t i =
    let m = of_map (match_of v) t (filter (is_at p) spans) i in
    let f = of_filter (is_at p) m.0 spans m.1 in
    let row = eqb-true m.0.row p.0 (and_left (eqb m.0.row p.0) (eqb m.0.part p.1) f.1) in
    let part = eqb-true m.0.part p.1 (and_right (eqb m.0.row p.0) (eqb m.0.part p.1) f.1) in
    (m.0, f.0, (λ i. (row i, part i)), m.2)

least_pair : (matches : List Triple) (t : Triple) → IsLeast matches t → IsLeastPair matches t.first t.last
least_pair matches t l = record {
  here = (t, l.here, refl, refl);
  least = λ u k a b. let w = l.least u k (a, b) in (omega (arith, a, w.0), omega (arith, b, w.1));
}

module _ (least_inside : LeastInside) where
  pub dense_pairs : (v : ℕ) (p : ℕ × ℕ) (spans : List Span) (matches light : List Triple) →
      ((t : Triple) → IsIn t matches → t.weight ≡ v) →
      ((first last : ℕ) → HasInterval matches first last ↔ HasInterval light first last) →
      ((s : Span) → passage_of s ≡ p → IsIn s spans ↔ IsLeastPair light s.first s.last) →
      Dense matches (matches_at v p spans)
  dense_pairs v p spans matches light weigh same least = record {
    some = λ t i.
        let s = span_in v p spans t i in
        let pair = (least s.0 s.2).0 s.1 in
        let m = (same s.0.first s.0.last).1 (pair.here.0, pair.here.1, pair.here.2, pair.here.3) in
        let whole : m.0 ≡ t = same_triple m.0 (match_of v s.0) m.2 m.3 (weigh m.0 m.1) ∙ sym s.3 in
        subst (λ u. IsIn u matches) whole m.1;
    below = λ t i.
        let u = (same t.first t.last).0 (t, i, refl, refl) in
        let l = least_inside light u.0 u.1 in
        let s : Span = span_of p l.0 in
        let here : IsIn s spans = (least s refl).1 (least_pair light l.0 l.1) in
        (match_of v s, match_in v p spans s here refl, ((omega (arith, l.2.0, u.2), omega (arith, l.2.1, u.3)), sym (weigh t i)));
  }

-- ---- without weights

weightless_at : (v : ℕ) (p : ℕ × ℕ) (spans : List Span) → map weightless (matches_at v p spans) ≡ matches_at 0 p spans
weightless_at v p spans = each (filter (is_at p) spans)
  where
    each : (xs : List Span) → map weightless (map (match_of v) xs) ≡ map (match_of 0) xs
    each [] = refl
    each (x ∷ xs) = ap (λ r. match_of 0 x ∷ r) (each xs)

weightless_all : (v : ℕ) (p : ℕ × ℕ) (lists : List (List Span)) → map weightless (joined (map (matches_at v p) lists)) ≡ joined (map (matches_at 0 p) lists)
weightless_all v p [] = refl
weightless_all v p (l ∷ lists) =
    map-append weightless (matches_at v p l) (joined (map (matches_at v p) lists))
    ∙ (ap (λ r. r ++ map weightless (joined (map (matches_at v p) lists))) (weightless_at v p l) ∙ ap (λ r. matches_at 0 p l ++ r) (weightless_all v p lists))

interval_light : (matches : List Triple) (first last : ℕ) → HasInterval matches first last ↔ HasInterval (map weightless matches) first last
interval_light matches first last = (
  (λ h. (weightless h.0, to_map weightless h.0 matches h.1, h.2, h.3)),
  (λ h. let m = of_map weightless h.0 matches h.1 in
      (m.0, m.1, sym (ap (λ (t : Triple). t.first) m.2) ∙ h.2, sym (ap (λ (t : Triple). t.last) m.2) ∙ h.3)),
)

-- ---- merges

weigh_all : (v : ℕ) (p : ℕ × ℕ) (lists : List (List Span)) (t : Triple) → IsIn t (joined (map (matches_at v p) lists)) → t.weight ≡ v
weigh_all v p lists t i =
    let r = of_flat_map (λ (xs : List Triple). xs) t (map (matches_at v p) lists) i in
    let l = of_map (matches_at v p) r.0 lists r.1 in
    let s = span_in v p l.0 t (subst (λ xs. IsIn t xs) l.2 r.2) in
    ap (λ (u : Triple). u.weight) s.3

module _ (least_inside : LeastInside) (merged_are_least : MergedAreLeast) where
  -- a merge has enough of what its parts have
  pub merge_dense : (v : ℕ) (p : ℕ × ℕ) (lists : List (List Span)) → AllOrdered lists → Dense (joined (map (matches_at v p) lists)) (matches_at v p (merged_spans lists))
  merge_dense v p lists ordered =
      dense_pairs least_inside v p (merged_spans lists) (joined (map (matches_at v p) lists)) (joined (map (matches_at 0 p) lists)) (weigh_all v p lists)
      (λ first last. subst (λ light. HasInterval (joined (map (matches_at v p) lists)) first last ↔ HasInterval light first last) (weightless_all v p lists)
      (interval_light (joined (map (matches_at v p) lists)) first last))
      (λ s e. subst (λ q. IsIn s (merged_spans lists) ↔ IsLeastPair (joined (map (matches_at 0 q) lists)) s.first s.last) e (merged_are_least lists ordered s))

-- ---- joins

-- the matches of each list, of the weight that stands at its place
abbrev pub matches_each : List ℕ → ℕ × ℕ → List (List Span) → List (List Triple)
matches_each [] p lists = []
matches_each (v ∷ vs) p [] = []
matches_each (v ∷ vs) p (l ∷ lists) = matches_at v p l ∷ matches_each vs p lists

-- there are as many lists as weights
abbrev pub AsMany : List ℕ → List (List Span) → Type 0
AsMany [] [] = Unit {0}
AsMany [] (l ∷ lists) = ⊥
AsMany (v ∷ vs) [] = ⊥
AsMany (v ∷ vs) (l ∷ lists) = AsMany vs lists

have_weight : (vs : List ℕ) (p : ℕ × ℕ) (lists : List (List Span)) → AsMany vs lists → HaveWeight vs (matches_each vs p lists)
have_weight [] p [] h = tt
have_weight [] p (l ∷ lists) h = absurd h
have_weight (v ∷ vs) p [] h = absurd h
have_weight (v ∷ vs) p (l ∷ lists) h = ((λ t i. ap (λ (u : Triple). u.weight) (span_in v p l t i).3), have_weight vs p lists h)

light_each : (vs : List ℕ) (p : ℕ × ℕ) (lists : List (List Span)) → AsMany vs lists → map (map weightless) (matches_each vs p lists) ≡ map (matches_at 0 p) lists
light_each [] p [] h = refl
light_each [] p (l ∷ lists) h = absurd h
light_each (v ∷ vs) p [] h = absurd h
light_each (v ∷ vs) p (l ∷ lists) h = ap (λ r. r ∷ map (map weightless) (matches_each vs p lists)) (weightless_at v p l) ∙ ap (λ r. matches_at 0 p l ∷ r) (light_each vs p lists h)

-- where the parts have one weight each, these are the weights of a choice
same_weights : (ws vs : List ℕ) (parts : List (List Triple)) → HaveWeight vs parts → IsAsLong ws parts → (chosen : List Triple) → IsChoice chosen (of_weights ws parts) → ws ≡ vs
same_weights [] [] parts have long chosen c = refl
same_weights [] (v ∷ vs) [] have long chosen c = absurd have
same_weights [] (v ∷ vs) (part ∷ parts) have long chosen c = absurd long
same_weights (w ∷ ws) vs [] have long chosen c = absurd long
same_weights (w ∷ ws) [] (part ∷ parts) have long chosen c = absurd have
same_weights (w ∷ ws) (v ∷ vs) (part ∷ parts) have long [] c = absurd c
same_weights (w ∷ ws) (v ∷ vs) (part ∷ parts) have long (t ∷ chosen) c =
    let f = of_filter (λ (t : Triple). eqb t.weight w) t part c.0 in
    let first : w ≡ v = sym (eqb-true t.weight w f.1) ∙ have.0 t f.0 in
    let more = same_weights ws vs parts have.1 long chosen c.1 in
    ap (λ u. u ∷ ws) first ∙ ap (λ us. v ∷ us) more

module _ (near_splits : NearSplitsByWeight) where
  weigh_near : (n : ℕ) (ordered : Bool) (vs : List ℕ) (parts : List (List Triple)) → HaveWeight vs parts → (t : Triple) → IsIn t (near n ordered parts) → t.weight ≡ sum vs
  weigh_near n ordered vs parts have t i =
      let r = (near_splits n ordered parts t).0 i in
      let c = of_near n ordered (of_weights r.0 parts) t r.3 in
      sym r.2 ∙ ap sum (same_weights r.0 vs parts have r.1 c.chosen c.is_choice)

module _ (least_inside : LeastInside) (near_splits : NearSplitsByWeight) (width_counts : WidthCountsWeights) (joined_are_least : JoinedAreLeast) where
  -- a join has enough of the near of what its parts have
  pub join_dense : (n : ℕ) (ordered : Bool) (vs : List ℕ) (p : ℕ × ℕ) (lists : List (List Span)) → AsMany vs lists → AllOrdered lists →
      Dense (near n ordered (matches_each vs p lists)) (matches_at (sum vs) p (joined_spans (n + sum vs) ordered lists))
  join_dense n ordered vs p lists many o =
      let have = have_weight vs p lists many in
      dense_pairs least_inside (sum vs) p (joined_spans (n + sum vs) ordered lists) (near n ordered (matches_each vs p lists)) (near (n + sum vs) ordered (map (matches_at 0 p) lists))
      (weigh_near near_splits n ordered vs (matches_each vs p lists) have)
      (λ first last. subst (λ light. HasInterval (near n ordered (matches_each vs p lists)) first last ↔ HasInterval (near (n + sum vs) ordered light) first last) (light_each vs p lists many)
      (width_counts n ordered vs (matches_each vs p lists) have first last))
      (λ s e. subst (λ q. IsIn s (joined_spans (n + sum vs) ordered lists) ↔ IsLeastPair (near (n + sum vs) ordered (map (matches_at 0 q) lists)) s.first s.last) e
      (joined_are_least (n + sum vs) ordered lists o s))
