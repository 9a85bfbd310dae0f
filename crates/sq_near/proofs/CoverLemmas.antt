-- Covers as a relation: there is a choice of one span of each list.
use Rattle.std.proofs.Common.{◌≡◌, ◌⊎◌, inl, inr, ℕ, ◌+◌, ◌-◌, ◌≤◌, min, max, Bool, true, List, [], ◌∷◌, map, filter, Some, refl, sym, ◌∙◌, ap, subst, arith}
use mathlib.Core.Logic.{⊎_elim}
use Rattle.std.specs.Prelude.{nat_le}
use Rattle.std.specs.List.{fold, reduce}
use Rattle.std.proofs.lemmas.Bool.{eq-eqb, cases_order}
use Rattle.std.proofs.lemmas.Bool.Decides.{nat_tests}
use Rattle.sq_model.specs.Triples.{join, keeps_order, is_near, near}
use Rattle.sq_model.specs.declared.triple.Triple.{Triple}
use Rattle.sq_cursor.specs.declared.span.Span.{Span}
use Rattle.sq_cursor.specs.Spans.{passage_of}
use Rattle.sq_near.specs.Covers.{is_at, match_of, matches_at, span_of, covers}
use Rattle.sq_near.specs.Moves.{hull}
use Rattle.sq_model.proofs.Members.{IsIn, to_filter, of_filter, to_map, of_map, to_flat_map, of_flat_map}
use Rattle.sq_model.proofs.Choices.{IsChoice, to_near, of_near}

-- ---- hulls

-- t reaches just as far as all of the spans
pub record IsHull (xs : List Span) (t : Span) : Type 0 where
  pub within : (x : Span) → IsIn x xs → (t.first ≤ x.first) × (x.last ≤ t.last)
  pub first : (x : Span) × IsIn x xs × (x.first ≡ t.first)
  pub last : (x : Span) × IsIn x xs × (x.last ≡ t.last)

min_is : (a b : ℕ) → (min a b ≡ a) ⊎ (min a b ≡ b)
min_is a b = ⊎_elim (λ e. inl (omega (arith, e))) (λ l. ⊎_elim (λ m. inl (omega (arith, m))) (λ m. inr (omega (arith, m))) l) (cases_order a b)

max_is : (a b : ℕ) → (max a b ≡ a) ⊎ (max a b ≡ b)
max_is a b = ⊎_elim (λ e. inl (omega (arith, e))) (λ l. ⊎_elim (λ m. inr (omega (arith, m))) (λ m. inl (omega (arith, m))) l) (cases_order a b)

pub fold_hull : (a : Span) (xs : List Span) → IsHull (a ∷ xs) (fold hull a xs)
fold_hull a [] = record {
  within = λ x h. ⊎_elim (λ e. (omega (arith, ap (λ s. s.first) e), omega (arith, ap (λ s. s.last) e))) (λ k. absurd k) h;
  first = (a, inl refl, refl);
  last = (a, inl refl, refl);
}
fold_hull a (b ∷ xs) =
    let r = fold_hull (hull a b) xs in
    let low = r.within (hull a b) (inl refl) in
    record {
      within = λ x h. ⊎_elim
          (λ e. (omega (arith, ap (λ s. s.first) e, low.0), omega (arith, ap (λ s. s.last) e, low.1)))
          (λ k. ⊎_elim
          (λ e. (omega (arith, ap (λ s. s.first) e, low.0), omega (arith, ap (λ s. s.last) e, low.1)))
          (λ m. r.within x (inr m)) k) h;
      first = ⊎_elim
          (λ e. ⊎_elim
          (λ m. (a, inl refl, sym m ∙ sym (ap (λ s. s.first) e) ∙ r.first.2))
          (λ m. (b, inr (inl refl), sym m ∙ sym (ap (λ s. s.first) e) ∙ r.first.2)) (min_is a.first b.first))
          (λ k. (r.first.0, inr (inr k), r.first.2)) r.first.1;
      last = ⊎_elim
          (λ e. ⊎_elim
          (λ m. (a, inl refl, sym m ∙ sym (ap (λ s. s.last) e) ∙ r.last.2))
          (λ m. (b, inr (inl refl), sym m ∙ sym (ap (λ s. s.last) e) ∙ r.last.2)) (max_is a.last b.last))
          (λ k. (r.last.0, inr (inr k), r.last.2)) r.last.1;
    }

hull_unique : (xs : List Span) (s t : Span) → IsHull xs s → IsHull xs t → (s.first ≡ t.first) × (s.last ≡ t.last)
hull_unique xs s t g h =
    let a = g.within h.first.0 h.first.1 in
    let b = h.within g.first.0 g.first.1 in
    let c = g.within h.last.0 h.last.1 in
    let d = h.within g.last.0 g.last.1 in
    (omega (arith, a.0, b.0, h.first.2, g.first.2), omega (arith, c.1, d.1, h.last.2, g.last.2))

-- the same over matches
fold_matches : (a : Span) (xs : List Span) → fold join (match_of 0 a) (map (match_of 0) xs) ≡ match_of 0 (fold hull a xs)
fold_matches a [] = refl
fold_matches a (b ∷ xs) = fold_matches (hull a b) xs

-- ---- choices of spans of one passage

of_matches : (p : ℕ × ℕ) (ts : List Triple) (lists : List (List Span)) → IsChoice ts (map (matches_at 0 p) lists) →
    (xs : List Span) × IsChoice xs lists × ((x : Span) → IsIn x xs → (x.row ≡ p.0) × (x.part ≡ p.1)) × (ts ≡ map (match_of 0) xs)
of_matches p [] [] h = ([], tt, (λ x k. absurd k), refl)
of_matches p [] (l ∷ lists) h = absurd h
of_matches p (t ∷ ts) [] h = absurd h
of_matches p (t ∷ ts) (l ∷ lists) h =
    let m = of_map (match_of 0) t (filter (is_at p) l) h.0 in
    let f = of_filter (is_at p) m.0 l m.1 in
    let r = of_matches p ts lists h.1 in
    (m.0 ∷ r.0, (f.0, r.1), (λ x k. ⊎_elim (λ e. at x m.0 e f.1) (λ i. r.2 x i) k), ap (λ u. u ∷ ts) m.2 ∙ ap (λ us. match_of 0 m.0 ∷ us) r.3)
  where
    at : (x y : Span) → x ≡ y → is_at p y ≡ true → (x.row ≡ p.0) × (x.part ≡ p.1)
    at x y e f =
        let g : is_at p x ≡ true = ap (is_at p) e ∙ f in
        (grind (arith, nat_tests), grind (arith, nat_tests))

to_matches : (p : ℕ × ℕ) (xs : List Span) (lists : List (List Span)) → IsChoice xs lists → ((x : Span) → IsIn x xs → (x.row ≡ p.0) × (x.part ≡ p.1)) →
    IsChoice (map (match_of 0) xs) (map (matches_at 0 p) lists)
to_matches p [] [] h at = tt
to_matches p [] (l ∷ lists) h at = absurd h
to_matches p (x ∷ xs) [] h at = absurd h
to_matches p (x ∷ xs) (l ∷ lists) h at =
    let e = at x (inl refl) in
    let test : is_at p x ≡ true = rw (eq-eqb x.row p.0 e.0, eq-eqb x.part p.1 e.1) refl in
    (to_map (match_of 0) x (filter (is_at p) l) (to_filter (is_at p) x l h.0 test), to_matches p xs lists h.1 (λ y k. at y (inr k)))

-- s is the cover of a choice
pub record IsCover (width : ℕ) (ordered : Bool) (lists : List (List Span)) (s : Span) : Type 0 where
  pub chosen : List Span
  pub choice : IsChoice chosen lists
  pub at : (x : Span) → IsIn x chosen → (x.row ≡ s.row) × (x.part ≡ s.part)
  pub order : keeps_order ordered (map (match_of 0) chosen) ≡ true
  pub hull : IsHull chosen s
  pub near : nat_le (s.last - s.first + 1) (width + 0) ≡ true

pub of_cover : (width : ℕ) (ordered : Bool) (lists : List (List Span)) (s : Span) → IsIn s (covers width ordered lists) → IsCover width ordered lists s
of_cover width ordered [] s h = absurd h
of_cover width ordered (l ∷ lists) s h =
    let r = of_flat_map (λ p. map (span_of p) (near width ordered (map (matches_at 0 p) (l ∷ lists)))) s (map passage_of l) h in
    let p = r.0 in
    let m = of_map (span_of p) s (near width ordered (map (matches_at 0 p) (l ∷ lists))) r.2 in
    let n = of_near width ordered (map (matches_at 0 p) (l ∷ lists)) m.0 m.1 in
    let c = of_matches p n.chosen (l ∷ lists) n.is_choice in
    at p m.0 m.2 n.chosen c.0 c.1 c.2 c.3 n.is_ordered n.joins n.is_close
  where
    at : (p : ℕ × ℕ) (t : Triple) → s ≡ span_of p t → (ts : List Triple) (xs : List Span) → IsChoice xs (l ∷ lists) → ((x : Span) → IsIn x xs → (x.row ≡ p.0) × (x.part ≡ p.1)) →
        ts ≡ map (match_of 0) xs → keeps_order ordered ts ≡ true → reduce join ts ≡ Some t → is_near width t ≡ true → IsCover width ordered (l ∷ lists) s
    at p t e ts [] c f g o j k = absurd c
    at p t e ts (x ∷ xs) c f g o j k =
        let w : match_of 0 (fold hull x xs) ≡ t = some (sym (ap Some (fold_matches x xs)) ∙ sym (ap (reduce join) g) ∙ j) in
        let h = fold_hull x xs in
        let first : (fold hull x xs).first ≡ s.first = ap (λ u. u.first) w ∙ sym (ap (λ u. u.first) e) in
        let last : (fold hull x xs).last ≡ s.last = ap (λ u. u.last) w ∙ sym (ap (λ u. u.last) e) in
        let weight : 0 ≡ t.weight = ap (λ u. u.weight) w in
        record {
          chosen = x ∷ xs;
          choice = c;
          at = λ y i. let q = f y i in (q.0 ∙ sym (ap (λ u. u.row) e), q.1 ∙ sym (ap (λ u. u.part) e));
          order = ap (keeps_order ordered) (sym g) ∙ o;
          hull = record {
            within = λ y i. let q = h.within y i in (omega (arith, q.0, first), omega (arith, q.1, last));
            first = (h.first.0, h.first.1, h.first.2 ∙ first);
            last = (h.last.0, h.last.1, h.last.2 ∙ last);
          };
          near = ap (λ n. nat_le (n - s.first + 1) (width + 0)) (ap (λ u. u.last) e) ∙ ap (λ n. nat_le (t.last - n + 1) (width + 0)) (ap (λ u. u.first) e) ∙ ap (λ n. nat_le (t.last - t.first + 1) (width + n)) weight ∙ k;
        }
      where
        some : {a b : Triple} → Some a ≡ Some b → a ≡ b
        some e = cc

pub to_cover : (width : ℕ) (ordered : Bool) (lists : List (List Span)) (s : Span) → IsCover width ordered lists s → IsIn s (covers width ordered lists)
to_cover width ordered [] s h = absurd (none h.chosen h.choice h.hull.first.0 h.hull.first.1)
  where
    none : (xs : List Span) → IsChoice xs [] → (x : Span) → IsIn x xs → ⊥
    none [] c x k = k
    none (y ∷ xs) c x k = c
to_cover width ordered (l ∷ lists) s h = at h.chosen h.choice h.at h.order h.hull
  where
    p : ℕ × ℕ
    p = passage_of s

    at : (xs : List Span) → IsChoice xs (l ∷ lists) → ((x : Span) → IsIn x xs → (x.row ≡ s.row) × (x.part ≡ s.part)) → keeps_order ordered (map (match_of 0) xs) ≡ true → IsHull xs s →
        IsIn s (covers width ordered (l ∷ lists))
    at [] c f o g = absurd c
    at (x ∷ xs) c f o g =
        let t : Triple = match_of 0 s in
        let u = hull_unique (x ∷ xs) (fold hull x xs) s (fold_hull x xs) g in
        let same : match_of 0 (fold hull x xs) ≡ t = ap (λ n. record { first = n; last = (fold hull x xs).last; weight = 0 }) u.0 ∙ ap (λ n. record { first = s.first; last = n; weight = 0 }) u.1 in
        let has = to_near width ordered (map (matches_at 0 p) (l ∷ lists)) t (record {
          chosen = map (match_of 0) (x ∷ xs);
          is_choice = to_matches p (x ∷ xs) (l ∷ lists) c f;
          is_ordered = o;
          joins = ap Some (fold_matches x xs ∙ same);
          is_close = h.near;
        }) in
        let e = f x (inl refl) in
        let here : p ≡ passage_of x = ap (λ n. (n, s.part)) (sym e.0) ∙ ap (λ n. (x.row, n)) (sym e.1) in
        to_flat_map (λ q. map (span_of q) (near width ordered (map (matches_at 0 q) (l ∷ lists)))) s p (map passage_of l)
        (subst (λ q. IsIn q (map passage_of l)) (sym here) (to_map passage_of x l c.0))
        (to_map (span_of p) t (near width ordered (map (matches_at 0 p) (l ∷ lists))) has)

pub cover_short : (width : ℕ) (s : Span) → nat_le (s.last - s.first + 1) (width + 0) ≡ true → s.last + 1 ≤ s.first + width
cover_short width s e =
    let l : s.last - s.first + 1 ≤ width + 0 = grind (arith, nat_tests) in omega (arith, l)

pub short_cover : (width : ℕ) (s : Span) → nat_le s.first s.last ≡ true → s.last + 1 ≤ s.first + width → nat_le (s.last - s.first + 1) (width + 0) ≡ true
short_cover width s e l =
    let m : s.first ≤ s.last = grind (arith, nat_tests) in
    let k : s.last - s.first + 1 ≤ width + 0 = omega (arith, m, l) in grind (arith, nat_tests)
