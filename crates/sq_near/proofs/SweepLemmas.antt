-- One turn of a join, over any list of covers.
use Rattle.std.proofs.Common.{◌≡◌, ◌⊎◌, inl, inr, ℕ, ◌+◌, ◌<◌, ◌≤◌, Bool, true, false, not, ◌&&◌, ◌||◌, cond, List, [], ◌∷◌, ◌++◌, filter, Option, Some, None, refl, sym, ◌∙◌, ap, subst, arith, true≢false}
use mathlib.Core.Logic.{⊎_elim}
use Rattle.std.specs.Prelude.{eqb, nat_lt, nat_le}
use Rattle.std.proofs.lemmas.Bool.{eq-eqb, cases_order}
use Rattle.std.proofs.lemmas.Bool.Decides.{nat_tests}
use Rattle.sq_cursor.specs.declared.span.Span.{Span}
use Rattle.sq_cursor.specs.Spans.{passage_of, is_passage_before, comes_after, all_come_after, are_ordered}
use Rattle.sq_near.specs.Least.{least_of, ordered_least}
use Rattle.sq_near.specs.Streams.{is_beyond, ordered_filter}
use Rattle.sq_near.proofs.BaseLemmas.{Wraps, wraps_chain, base_least, base_only, after_ends}
use Rattle.sq_model.proofs.Members.{IsIn}
use Rattle.sq_near.specs.Moves.{ends_like}

-- ---- filters

to_filter : (p : Span → Bool) (t : Span) (spans : List Span) → IsIn t spans → p t ≡ true → IsIn t (filter p spans)
to_filter p t [] h e = absurd h
to_filter p t (s ∷ spans) h e = at (p s) refl h (λ k. to_filter p t spans k e)
  where
    at : (b : Bool) → p s ≡ b → (t ≡ s) ⊎ IsIn t spans → (IsIn t spans → IsIn t (filter p spans)) → IsIn t (cond b (s ∷ filter p spans) (filter p spans))
    at true f (inl q) more = inl q
    at true f (inr k) more = inr (more k)
    at false f (inl q) more = absurd (true≢false (sym e ∙ ap p q ∙ f))
    at false f (inr k) more = more k

of_filter : (p : Span → Bool) (t : Span) (spans : List Span) → IsIn t (filter p spans) → IsIn t spans × (p t ≡ true)
of_filter p t [] h = absurd h
of_filter p t (s ∷ spans) h = at (p s) refl h (of_filter p t spans)
  where
    at : (b : Bool) → p s ≡ b → IsIn t (cond b (s ∷ filter p spans) (filter p spans)) → (IsIn t (filter p spans) → IsIn t spans × (p t ≡ true)) → ((t ≡ s) ⊎ IsIn t spans) × (p t ≡ true)
    at true f (inl q) more = (inl q, ap p q ∙ f)
    at true f (inr k) more = let r = more k in (inr r.0, r.1)
    at false f k more = let r = more k in (inr r.0, r.1)

all_after_of : (a : Span) (spans : List Span) → ((t : Span) → IsIn t spans → comes_after a t ≡ true) → all_come_after a spans ≡ true
all_after_of a [] h = refl
all_after_of a (s ∷ spans) h = rw (h s (inl refl)) (all_after_of a spans (λ t k. h t (inr k)))

-- what is beyond c: in a later passage, or in c's with a later first token
abbrev beyond : Span → Span → Bool
beyond c s = is_beyond (passage_of c) c.first s

beyond_cases : (c s : Span) → beyond c s ≡ true → (is_passage_before (passage_of c) (passage_of s) ≡ true) ⊎ ((s.row ≡ c.row) × (s.part ≡ c.part) × (c.first < s.first))
beyond_cases c s e = at (is_passage_before (passage_of c) (passage_of s)) refl e
  where
    at : (b : Bool) → is_passage_before (passage_of c) (passage_of s) ≡ b → b || (eqb s.row c.row && (eqb s.part c.part && nat_lt c.first s.first)) ≡ true →
        (is_passage_before (passage_of c) (passage_of s) ≡ true) ⊎ ((s.row ≡ c.row) × (s.part ≡ c.part) × (c.first < s.first))
    at true f g = inl f
    at false f g = inr (grind (arith, nat_tests), grind (arith, nat_tests), grind (arith, nat_tests))

beyond_later : (c s : Span) → is_passage_before (passage_of c) (passage_of s) ≡ true → beyond c s ≡ true
beyond_later c s e = rw e refl

beyond_same : (c s : Span) → s.row ≡ c.row → s.part ≡ c.part → c.first < s.first → beyond c s ≡ true
beyond_same c s r p l =
    let t : nat_lt c.first s.first ≡ true = grind (arith, nat_tests) in
    at (is_passage_before (passage_of c) (passage_of s)) (eqb s.row c.row) (eqb s.part c.part) (nat_lt c.first s.first) (eq-eqb s.row c.row r) (eq-eqb s.part c.part p) t
  where
    at : (a b d e : Bool) → b ≡ true → d ≡ true → e ≡ true → a || (b && (d && e)) ≡ true
    at true b d e f g h = refl
    at false true true true f g h = refl
    at false false d e f g h = absurd (true≢false (sym f))
    at false true false e f g h = absurd (true≢false (sym g))
    at false true true false f g h = absurd (true≢false (sym h))

-- lists of covers: `all`, of which `rest` are those beyond c
module _ (width : ℕ) (all rest : List Span) (c : Span) where
  pub record Turn (next : Option Span) : Type 0 where
    pub proper : nat_le c.first c.last ≡ true
    pub short : (s : Span) → IsIn s all → s.last + 1 ≤ s.first + width
    pub leads : (s : Span) → IsIn s all → (is_passage_before (passage_of c) (passage_of s) ≡ true) ⊎ ((s.row ≡ c.row) × (s.part ≡ c.part) × (c.first ≤ s.first) × (c.last ≤ s.last))
    pub is : c.last + 1 ≤ c.first + width → IsIn c all
    pub to_rest : (s : Span) → IsIn s all → beyond c s ≡ true → IsIn s rest
    pub of_rest : (s : Span) → IsIn s rest → IsIn s all × (beyond c s ≡ true)
    pub none : next ≡ None → (s : Span) → IsIn s rest → ⊥
    pub some : (n : Span) → next ≡ Some n → (beyond c n ≡ true) × (nat_le n.first n.last ≡ true) × (n.last + 1 ≤ n.first + width → IsIn n rest)
        × ((s : Span) → IsIn s rest → (is_passage_before (passage_of n) (passage_of s) ≡ true) ⊎ ((s.row ≡ n.row) × (s.part ≡ n.part) × (n.first ≤ s.first) × (n.last ≤ s.last)))

  abbrev pub given : Option Span → List Span
  given next = cond (not (ends_like next c) && nat_le (c.last + 1) (c.first + width)) (c ∷ []) []

  abbrev few : Option Span → List Span
  few next = given next ++ filter (beyond c) (least_of all)

  inward : (s l : Span) → Wraps s l → beyond c s ≡ true → beyond c l ≡ true
  inward s l w e = ⊎_elim
      (λ k. beyond_later c l (rw (← w.row, ← w.part) k))
      (λ k. beyond_same c l (sym w.row ∙ k.0) (sym w.part ∙ k.1) (omega (arith, k.2, w.first))) (beyond_cases c s e)

  -- a least cover that is not beyond c wraps c
  not_beyond : (next : Option Span) (turn : Turn next) (l : Span) → IsIn l all → beyond c l ≡ false → Wraps l c
  not_beyond next turn l h e = ⊎_elim
      (λ k. absurd (true≢false (sym (beyond_later c l k) ∙ e)))
      (λ k. ⊎_elim
      (λ q. record { row = k.0; part = k.1; first = omega (arith, q); last = k.3 })
      (λ m. ⊎_elim
      (λ o. record { row = k.0; part = k.1; first = omega (arith, o); last = k.3 })
      (λ o. absurd (true≢false (sym (beyond_same c l k.0 k.1 o) ∙ e))) m) (cases_order l.first c.first)) (turn.leads l h)

  -- the next cover ends like c and lies in it
  inside : (next : Option Span) → Turn next → ends_like next c ≡ true → c.last + 1 ≤ c.first + width → (n : Span) × IsIn n rest × Wraps c n × (nat_le n.first n.last ≡ true)
  inside None turn e l = absurd (true≢false (sym e))
  inside (Some n) turn e l =
      let t = turn.some n refl in
      let row : n.row ≡ c.row = grind (arith, nat_tests) in
      let part : n.part ≡ c.part = grind (arith, nat_tests) in
      let last : n.last ≡ c.last = grind (arith, nat_tests) in
      let first : c.first < n.first = ⊎_elim (λ k. absurd (not_itself c.row c.part n.row n.part row part k)) (λ k. k.2) (beyond_cases c n t.0) in
      (n, t.2 (omega (arith, last, first, l)), record { row = sym row; part = sym part; first = omega (arith, first); last = omega (arith, last) }, t.1)
    where
      not_itself : (a b x y : ℕ) → x ≡ a → y ≡ b → is_passage_before (a, b) (x, y) ≡ true → ⊥
      not_itself a b x y e f g = grind (arith, nat_tests)

  from_few : (next : Option Span) → Turn next → (t : Span) → IsIn t (few next) → IsIn t all
  from_few next turn t h = at (ends_like next c) (nat_le (c.last + 1) (c.first + width)) refl h
    where
      kept : IsIn t (filter (beyond c) (least_of all)) → IsIn t all
      kept k = (base_least all).some t (of_filter (beyond c) t (least_of all) k).0

      at : (e d : Bool) → nat_le (c.last + 1) (c.first + width) ≡ d → IsIn t (cond (not e && d) (c ∷ []) [] ++ filter (beyond c) (least_of all)) → IsIn t all
      at true d f k = kept k
      at false true f (inl q) = subst (λ s. IsIn s all) (sym q) (turn.is (grind (arith, nat_tests)))
      at false true f (inr k) = kept k
      at false false f k = kept k

  standing : (e d : Bool) (spans : List Span) → e ≡ false → d ≡ true → IsIn c (cond (not e && d) (c ∷ []) [] ++ spans)
  standing true d spans f g = absurd (true≢false f)
  standing false true spans f g = inl refl
  standing false false spans f g = absurd (true≢false (sym g))

  -- of each cover one of the few lies inside
  wraps_few : (next : Option Span) → Turn next → (x : Span) → IsIn x all → nat_le x.first x.last ≡ true → (l : Span) × IsIn l (few next) × Wraps x l
  wraps_few next turn x h p =
      let r = (base_least all).below x h p in
      let lies = (base_least all).some r.0 r.1 in
      at r.0 r.1 lies r.2 (beyond c r.0) refl
    where
      right : (t : Span) (xs ys : List Span) → IsIn t ys → IsIn t (xs ++ ys)
      right t [] ys h = h
      right t (s ∷ xs) ys h = inr (right t xs ys h)

      is_short : Wraps x c → c.last + 1 ≤ c.first + width
      is_short w = let s = turn.short x h in omega (arith, s, w.first, w.last)

      behind : (n : Span) → IsIn n rest → nat_le n.first n.last ≡ true → Wraps x n → (l : Span) × IsIn l (few next) × Wraps x l
      behind n k q w =
          let m = turn.of_rest n k in
          let b = (base_least all).below n m.0 q in
          (b.0, right b.0 (given next) (filter (beyond c) (least_of all)) (to_filter (beyond c) b.0 (least_of all) b.1 (inward n b.0 b.2 m.1)), wraps_chain x n b.0 w b.2)

      first : (next : Option Span) → Turn next → Wraps x c → ends_like next c ≡ true → ((n : Span) → IsIn n rest → nat_le n.first n.last ≡ true → Wraps x n → (l : Span) × IsIn l (few next) × Wraps x l) → (l : Span) × IsIn l (few next) × Wraps x l
      first None turn w e more = absurd (true≢false (sym e))
      first (Some n) turn w e more =
          let i = inside (Some n) turn e (is_short w) in
          more i.0 i.1 i.3 (wraps_chain x c i.0 w i.2)

      at : (l : Span) → IsIn l (least_of all) → IsIn l all → Wraps x l → (b : Bool) → beyond c l ≡ b → (l : Span) × IsIn l (few next) × Wraps x l
      at l k i w true e = (l, right l (given next) (filter (beyond c) (least_of all)) (to_filter (beyond c) l (least_of all) k e), w)
      at l k i w false e = at_c (wraps_chain x l c w (not_beyond next turn l i e)) (ends_like next c) refl
        where
          at_c : Wraps x c → (b : Bool) → ends_like next c ≡ b → (l : Span) × IsIn l (few next) × Wraps x l
          at_c v true e = first next turn v e behind
          at_c v false e =
              let short : nat_le (c.last + 1) (c.first + width) ≡ true = let q = is_short v in grind (arith, nat_tests) in
              (c, standing (ends_like next c) (nat_le (c.last + 1) (c.first + width)) (filter (beyond c) (least_of all)) e short, v)

  -- what is beyond c comes after it, where c is given
  after_c : (next : Option Span) → Turn next → ends_like next c ≡ false → nat_le (c.last + 1) (c.first + width) ≡ true → (s : Span) → IsIn s all → beyond c s ≡ true → comes_after c s ≡ true
  after_c next turn e d s h b = ⊎_elim
      (λ k. or_left (is_passage_before (passage_of c) (passage_of s)) _ k)
      (λ k. after_ends c s (sym k.0) (sym k.1) k.2 (later next turn e k)) (beyond_cases c s b)
    where
      or_left : (a b : Bool) → a ≡ true → a || b ≡ true
      or_left a b e = rw e refl

      not_before : (a b x y : ℕ) → x ≡ a → y ≡ b → is_passage_before (a, b) (x, y) ≡ true → ⊥
      not_before a b x y e f g = grind (arith, nat_tests)

      alike : (n : Span) → n.row ≡ c.row → n.part ≡ c.part → n.last ≡ c.last → ends_like (Some n) c ≡ true
      alike n row part last = rw (eq-eqb n.row c.row row, eq-eqb n.part c.part part, eq-eqb n.last c.last last) refl

      round : (a b x y v w : ℕ) → v ≡ a → w ≡ b → is_passage_before (a, b) (x, y) ≡ true → is_passage_before (x, y) (v, w) ≡ true → ⊥
      round a b x y v w e f g h = grind (arith, nat_tests)

      -- c's passage lies at or behind that of the next cover, which lies at or behind c's
      later : (next : Option Span) → Turn next → ends_like next c ≡ false → (s.row ≡ c.row) × (s.part ≡ c.part) × (c.first < s.first) → c.last < s.last
      later None turn e k = absurd (turn.none refl s (turn.to_rest s h b))
      later (Some n) turn e k =
          let t = turn.some n refl in
          let lead = turn.leads s h in
          ⊎_elim
          (λ q. absurd (⊎_elim
          (λ r. round c.row c.part n.row n.part s.row s.part k.0 k.1 r q)
          (λ r. not_before n.row n.part s.row s.part (k.0 ∙ sym r.0) (k.1 ∙ sym r.1) q) (beyond_cases c n t.0)))
          (λ q.
          let row : n.row ≡ c.row = sym q.0 ∙ k.0 in
          let part : n.part ≡ c.part = sym q.1 ∙ k.1 in
          let first : c.first < n.first = ⊎_elim (λ r. absurd (not_before c.row c.part n.row n.part row part r)) (λ r. r.2) (beyond_cases c n t.0) in
          let short : c.last + 1 ≤ c.first + width = grind (arith, nat_tests) in
          ⊎_elim
          (λ r. absurd (true≢false (sym (alike n row part (sym r)) ∙ e)))
          (λ r. ⊎_elim
          (λ m. omega (arith, m, q.3))
          (λ m.
          let in_all = (turn.of_rest n (t.2 (omega (arith, m, first, short)))).0 in
          ⊎_elim
          (λ o. absurd (not_before c.row c.part n.row n.part row part o))
          (λ o. absurd (omega (arith, m, o.3))) (turn.leads n in_all)) r) (cases_order c.last n.last)) (t.3 s (turn.to_rest s h b))

  ordered_few : (next : Option Span) → Turn next → are_ordered (few next) ≡ true
  ordered_few next turn = at (ends_like next c) refl (nat_le (c.last + 1) (c.first + width)) refl
    where
      rest_is : are_ordered (filter (beyond c) (least_of all)) ≡ true
      rest_is = ordered_filter (beyond c) (least_of all) (ordered_least all)

      and_both : (a b : Bool) → a ≡ true → b ≡ true → a && b ≡ true
      and_both true b e f = f
      and_both false b e f = absurd (true≢false (sym e))

      at : (e : Bool) → ends_like next c ≡ e → (d : Bool) → nat_le (c.last + 1) (c.first + width) ≡ d → are_ordered (cond (not e && d) (c ∷ []) [] ++ filter (beyond c) (least_of all)) ≡ true
      at true f d g = rest_is
      at false f false g = rest_is
      at false f true g =
          and_both _ _ turn.proper (and_both _ _ (all_after_of c (filter (beyond c) (least_of all))
          (λ t k. let r = of_filter (beyond c) t (least_of all) k in after_c next turn f g t ((base_least all).some t r.0) r.1)) rest_is)

  -- one turn: c where it is given, and then what is beyond it
  pub sweep : (next : Option Span) → Turn next → least_of all ≡ few next
  sweep next turn = sym (base_only all (few next) (ordered_few next turn) (record { some = from_few next turn; below = wraps_few next turn }))
