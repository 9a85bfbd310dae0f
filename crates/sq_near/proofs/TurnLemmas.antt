-- One turn of a join and of a merge, over what is left of the parts.
use Rattle.std.proofs.Common.{◌≡◌, ◌⊎◌, inl, inr, ℕ, ◌+◌, ◌*◌, ◌^◌, ◌<◌, ◌≤◌, Bool, true, false, not, ◌&&◌, ◌||◌, cond, List, [], ◌∷◌, ◌++◌, map, filter, Option, Some, None, refl, sym, ◌∙◌, ap, subst, arith}
use mathlib.Core.Logic.{⊎_elim}
use Rattle.std.specs.Prelude.{eqb, nat_lt, nat_le}
use Rattle.std.proofs.lemmas.Bool.{eq-eqb, eqb-true}
use Rattle.std.proofs.lemmas.Bool.Decides.{nat_tests}
use Rattle.sq_cursor.specs.declared.span.Span.{Span}
use Rattle.sq_cursor.specs.Spans.{passage_of, is_passage_before, comes_after, all_come_after, are_ordered, spans_from}
use Rattle.sq_near.specs.Covers.{covers, joined_spans}
use Rattle.sq_near.specs.Least.{least_of, all_after_chain}
use Rattle.sq_near.specs.declared.cover.Cover.{Cover}
use Rattle.sq_near.specs.Streams.{cover_span, is_beyond, spans_beyond, found_left}
use Rattle.sq_near.specs.Moves.{ends_like, AreSome, Keeps, IsLeading, LeadsNext, passage_number, is_after}
use Rattle.sq_near.proofs.BaseLemmas.{rest_after}
use Rattle.sq_near.proofs.CoverLemmas.{of_cover, cover_short}
use Rattle.sq_near.proofs.SweepLemmas.{Turn, sweep}
use Rattle.sq_near.proofs.JoinLemmas.{in_some, in_filter, covers_some, least_filtered, covers_to, covers_of, some_is, no_some, and_cases, or_cases}
use Rattle.sq_model.proofs.Members.{IsIn}

-- ---- beyond a place, and from a passage

pub beyond_cases : (p : ℕ × ℕ) (place : ℕ) (s : Span) → is_beyond p place s ≡ true → (is_passage_before p (passage_of s) ≡ true) ⊎ ((s.row ≡ p.0) × (s.part ≡ p.1) × (place < s.first))
beyond_cases p place s e = ⊎_elim (λ k. inl k)
    (λ k.
    let a = and_cases (eqb s.row p.0) (eqb s.part p.1 && nat_lt place s.first) k in
    let b = and_cases (eqb s.part p.1) (nat_lt place s.first) a.1 in
    let l : place < s.first = less b.1 in
    inr (eqb-true s.row p.0 a.0, eqb-true s.part p.1 b.0, l)) (or_cases (is_passage_before p (passage_of s)) (eqb s.row p.0 && (eqb s.part p.1 && nat_lt place s.first)) e)
  where
    less : nat_lt place s.first ≡ true → place < s.first
    less t = grind (arith, nat_tests)

pub beyond_later : (p : ℕ × ℕ) (place : ℕ) (s : Span) → is_passage_before p (passage_of s) ≡ true → is_beyond p place s ≡ true
beyond_later p place s e = rw e refl

pub beyond_same : (p : ℕ × ℕ) (place : ℕ) (s : Span) → s.row ≡ p.0 → s.part ≡ p.1 → place < s.first → is_beyond p place s ≡ true
beyond_same p place s a b l = at (is_passage_before p (passage_of s)) (eqb s.row p.0) (eqb s.part p.1) (nat_lt place s.first) (eq-eqb s.row p.0 a) (eq-eqb s.part p.1 b) test
  where
    test : nat_lt place s.first ≡ true
    test = grind (arith, nat_tests)

    at : (x y z t : Bool) → y ≡ true → z ≡ true → t ≡ true → x || (y && (z && t)) ≡ true
    at true y z t e f g = refl
    at false y z t e f g = rw (e, f, g) refl

-- a span of the passage of another, that begins no earlier
pub beyond_move : (p : ℕ × ℕ) (place : ℕ) (s t : Span) → t.row ≡ s.row → t.part ≡ s.part → s.first ≤ t.first → is_beyond p place s ≡ true → is_beyond p place t ≡ true
beyond_move p place s t row part l e = ⊎_elim
    (λ k. beyond_later p place t (ap (λ n. is_passage_before p (n, t.part)) row ∙ ap (λ n. is_passage_before p (s.row, n)) part ∙ k))
    (λ k. beyond_same p place t (row ∙ k.0) (part ∙ k.1) (omega (arith, k.2, l))) (beyond_cases p place s e)

module _ (width : ℕ) (ordered : Bool) (p : ℕ × ℕ) (place : ℕ) (lists : List (List Span)) where
  same : (a b : ℕ) → a ≡ b → a ≤ b
  same a b e = omega (arith, e)

  pub to_beyond : (s : Span) → IsIn s (covers width ordered lists) → is_beyond p place s ≡ true → IsIn s (covers width ordered (map (spans_beyond p place) lists))
  to_beyond = covers_to width ordered (is_beyond p place) lists (λ s c e x i. let a = c.at x i in beyond_move p place s x a.0 a.1 (c.hull.within x i).0 e)

  pub of_beyond : (s : Span) → IsIn s (covers width ordered (map (spans_beyond p place) lists)) → IsIn s (covers width ordered lists) × (is_beyond p place s ≡ true)
  of_beyond = covers_of width ordered (is_beyond p place) lists
      (λ s c h. let x = c.hull.first in let a = c.at x.0 x.1 in beyond_move p place x.0 s (sym a.0) (sym a.1) (same x.0.first s.first x.2) (h x.0 x.1))

pub joined_from : (width : ℕ) (ordered : Bool) (p : ℕ × ℕ) (lists : List (List Span)) →
    joined_spans width ordered (map (spans_from p) lists) ≡ spans_from p (joined_spans width ordered lists)
joined_from width ordered p lists =
    least_filtered test (λ s l w e. move s l (sym w.row) (sym w.part) e) (covers width ordered lists) (covers width ordered (map (spans_from p) lists))
    (covers_to width ordered test lists (λ s c e x i. let a = c.at x i in move s x a.0 a.1 e))
    (covers_of width ordered test lists (λ s c h. let x = c.hull.first in let a = c.at x.0 x.1 in move x.0 s (sym a.0) (sym a.1) (h x.0 x.1)))
  where
    test : Span → Bool
    test a = not (is_passage_before (passage_of a) p)

    move : (s t : Span) → t.row ≡ s.row → t.part ≡ s.part → test s ≡ true → test t ≡ true
    move s t row part e = ap (λ n. not (is_passage_before (n, t.part) p)) row ∙ ap (λ n. not (is_passage_before (s.row, n) p)) part ∙ e

-- ---- one turn of a join

module _ (width : ℕ) (ordered : Bool) (lists after : List (List Span)) (c : Span) where
  -- the next cover lies beyond c
  pub next_beyond : AreSome after (map (spans_beyond (passage_of c) c.first) lists) → (n : Span) → IsLeading width ordered after n → is_beyond (passage_of c) c.first n ≡ true
  next_beyond k n m =
      let x = m.begins in
      beyond_move (passage_of c) c.first x.0 n (sym x.2) (sym x.3) (omega (arith, x.4))
      (in_filter (is_beyond (passage_of c) c.first) lists x.0 (in_some after (map (spans_beyond (passage_of c) c.first) lists) k x.0 x.1))

  to_after : Keeps width ordered after (map (spans_beyond (passage_of c) c.first) lists) → (s : Span) → IsIn s (covers width ordered lists) → is_beyond (passage_of c) c.first s ≡ true → IsIn s (covers width ordered after)
  to_after k s i e = k.all s (to_beyond width ordered (passage_of c) c.first lists s i e)

  of_after : Keeps width ordered after (map (spans_beyond (passage_of c) c.first) lists) → (s : Span) → IsIn s (covers width ordered after) → IsIn s (covers width ordered lists) × (is_beyond (passage_of c) c.first s ≡ true)
  of_after k s i = of_beyond width ordered (passage_of c) c.first lists s (covers_some width ordered after (map (spans_beyond (passage_of c) c.first) lists) k.some s i)

  turn : IsLeading width ordered lists c → Keeps width ordered after (map (spans_beyond (passage_of c) c.first) lists) → (next : Option Span) → LeadsNext width ordered after next →
      Turn width (covers width ordered lists) (covers width ordered after) c next
  turn h k next m = record {
    proper = h.proper;
    short = λ s i. cover_short width s (of_cover width ordered lists s i).near;
    leads = h.leads;
    is = h.is;
    to_rest = to_after k;
    of_rest = of_after k;
    none = λ e. none next m e;
    some = λ n e. some next m n e;
  }
    where
      none : (o : Option Span) → LeadsNext width ordered after o → o ≡ None → (s : Span) → IsIn s (covers width ordered after) → ⊥
      none None m e = m
      none (Some n) m e = absurd (no_some (sym e))

      some : (o : Option Span) → LeadsNext width ordered after o → (n : Span) → o ≡ Some n →
          (is_beyond (passage_of c) c.first n ≡ true) × (nat_le n.first n.last ≡ true) × (n.last + 1 ≤ n.first + width → IsIn n (covers width ordered after))
          × ((s : Span) → IsIn s (covers width ordered after) → (is_passage_before (passage_of n) (passage_of s) ≡ true) ⊎ ((s.row ≡ n.row) × (s.part ≡ n.part) × (n.first ≤ s.first) × (n.last ≤ s.last)))
      some None m n e = absurd (no_some e)
      some (Some a) m n e =
          let l : IsLeading width ordered after n = subst (IsLeading width ordered after) (some_is e) m in
          (next_beyond k.some n l, l.proper, l.is, l.leads)

  -- what is left is c, where it is given, and what is left of the parts that were passed
  pub joined_turn : IsLeading width ordered lists c → Keeps width ordered after (map (spans_beyond (passage_of c) c.first) lists) → (next : Option Span) → LeadsNext width ordered after next →
      joined_spans width ordered lists ≡ cond (not (ends_like next c) && nat_le (c.last + 1) (c.first + width)) (c ∷ []) [] ++ joined_spans width ordered after
  joined_turn h k next m =
      sweep width (covers width ordered lists) (covers width ordered after) c next (turn h k next m)
      ∙ ap (λ spans. cond (not (ends_like next c) && nat_le (c.last + 1) (c.first + width)) (c ∷ []) [] ++ spans) (sym beyond)
    where
      beyond : least_of (covers width ordered after) ≡ filter (is_beyond (passage_of c) c.first) (least_of (covers width ordered lists))
      beyond = least_filtered (is_beyond (passage_of c) c.first) (λ s l w e. beyond_move (passage_of c) c.first s l (sym w.row) (sym w.part) w.first e)
          (covers width ordered lists) (covers width ordered after) (to_after k) (of_after k)

-- ---- what was found

after_all : (a : Span) (spans : List Span) → all_come_after a spans ≡ true → filter (comes_after a) spans ≡ spans
after_all a [] h = refl
after_all a (b ∷ spans) h =
    let r = and_cases (comes_after a b) (all_come_after a spans) h in rw r.0 (ap (λ ys. b ∷ ys) (after_all a spans r.1))

pub is_after-all : (after : Option Cover) (c : Span) (spans : List Span) → is_after after c ≡ true → all_come_after c spans ≡ true → filter (is_after after) spans ≡ spans
is_after-all None c [] e h = refl
is_after-all None c (s ∷ spans) e h = ap (λ ys. s ∷ ys) (is_after-all None c spans e (and_cases (comes_after c s) (all_come_after c spans) h).1)
is_after-all (Some a) c spans e h = after_all (cover_span a) spans (all_after_chain (cover_span a) c spans e h)

-- found, where c is given
pub found_given : (after : Option Cover) (c : Cover) (now rest : List Span) → are_ordered now ≡ true → now ≡ cover_span c ∷ rest → is_after after (cover_span c) ≡ true →
    found_left (Some c) rest ≡ filter (is_after after) now
found_given after c now rest o e f =
    let behind : all_come_after (cover_span c) rest ≡ true = rest_after (cover_span c) rest (subst (λ xs. are_ordered xs ≡ true) e o) in
    ap (λ ys. cover_span c ∷ ys) (after_all (cover_span c) rest behind ∙ sym (is_after-all after (cover_span c) rest f behind))
    ∙ sym (ap (λ b. cond b (cover_span c ∷ filter (is_after after) rest) (filter (is_after after) rest)) f)
    ∙ sym (ap (filter (is_after after)) e)

-- passed over, where it is not
pub found_passed : (after : Option Cover) (c : Span) (now rest : List Span) (b : Bool) → now ≡ cond b (c ∷ []) [] ++ rest → is_after after c && b ≡ false → filter (is_after after) now ≡ filter (is_after after) rest
found_passed after c now rest false e f = ap (filter (is_after after)) e
found_passed after c now rest true e f =
    ap (filter (is_after after)) e ∙ ap (λ t. cond t (c ∷ filter (is_after after) rest) (filter (is_after after) rest)) (sym (right (is_after after c)) ∙ f)
  where
    right : (t : Bool) → t && true ≡ t
    right true = refl
    right false = refl

-- ---- measures

beyond_number : (r p f a b g : ℕ) → p < 2 ^ 32 → f < 2 ^ 32 → (is_passage_before (r, p) (a, b) ≡ true) ⊎ ((a ≡ r) × (b ≡ p) × (f < g)) →
    passage_number (r, p) * 2 ^ 32 + f < passage_number (a, b) * 2 ^ 32 + g
beyond_number r p f a b g small low (inl k) = ⊎_elim
    (λ m. let s : r < a = grind (arith, nat_tests) in omega (arith, s, small, low))
    (λ m. let t = and_cases (eqb r a) (nat_lt p b) m in let s : r ≡ a = eqb-true r a t.0 in let u : p < b = less t.1 in omega (arith, s, u, small, low))
    (or_cases (nat_lt r a) (eqb r a && nat_lt p b) k)
  where
    less : nat_lt p b ≡ true → p < b
    less t = grind (arith, nat_tests)
beyond_number r p f a b g small low (inr k) = omega (arith, k.0, k.1, k.2, small, low)

pub cover_beyond : (c n : Span) → c.part < 2 ^ 32 → c.first < 2 ^ 32 → is_beyond (passage_of c) c.first n ≡ true →
    passage_number (c.row, c.part) * 2 ^ 32 + c.first < passage_number (n.row, n.part) * 2 ^ 32 + n.first
cover_beyond c n small low e = beyond_number c.row c.part c.first n.row n.part n.first small low (beyond_cases (passage_of c) c.first n e)
