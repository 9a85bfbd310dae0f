-- The loops of align, find and merge, turn by turn.
use Rattle.std.proofs.Common.{◌≡◌, inl, ℕ, ◌+◌, ◌^◌, ◌<◌, Bool, true, false, not, ◌&&◌, cond, List, [], ◌∷◌, ◌++◌, map, filter, Option, Some, None, refl, sym, ◌∙◌, ap, subst, arith, true≢false}
use Rattle.std.specs.Prelude.{eqb, nat_le, option_map}
use Rattle.std.proofs.lemmas.Bool.{eqb-true}
use Rattle.sq_cursor.specs.declared.span.Span.{Span}
use Rattle.sq_cursor.specs.Spans.{passage_of, is_passage_before, comes_after, are_ordered, spans_from}
use Rattle.sq_model.specs.Triples.{keeps_order}
use Rattle.sq_near.specs.Covers.{match_of, covers, joined_spans}
use Rattle.sq_near.specs.Least.{least_of, ordered_least}
use Rattle.sq_near.specs.declared.cover.Cover.{Cover}
use Rattle.sq_near.specs.Streams.{cover_span, spans_beyond, found_left}
use Rattle.sq_near.specs.Moves.{ends_like, furthest_from, is_here, hull, hull_from, settled, Keeps, IsLeading, LeadsNext, passage_number, passages_ahead, places_ahead, is_after, is_given}
use Rattle.sq_near.specs.Laws.{AllOrdered}
use Rattle.sq_near.proofs.JoinLemmas.{not_true, no_some, and_cases, head_first, not_earlier_passage, not_before_chain}
use Rattle.sq_near.proofs.HeadLemmas.{AllFrom, HeadsAt, heads, heads_here, settled_keeps, settled_from, settled_order, leading, moves_on}
use Rattle.sq_near.proofs.TurnLemmas.{cover_beyond, next_beyond, joined_turn, found_given, found_passed}
use Rattle.sq_near.proofs.PassLemmas.{filter_all}
use Rattle.sq_model.proofs.Members.{IsIn}

pub all_ordered : {X : Type 0} (left : X → List Span) → ((x : X) → are_ordered (left x) ≡ true) → (items : List X) → AllOrdered (map left items)
all_ordered left h [] = tt
all_ordered left h (x ∷ items) = (h x, all_ordered left h items)

-- ---- align

pub settle_keeps : (width : ℕ) (ordered : Bool) (p : ℕ × ℕ) (lists new : List (List Span)) → AllOrdered lists → furthest_from None lists ≡ Some p → new ≡ settled ordered p lists → Keeps width ordered new lists
settle_keeps width ordered p lists new o e n = subst (λ k. Keeps width ordered k lists) (sym n) (settled_keeps width ordered p lists o e)

hull_has : (p : ℕ × ℕ) (lists : List (List Span)) (a : Span) → HeadsAt p lists → hull_from (Some a) lists ≡ None → ⊥
hull_has p [] a h e = no_some (sym e)
hull_has p ([] ∷ lists) a h e = h
hull_has p ((s ∷ spans) ∷ lists) a h e = hull_has p lists (hull a s) h.1 e

hull_stands : (p : ℕ × ℕ) (lists : List (List Span)) → HeadsAt p lists → furthest_from None lists ≡ Some p → hull_from None lists ≡ None → ⊥
hull_stands p [] h f e = no_some f
hull_stands p ([] ∷ lists) h f e = h
hull_stands p ((s ∷ spans) ∷ lists) h f e = hull_has p lists s h.1 e

here_is : (o : Option (ℕ × ℕ)) (p : ℕ × ℕ) → is_here o p ≡ true → o ≡ Some p
here_is None p e = absurd (true≢false (sym e))
here_is (Some q) p e =
    let r = and_cases (eqb q.0 p.0) (eqb q.1 p.1) e in
    ap (λ n. Some (n, q.1)) (eqb-true q.0 p.0 r.0) ∙ ap (λ n. Some (p.0, n)) (eqb-true q.1 p.1 r.1)

pub settle_leads : (width : ℕ) (ordered : Bool) (p : ℕ × ℕ) (lists new : List (List Span)) (next : Option (ℕ × ℕ)) (cover : Option Cover) → new ≡ settled ordered p lists → AllOrdered new →
    next ≡ furthest_from None new → is_here next p ≡ true → option_map cover_span cover ≡ hull_from None new → LeadsNext width ordered new (option_map cover_span cover)
settle_leads width ordered p lists new next cover n o f k e =
    let stands : furthest_from None new ≡ Some p = sym f ∙ here_is next p k in
    let from : AllFrom p new = subst (AllFrom p) (sym n) (settled_from ordered p lists) in
    at cover e stands (heads_here None p new from stands)
  where
    at : (cover : Option Cover) → option_map cover_span cover ≡ hull_from None new → furthest_from None new ≡ Some p → HeadsAt p new → LeadsNext width ordered new (option_map cover_span cover)
    at None e stands h = absurd (hull_stands p new h stands (sym e))
    at (Some c) e stands h =
        leading width ordered p (cover_span c) new o h
        (subst (λ k. HeadsAt p k → keeps_order ordered (map (match_of 0) (heads k)) ≡ true) (sym n) (settled_order ordered p lists) h) (sym e) c.rises

pub settle_ahead : (ordered : Bool) (p : ℕ × ℕ) (lists new : List (List Span)) (next : Option (ℕ × ℕ)) → new ≡ settled ordered p lists → next ≡ furthest_from None new → is_here next p ≡ false →
    p.0 < 2 ^ 32 → p.1 < 2 ^ 32 → passages_ahead next < passages_ahead (Some p)
settle_ahead ordered p lists new None n f h row part = omega (arith, row, part)
settle_ahead ordered p lists new (Some q) n f h row part =
    let from : AllFrom p new = subst (AllFrom p) (sym n) (settled_from ordered p lists) in
    let more : passage_number p < passage_number q = moves_on p q new from (sym f) h part in
    omega (arith, row, part, more)

-- ---- find

nothing_in : (spans : List Span) → ((s : Span) → IsIn s spans → ⊥) → spans ≡ []
nothing_in [] h = refl
nothing_in (s ∷ spans) h = absurd (h s (inl refl))

pub none_joined : (width : ℕ) (ordered : Bool) (lists : List (List Span)) (next : Option Cover) → LeadsNext width ordered lists (option_map cover_span next) → next ≡ None → joined_spans width ordered lists ≡ []
none_joined width ordered lists None h e = ap least_of (nothing_in (covers width ordered lists) h)
none_joined width ordered lists (Some c) h e = absurd (no_some (sym e))

module _ (width : ℕ) (ordered : Bool) (lists passed after : List (List Span)) (now : Option Cover) (c : Cover) (next : Option Cover)
    (is : now ≡ Some c) (leads : LeadsNext width ordered lists (option_map cover_span now)) (passes : passed ≡ map (spans_beyond (c.row, c.part) c.first) lists)
    (keeps : Keeps width ordered after passed) (more : LeadsNext width ordered after (option_map cover_span next)) where
  lead : IsLeading width ordered lists (cover_span c)
  lead = subst (λ o. LeadsNext width ordered lists (option_map cover_span o)) is leads

  kept : Keeps width ordered after (map (spans_beyond (c.row, c.part) c.first) lists)
  kept = subst (λ k. Keeps width ordered after k) passes keeps

  turn_is : joined_spans width ordered lists
      ≡ cond (not (ends_like (option_map cover_span next) (cover_span c)) && nat_le (c.last + 1) (c.first + width)) (cover_span c ∷ []) [] ++ joined_spans width ordered after
  turn_is = joined_turn width ordered lists after (cover_span c) lead kept (option_map cover_span next) more

  pub find_gives : (bound : Option Cover) → is_given width bound (option_map cover_span next) (cover_span c) ≡ true →
      found_left (Some c) (joined_spans width ordered after) ≡ filter (is_after bound) (joined_spans width ordered lists)
  find_gives bound e =
      let r = and_cases (is_after bound (cover_span c)) (not (ends_like (option_map cover_span next) (cover_span c)) && nat_le (c.last + 1) (c.first + width)) e in
      found_given bound c (joined_spans width ordered lists) (joined_spans width ordered after) (ordered_least (covers width ordered lists))
      (turn_is ∙ ap (λ b. cond b (cover_span c ∷ []) [] ++ joined_spans width ordered after) r.1) r.0

  pub find_passes : (bound : Option Cover) → is_given width bound (option_map cover_span next) (cover_span c) ≡ false →
      filter (is_after bound) (joined_spans width ordered after) ≡ filter (is_after bound) (joined_spans width ordered lists)
  find_passes bound e =
      sym (found_passed bound (cover_span c) (joined_spans width ordered lists) (joined_spans width ordered after)
      (not (ends_like (option_map cover_span next) (cover_span c)) && nat_le (c.last + 1) (c.first + width)) turn_is e)

  pub find_ahead : c.row < 2 ^ 32 → c.part < 2 ^ 32 → c.first < 2 ^ 32 → places_ahead next < places_ahead now
  find_ahead row part first = subst (λ o. places_ahead next < places_ahead o) (sym is) (at next more)
    where
      at : (next : Option Cover) → LeadsNext width ordered after (option_map cover_span next) → places_ahead next < places_ahead (Some c)
      at None m = omega (arith, row, part, first)
      at (Some n) m =
          let less = cover_beyond (cover_span c) (cover_span n) part first (next_beyond width ordered lists after (cover_span c) kept.some (cover_span n) m) in
          omega (arith, row, part, first, less)

-- ---- seek

pub from_here : (p : ℕ × ℕ) (c : Cover) (spans : List Span) → are_ordered (found_left (Some c) spans) ≡ true → is_passage_before (c.row, c.part) p ≡ false →
    spans_from p (found_left (Some c) spans) ≡ found_left (Some c) spans
from_here p c spans o e =
    filter_all (λ a. not (is_passage_before (passage_of a) p)) (found_left (Some c) spans) (λ x i.
    not_true (is_passage_before (passage_of x) p)
    (not_before_chain x.row x.part c.row c.part p.0 p.1 (not_earlier_passage (cover_span c) x (head_first (cover_span c) (filter (comes_after (cover_span c)) spans) o x i)) e))

filters : (t u : Span → Bool) (xs : List Span) → filter t (filter u xs) ≡ filter u (filter t xs)
filters t u [] = refl
filters t u (x ∷ xs) = at (t x) refl (u x) refl (filters t u xs)
  where
    at : (a : Bool) → t x ≡ a → (b : Bool) → u x ≡ b → filter t (filter u xs) ≡ filter u (filter t xs) →
        filter t (cond b (x ∷ filter u xs) (filter u xs)) ≡ filter u (cond a (x ∷ filter t xs) (filter t xs))
    at true e true f more = rw (e, f) (ap (λ ys. x ∷ ys) more)
    at true e false f more = rw f more
    at false e true f more = rw e more
    at false e false f more = more

pub seek_found : (p : ℕ × ℕ) (c : Cover) (spans : List Span) → is_passage_before (c.row, c.part) p ≡ true → filter (is_after (Some c)) (spans_from p spans) ≡ spans_from p (found_left (Some c) spans)
seek_found p c spans e =
    filters (comes_after (cover_span c)) (λ a. not (is_passage_before (passage_of a) p)) spans
    ∙ sym (ap (λ b. cond (not b) (cover_span c ∷ spans_from p (filter (comes_after (cover_span c)) spans)) (spans_from p (filter (comes_after (cover_span c)) spans))) e)

pub after_none : (spans : List Span) → filter (is_after None) spans ≡ spans
after_none spans = filter_all (is_after None) spans (λ x i. refl)
