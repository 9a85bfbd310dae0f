-- One turn of a merge: the first span that ends first is a least one.
use Rattle.std.proofs.Common.{◌≡◌, ◌⊎◌, inl, inr, ℕ, ◌^◌, ◌<◌, ◌≤◌, Bool, true, false, not, ◌&&◌, ◌||◌, cond, List, [], ◌∷◌, map, filter, Option, Some, None, refl, sym, ◌∙◌, ap, subst, arith, true≢false}
use mathlib.Core.Logic.{⊎_elim}
use Rattle.std.specs.Prelude.{eqb, nat_lt, nat_le, option_map}
use Rattle.std.proofs.lemmas.Bool.{eq-eqb, eqb-true, cases_order}
use Rattle.std.proofs.lemmas.Bool.Decides.{nat_tests}
use Rattle.sq_cursor.specs.declared.span.Span.{Span}
use Rattle.sq_cursor.specs.Spans.{passage_of, is_passage_before, comes_after, all_come_after, are_ordered, spans_from}
use Rattle.sq_model.specs.Lists.{joined}
use Rattle.sq_near.specs.Least.{least_of, ordered_least}
use Rattle.sq_near.specs.Covers.{merged_spans}
use Rattle.sq_near.specs.declared.cover.Cover.{Cover}
use Rattle.sq_near.specs.Streams.{cover_span, is_beyond, spans_beyond, ordered_filter}
use Rattle.sq_near.specs.Moves.{is_sooner, sooner, soonest_from, IsInOne, places_ahead}
use Rattle.sq_model.proofs.Members.{IsIn, to_filter, of_filter, in_append, in_append_left, in_append_right}
use Rattle.sq_near.proofs.BaseLemmas.{Wraps, wraps_chain, base_least, base_only, rest_after, after_ends}
use Rattle.sq_near.specs.Laws.{AllOrdered}
use Rattle.sq_near.proofs.JoinLemmas.{least_filtered, in_filter, in_some, some_filter, and_cases, or_cases, some_is, no_some, after_in}
use Rattle.sq_near.proofs.TurnLemmas.{beyond_cases, beyond_later, beyond_same, beyond_move, cover_beyond}

-- ---- members

to_joined : (s : Span) (lists : List (List Span)) → IsInOne s lists → IsIn s (joined lists)
to_joined s [] h = absurd h
to_joined s (l ∷ lists) h = ⊎_elim (λ i. in_append_left s l (joined lists) i) (λ i. in_append_right s l (joined lists) (to_joined s lists i)) h

of_joined : (s : Span) (lists : List (List Span)) → IsIn s (joined lists) → IsInOne s lists
of_joined s [] h = absurd h
of_joined s (l ∷ lists) h = ⊎_elim (λ i. inl i) (λ i. inr (of_joined s lists i)) (in_append s l (joined lists) h)

one_filter : (p : Span → Bool) (s : Span) (lists : List (List Span)) → IsInOne s lists → p s ≡ true → IsInOne s (map (filter p) lists)
one_filter p s [] h e = absurd h
one_filter p s (l ∷ lists) h e = ⊎_elim (λ i. inl (to_filter p s l i e)) (λ i. inr (one_filter p s lists i e)) h

merged_filtered : (p : Span → Bool) (lists : List (List Span)) → ((s l : Span) → Wraps s l → p s ≡ true → p l ≡ true) → merged_spans (map (filter p) lists) ≡ filter p (merged_spans lists)
merged_filtered p lists inward =
    least_filtered p inward (joined lists) (joined (map (filter p) lists))
    (λ s i e. to_joined s (map (filter p) lists) (one_filter p s lists (of_joined s lists i) e))
    (λ s i. let k = of_joined s (map (filter p) lists) i in (to_joined s lists (in_some (map (filter p) lists) lists (some_filter p lists) s k), in_filter p lists s k))

pub merged_from : (p : ℕ × ℕ) (lists : List (List Span)) → merged_spans (map (spans_from p) lists) ≡ spans_from p (merged_spans lists)
merged_from p lists = merged_filtered (λ a. not (is_passage_before (passage_of a) p)) lists
    (λ s l w e. ap (λ n. not (is_passage_before (n, l.part) p)) (sym w.row) ∙ ap (λ n. not (is_passage_before (s.row, n) p)) (sym w.part) ∙ e)

-- ---- the soonest

-- s lies in a later passage than c, or ends later there, or ends with it and begins no later
abbrev pub NotSooner : Span → Span → Type 0
NotSooner c s = (is_passage_before (passage_of c) (passage_of s) ≡ true)
    ⊎ ((s.row ≡ c.row) × (s.part ≡ c.part) × ((c.last < s.last) ⊎ ((c.last ≡ s.last) × (s.first ≤ c.first))))

or_false : (a b : Bool) → a || b ≡ false → (a ≡ false) × (b ≡ false)
or_false true b e = absurd (true≢false e)
or_false false b e = (refl, e)

and_rest : (a b : Bool) → a ≡ true → a && b ≡ false → b ≡ false
and_rest true b e f = f
and_rest false b e f = absurd (true≢false (sym e))

le_of : (a b : ℕ) → nat_lt a b ≡ false → b ≤ a
le_of a b e = grind (arith, nat_tests)

lt_of : (a b : ℕ) → nat_lt a b ≡ true → a < b
lt_of a b e = grind (arith, nat_tests)

test_lt : (a b : ℕ) → a < b → nat_lt a b ≡ true
test_lt a b e = grind (arith, nat_tests)

before_row : (a b : Span) → a.row < b.row → is_passage_before (passage_of a) (passage_of b) ≡ true
before_row a b l = let t = test_lt a.row b.row l in rw t refl

before_part : (a b : Span) → a.row ≡ b.row → a.part < b.part → is_passage_before (passage_of a) (passage_of b) ≡ true
before_part a b e l = at (nat_lt a.row b.row) (eqb a.row b.row) (nat_lt a.part b.part) (eq-eqb a.row b.row e) (test_lt a.part b.part l)
  where
    at : (x y z : Bool) → y ≡ true → z ≡ true → x || (y && z) ≡ true
    at true y z e f = refl
    at false y z e f = rw (e, f) refl

not_sooner : (c s : Span) → is_sooner s c ≡ false → NotSooner c s
not_sooner c s e =
    let r = or_false (nat_lt s.row c.row) _ e in
    ⊎_elim
    (λ row.
    let q = or_false (nat_lt s.part c.part) _ (and_rest (eqb s.row c.row) _ (eq-eqb s.row c.row (sym row)) r.1) in
    ⊎_elim
    (λ part.
    let t = or_false (nat_lt s.last c.last) _ (and_rest (eqb s.part c.part) _ (eq-eqb s.part c.part (sym part)) q.1) in
    inr (
      sym row,
      sym part,
      ⊎_elim
          (λ last. inr (last, le_of c.first s.first (and_rest (eqb s.last c.last) _ (eq-eqb s.last c.last (sym last)) t.1)))
          (λ m. ⊎_elim (λ l. inl l) (λ l. absurd (low s.last c.last l (le_of s.last c.last t.0))) m) (cases_order c.last s.last),
    ))
    (λ m. ⊎_elim (λ l. inl (before_part c s row l)) (λ l. absurd (low s.part c.part l (le_of s.part c.part q.0))) m) (cases_order c.part s.part))
    (λ m. ⊎_elim (λ l. inl (before_row c s l)) (λ l. absurd (low s.row c.row l (le_of s.row c.row r.0))) m) (cases_order c.row s.row)
  where
    low : (a b : ℕ) → a < b → b ≤ a → ⊥
    low a b l m = omega (arith, l, m)

sooner_not : (c s : Span) → is_sooner c s ≡ true → NotSooner c s
sooner_not c s e = ⊎_elim
    (λ l. inl (before_row c s (lt_of c.row s.row l)))
    (λ k.
    let r = and_cases (eqb c.row s.row) _ k in
    let row = eqb-true c.row s.row r.0 in
    ⊎_elim
    (λ l. inl (before_part c s row (lt_of c.part s.part l)))
    (λ m.
    let q = and_cases (eqb c.part s.part) _ m in
    inr (
      sym row,
      sym (eqb-true c.part s.part q.0),
      ⊎_elim
          (λ l. inl (lt_of c.last s.last l))
          (λ n. let t = and_cases (eqb c.last s.last) _ n in let u = lt_of s.first c.first t.1 in inr (eqb-true c.last s.last t.0, omega (arith, u)))
          (or_cases (nat_lt c.last s.last) _ q.1),
    )) (or_cases (nat_lt c.part s.part) _ r.1)) (or_cases (nat_lt c.row s.row) _ e)

before_chain : (a b c d e f : ℕ) → is_passage_before (a, b) (c, d) ≡ true → is_passage_before (c, d) (e, f) ≡ true → is_passage_before (a, b) (e, f) ≡ true
before_chain a b c d e f g h = grind (arith, nat_tests)

not_sooner_chain : (a b c : Span) → NotSooner a b → NotSooner b c → NotSooner a c
not_sooner_chain a b c (inl g) (inl h) = inl (before_chain a.row a.part b.row b.part c.row c.part g h)
not_sooner_chain a b c (inl g) (inr h) = inl (ap (λ n. is_passage_before (passage_of a) (n, c.part)) h.0 ∙ ap (λ n. is_passage_before (passage_of a) (b.row, n)) h.1 ∙ g)
not_sooner_chain a b c (inr g) (inl h) = inl (ap (λ n. is_passage_before (n, a.part) (passage_of c)) (sym g.0) ∙ ap (λ n. is_passage_before (b.row, n) (passage_of c)) (sym g.1) ∙ h)
not_sooner_chain a b c (inr g) (inr h) = inr (h.0 ∙ g.0, h.1 ∙ g.1, ends g.2 h.2)
  where
    ends : (a.last < b.last) ⊎ ((a.last ≡ b.last) × (b.first ≤ a.first)) → (b.last < c.last) ⊎ ((b.last ≡ c.last) × (c.first ≤ b.first)) → (a.last < c.last) ⊎ ((a.last ≡ c.last) × (c.first ≤ a.first))
    ends (inl l) (inl m) = inl (omega (arith, l, m))
    ends (inl l) (inr m) = inl (omega (arith, l, m.0))
    ends (inr l) (inl m) = inl (omega (arith, l.0, m))
    ends (inr l) (inr m) = inr (l.0 ∙ m.0, omega (arith, l.1, m.1))

not_sooner_itself : (c : Span) → NotSooner c c
not_sooner_itself c = inr (refl, refl, inr (refl, omega arith))

after_not_sooner : (a b : Span) → comes_after a b ≡ true → NotSooner a b
after_not_sooner a b e = ⊎_elim (λ k. inl k) (λ k.
    let r = and_cases (eqb a.row b.row) _ k in
    let q = and_cases (eqb a.part b.part) _ r.1 in
    let t = and_cases (nat_lt a.first b.first) (nat_lt a.last b.last) q.1 in
    inr (sym (eqb-true a.row b.row r.0), sym (eqb-true a.part b.part q.0), inl (lt_of a.last b.last t.1)))
    (or_cases (is_passage_before (passage_of a) (passage_of b)) _ e)

sooner_first : (a h : Span) → NotSooner (sooner a h) a × NotSooner (sooner a h) h × ((sooner a h ≡ a) ⊎ (sooner a h ≡ h))
sooner_first a h = at (is_sooner h a) refl
  where
    at : (b : Bool) → is_sooner h a ≡ b → NotSooner (cond b h a) a × NotSooner (cond b h a) h × ((cond b h a ≡ a) ⊎ (cond b h a ≡ h))
    at true e = (sooner_not h a e, not_sooner_itself h, inr refl)
    at false e = (not_sooner_itself a, not_sooner a h e, inl refl)

pub record IsSoonest (o : Option Span) (lists : List (List Span)) (c : Span) : Type 0 where
  pub given : (a : Span) → o ≡ Some a → NotSooner c a
  pub all : (x : Span) → IsInOne x lists → NotSooner c x
  pub is : (o ≡ Some c) ⊎ IsInOne c lists

of_list : (c h : Span) (spans : List Span) → are_ordered (h ∷ spans) ≡ true → NotSooner c h → (x : Span) → IsIn x (h ∷ spans) → NotSooner c x
of_list c h spans o n x i = ⊎_elim
    (λ e. subst (NotSooner c) (sym e) n)
    (λ k. not_sooner_chain c h x n (after_not_sooner h x (after_in h spans (rest_after h spans o) x k))) i

soonest : (o : Option Span) (lists : List (List Span)) (c : Span) → AllOrdered lists → soonest_from o lists ≡ Some c → IsSoonest o lists c
soonest o [] c h e = record {
  given = λ a f. subst (λ b. NotSooner c b) (some_is (sym e ∙ f)) (not_sooner_itself c);
  all = λ x i. absurd i;
  is = inl e;
}
soonest o ([] ∷ lists) c h e =
    let r = soonest o lists c h.1 e in
    record { given = r.given; all = λ x i. ⊎_elim (λ k. absurd k) (λ k. r.all x k) i; is = ⊎_elim (λ k. inl k) (λ k. inr (inr k)) r.is }
soonest None ((s ∷ spans) ∷ lists) c h e =
    let r = soonest (Some s) lists c h.1 e in
    record {
      given = λ a f. absurd (no_some f);
      all = λ x i. ⊎_elim (λ k. of_list c s spans h.0 (r.given s refl) x k) (λ k. r.all x k) i;
      is = ⊎_elim (λ k. inr (inl (inl (sym (some_is k))))) (λ k. inr (inr k)) r.is;
    }
soonest (Some a) ((s ∷ spans) ∷ lists) c h e =
    let r = soonest (Some (sooner a s)) lists c h.1 e in
    let f = sooner_first a s in
    let low = r.given (sooner a s) refl in
    record {
      given = λ b g. subst (NotSooner c) (some_is g) (not_sooner_chain c (sooner a s) a low f.0);
      all = λ x i. ⊎_elim (λ k. of_list c s spans h.0 (not_sooner_chain c (sooner a s) s low f.1) x k) (λ k. r.all x k) i;
      is = ⊎_elim (λ k. ⊎_elim (λ q. inl (ap Some (sym q) ∙ k)) (λ q. inr (inl (inl (sym (some_is k) ∙ q)))) f.2) (λ k. inr (inr k)) r.is;
    }

-- ---- one turn

merged_turn : (c : Span) (lists : List (List Span)) → nat_le c.first c.last ≡ true → IsSoonest None lists c →
    merged_spans lists ≡ c ∷ merged_spans (map (spans_beyond (passage_of c) c.first) lists)
merged_turn c lists proper k =
    sym (base_only all (c ∷ filter beyond (least_of all)) ordered (record { some = some; below = below }))
    ∙ ap (λ ys. c ∷ ys) (sym (merged_filtered beyond lists inward))
  where
    beyond : Span → Bool
    beyond = is_beyond (passage_of c) c.first

    all : List Span
    all = joined lists

    inward : (s l : Span) → Wraps s l → beyond s ≡ true → beyond l ≡ true
    inward s l w e = beyond_move (passage_of c) c.first s l (sym w.row) (sym w.part) w.first e

    here : IsIn c all
    here = to_joined c lists (⊎_elim (λ e. absurd (no_some e)) (λ i. i) k.is)

    some : (t : Span) → IsIn t (c ∷ filter beyond (least_of all)) → IsIn t all
    some t (inl e) = subst (λ s. IsIn s all) (sym e) here
    some t (inr i) = (base_least all).some t (of_filter beyond t (least_of all) i).0

    below : (x : Span) → IsIn x all → nat_le x.first x.last ≡ true → (l : Span) × IsIn l (c ∷ filter beyond (least_of all)) × Wraps x l
    below x i p =
        let r = (base_least all).below x i p in
        at r.0 r.1 r.2 (k.all r.0 (of_joined r.0 lists ((base_least all).some r.0 r.1)))
      where
        at : (l : Span) → IsIn l (least_of all) → Wraps x l → NotSooner c l → (l : Span) × IsIn l (c ∷ filter beyond (least_of all)) × Wraps x l
        at l i w (inl b) = (l, inr (to_filter beyond l (least_of all) i (beyond_later (passage_of c) c.first l b)), w)
        at l i w (inr s) = ⊎_elim
            (λ e. (c, inl refl, wraps_chain x l c w (record { row = s.0; part = s.1; first = omega (arith, e); last = last s.2 })))
            (λ m. ⊎_elim
            (λ e. (c, inl refl, wraps_chain x l c w (record { row = s.0; part = s.1; first = omega (arith, e); last = last s.2 })))
            (λ e. (l, inr (to_filter beyond l (least_of all) i (beyond_same (passage_of c) c.first l s.0 s.1 e)), w)) m) (cases_order l.first c.first)
          where
            last : (c.last < l.last) ⊎ ((c.last ≡ l.last) × (l.first ≤ c.first)) → c.last ≤ l.last
            last (inl e) = omega (arith, e)
            last (inr e) = omega (arith, e.0)

    after : (t : Span) → IsIn t (filter beyond (least_of all)) → comes_after c t ≡ true
    after t i =
        let r = of_filter beyond t (least_of all) i in
        at (beyond_cases (passage_of c) c.first t r.1) (k.all t (of_joined t lists ((base_least all).some t r.0)))
      where
        or_left : (a b : Bool) → a ≡ true → a || b ≡ true
        or_left a b e = rw e refl

        at : (is_passage_before (passage_of c) (passage_of t) ≡ true) ⊎ ((t.row ≡ c.row) × (t.part ≡ c.part) × (c.first < t.first)) → NotSooner c t → comes_after c t ≡ true
        at (inl b) n = or_left (is_passage_before (passage_of c) (passage_of t)) _ b
        at (inr s) (inl b) = or_left (is_passage_before (passage_of c) (passage_of t)) _ b
        at (inr s) (inr (r, p, inl l)) = after_ends c t (sym s.0) (sym s.1) s.2 l
        at (inr s) (inr (r, p, inr l)) = absurd (omega (arith, s.2, l.1))

    all_after : (spans : List Span) → ((t : Span) → IsIn t spans → comes_after c t ≡ true) → all_come_after c spans ≡ true
    all_after [] h = refl
    all_after (s ∷ spans) h = rw (h s (inl refl)) (all_after spans (λ t i. h t (inr i)))

    ordered : are_ordered (c ∷ filter beyond (least_of all)) ≡ true
    ordered = rw (proper, all_after (filter beyond (least_of all)) after) (ordered_filter beyond (least_of all) (ordered_least all))

pub merge_turn : (c : Cover) (lists passed : List (List Span)) → AllOrdered lists → soonest_from None lists ≡ Some (cover_span c) → passed ≡ map (spans_beyond (c.row, c.part) c.first) lists →
    merged_spans lists ≡ cover_span c ∷ merged_spans passed
merge_turn c lists passed o e f =
    merged_turn (cover_span c) lists c.rises (soonest None lists (cover_span c) o e) ∙ ap (λ ls. cover_span c ∷ merged_spans ls) (sym f)

some_soonest : (lists : List (List Span)) (a : Span) → soonest_from (Some a) lists ≡ None → ⊥
some_soonest [] a e = no_some (sym e)
some_soonest ([] ∷ lists) a e = some_soonest lists a e
some_soonest ((s ∷ spans) ∷ lists) a e = some_soonest lists (sooner a s) e

pub none_merged : (lists : List (List Span)) → soonest_from None lists ≡ None → merged_spans lists ≡ []
none_merged lists e = ap least_of (nothing lists e)
  where
    nothing : (lists : List (List Span)) → soonest_from None lists ≡ None → joined lists ≡ []
    nothing [] e = refl
    nothing ([] ∷ lists) e = nothing lists e
    nothing ((s ∷ spans) ∷ lists) e = absurd (some_soonest lists s e)

pub and_with : {b : Bool} → b ≡ false → b && true ≡ false
and_with {b} e = ap (λ t. t && true) e

-- the next is one of the passed parts' first spans
soonest_in : (o : Option Span) (lists : List (List Span)) (c : Span) → soonest_from o lists ≡ Some c → (o ≡ Some c) ⊎ IsInOne c lists
soonest_in o [] c e = inl e
soonest_in o ([] ∷ lists) c e = ⊎_elim (λ k. inl k) (λ k. inr (inr k)) (soonest_in o lists c e)
soonest_in None ((s ∷ spans) ∷ lists) c e = ⊎_elim (λ k. inr (inl (inl (sym (some_is k))))) (λ k. inr (inr k)) (soonest_in (Some s) lists c e)
soonest_in (Some a) ((s ∷ spans) ∷ lists) c e = ⊎_elim
    (λ k. ⊎_elim (λ q. inl (ap Some (sym q) ∙ k)) (λ q. inr (inl (inl (sym (some_is k) ∙ q)))) (sooner_first a s).2)
    (λ k. inr (inr k)) (soonest_in (Some (sooner a s)) lists c e)

pub merge_ahead : (c : Cover) (lists passed : List (List Span)) (now next : Option Cover) → now ≡ Some c → passed ≡ map (spans_beyond (c.row, c.part) c.first) lists →
    option_map cover_span next ≡ soonest_from None passed → c.row < 2 ^ 32 → c.part < 2 ^ 32 → c.first < 2 ^ 32 → places_ahead next < places_ahead now
merge_ahead c lists passed now next is passes e row part first = subst (λ o. places_ahead next < places_ahead o) (sym is) (at next e)
  where
    at : (next : Option Cover) → option_map cover_span next ≡ soonest_from None passed → places_ahead next < places_ahead (Some c)
    at None e = omega (arith, row, part, first)
    at (Some n) e =
        let k : IsInOne (cover_span n) passed = ⊎_elim (λ q. absurd (no_some q)) (λ q. q) (soonest_in None passed (cover_span n) (sym e)) in
        let b = in_filter (is_beyond (c.row, c.part) c.first) lists (cover_span n) (subst (IsInOne (cover_span n)) passes k) in
        let less = cover_beyond (cover_span c) (cover_span n) part first b in
        omega (arith, row, part, first, less)
