-- A merge of merges: streams may be paired off, in any order.
use Rattle.std.proofs.Common.{◌≡◌, ℕ, ◌+◌, ◌≤◌, true, List, [], ◌∷◌, ◌++◌, map, sum_by, sym, ◌∙◌, ap, subst, arith}
use mathlib.Core.Logic.{⊎_elim}
use Rattle.std.specs.Prelude.{nat_le}
use Rattle.std.proofs.lemmas.Grind.{flat_map-append}
use Rattle.std.proofs.lemmas.List.{map-append}
use Rattle.std.proofs.lemmas.List.Sums.{sum_by-cons, sum_by_push}
use Rattle.sq_cursor.specs.declared.span.Span.{Span}
use Rattle.sq_model.specs.Lists.{joined}
use Rattle.sq_model.proofs.Members.{IsIn, in_append, in_append_left, in_append_right}
use Rattle.sq_near.specs.Least.{least_of, ordered_least}
use Rattle.sq_near.specs.Covers.{merged_spans}
use Rattle.sq_near.specs.Streams.{left_of_stream, left_of_joined, left_of_merged, stream_left, merged_left, rest_of_stream, rest_of_joined, rest_of_merged, stream_rest, merged_rest}
use Rattle.sq_near.specs.declared.stream.Merged.{Merged as Merge}
use Rattle.sq_near.specs.declared.stream.Stream.TheFolds.{fold-roll-Stream}
use Rattle.sq_near.specs.declared.stream.Stream.TheOpen.{Stream-F}
use Rattle.sq_near.specs.declared.stream.Stream.TheVariants.{Merged, rolls-Merged}
use Rattle.sq_near.proofs.BaseLemmas.{Wraps, wraps_itself, wraps_chain, base_least, base_only, proper_in}

-- some of the spans, one of which lies in each of the others, have the same least spans
least_enough : (all few : List Span) → ((s : Span) → IsIn s few → IsIn s all) →
    ((x : Span) → IsIn x all → nat_le x.first x.last ≡ true → (l : Span) × IsIn l few × Wraps x l × (nat_le l.first l.last ≡ true)) → least_of few ≡ least_of all
least_enough all few some below =
    base_only all (least_of few) (ordered_least few) (record {
      some = λ t i. some t ((base_least few).some t i);
      below = λ x i p.
          let a = below x i p in
          let b = (base_least few).below a.0 a.1 a.3 in
          (b.0, b.1, wraps_chain x a.0 b.0 a.2 b.2);
    })

module _ (a b : List Span) (rest : List (List Span)) where
  abbrev two : List Span
  two = a ++ (b ++ [])

  abbrev few : List Span
  few = joined (rest ++ least_of two ∷ [])

  few_is : few ≡ joined rest ++ (least_of two ++ [])
  few_is = flat_map-append (λ xs. xs) rest (least_of two ∷ [])

  of_two : (s : Span) → IsIn s two → IsIn s (joined (a ∷ b ∷ rest))
  of_two s i = ⊎_elim
      (λ k. in_append_left s a (b ++ joined rest) k)
      (λ k. in_append_right s a (b ++ joined rest) (⊎_elim (λ m. in_append_left s b (joined rest) m) (λ m. absurd m) (in_append s b [] k)))
      (in_append s a (b ++ []) i)

  of_few : (s : Span) → IsIn s few → IsIn s (joined (a ∷ b ∷ rest))
  of_few s i = ⊎_elim
      (λ k. in_append_right s a (b ++ joined rest) (in_append_right s b (joined rest) k))
      (λ k. ⊎_elim (λ m. of_two s ((base_least two).some s m)) (λ m. absurd m) (in_append s (least_of two) [] k))
      (in_append s (joined rest) (least_of two ++ []) (subst (IsIn s) few_is i))

  below_two : (x : Span) → IsIn x two → nat_le x.first x.last ≡ true → (l : Span) × IsIn l few × Wraps x l × (nat_le l.first l.last ≡ true)
  below_two x i p =
      let r = (base_least two).below x i p in
      let here = in_append_right r.0 (joined rest) (least_of two ++ []) (in_append_left r.0 (least_of two) [] r.1) in
      (r.0, subst (IsIn r.0) (sym few_is) here, r.2, proper_in r.0 (least_of two) r.1 (ordered_least two))

  below_few : (x : Span) → IsIn x (joined (a ∷ b ∷ rest)) → nat_le x.first x.last ≡ true → (l : Span) × IsIn l few × Wraps x l × (nat_le l.first l.last ≡ true)
  below_few x i p = ⊎_elim
      (λ k. below_two x (in_append_left x a (b ++ []) k) p)
      (λ k. ⊎_elim
      (λ m. below_two x (in_append_right x a (b ++ []) (in_append_left x b [] m)) p)
      (λ m. (x, subst (IsIn x) (sym few_is) (in_append_left x (joined rest) (least_of two ++ []) m), wraps_itself x, p))
      (in_append x b (joined rest) k))
      (in_append x a (b ++ joined rest) i)

-- the merge of the first two may stand last in their place
pub pair_off : (a b : List Span) (rest : List (List Span)) → merged_spans (rest ++ merged_spans (a ∷ b ∷ []) ∷ []) ≡ merged_spans (a ∷ b ∷ rest)
pair_off a b rest = least_enough (joined (a ∷ b ∷ rest)) (few a b rest) (of_few a b rest) (below_few a b rest)

-- ---- a queue of streams

pub paired_left : {X : Type 0} (left : X → List Span) (before after now : List X) (a b both : X) → before ≡ a ∷ b ∷ after → now ≡ after ++ both ∷ [] →
    left both ≡ merged_spans (left a ∷ left b ∷ []) → merged_spans (map left now) ≡ merged_spans (map left before)
paired_left left before after now a b both e f g =
    ap (λ xs. merged_spans (map left xs)) f ∙ ap merged_spans (map-append left after (both ∷ []))
    ∙ ap (λ l. merged_spans (map left after ++ l ∷ [])) g ∙ pair_off (left a) (left b) (map left after)
    ∙ ap (λ xs. merged_spans (map left xs)) (sym e)

pub paired_cost : {X : Type 0} (rest : X → ℕ) (before after now parts : List X) (a b both : X) (from to k : ℕ) → before ≡ a ∷ b ∷ after → now ≡ after ++ both ∷ [] → parts ≡ a ∷ b ∷ [] →
    rest both ≡ k → to + k ≤ from + sum_by rest parts → to + sum_by rest now ≤ from + sum_by rest before
paired_cost rest before after now parts a b both from to k e f g h l =
    omega (arith, ap (sum_by rest) e, ap (sum_by rest) f, ap (sum_by rest) g, h, l, sum_by-cons rest a (b ∷ after), sum_by-cons rest b after, sum_by-cons rest a (b ∷ []), sum_by-cons rest b [], sum_by_push rest after both)

-- a merge as a stream

pub stream_left-merged : {C : Type 0} (left : C → List Span) (m : Merge C) → stream_left left (Merged m) ≡ merged_left left m
stream_left-merged {C} left m =
    ap (stream_left left) (sym (rolls-Merged m)) ∙ fold-roll-Stream C (List Span) (List Span) (List Span) (left_of_stream left) left_of_joined left_of_merged (Stream-F.Merged m)

pub stream_rest-merged : {C : Type 0} (rest : C → ℕ) (m : Merge C) → stream_rest rest (Merged m) ≡ merged_rest rest m
stream_rest-merged {C} rest m = ap (stream_rest rest) (sym (rolls-Merged m)) ∙ fold-roll-Stream C ℕ ℕ ℕ (rest_of_stream rest) rest_of_joined rest_of_merged (Stream-F.Merged m)
