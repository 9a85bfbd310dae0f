-- The streams of unions and of nears from those of their parts.
use Rattle.std.proofs.Common.{◌≡◌, ◌≢◌, ℕ, ◌+◌, Bool, true, false, List, [], ◌∷◌, ◌++◌, map, length, cond, refl, sym, ap, subst, ◌∙◌, arith, inl, inr}
use Rattle.std.specs.Prelude.{nat_eq, sum, filter}
use Rattle.std.proofs.lemmas.Bool.{eqb-true, eq-eqb}
use Rattle.sq_cursor.specs.declared.span.Span.{Span}
use Rattle.sq_model.specs.Copies.{weights}
use Rattle.sq_model.specs.Lists.{joined}
use Rattle.sq_model.specs.Passages.{Passage}
use Rattle.sq_model.specs.Places.{places}
use Rattle.sq_model.specs.Spans.{triples}
use Rattle.sq_model.specs.Triples.{at_place, of_phrase, near, choices}
use Rattle.sq_model.specs.declared.corpus.Corpus.{Corpus}
use Rattle.sq_model.specs.declared.fql.Look.{Look}
use Rattle.sq_model.specs.declared.leaf.Leaf.{Leaf as Literal}
use Rattle.sq_model.specs.declared.fql.SpanTree.{SpanTree, Leaf, Union, Near}
use Rattle.sq_model.specs.declared.triple.Triple.{Triple}
use Rattle.sq_model.proofs.FqlEquations.{triples_union, triples_near}
use Rattle.sq_model.proofs.Members.{IsIn, to_filter, of_filter, of_map}
use Rattle.sq_near.specs.Covers.{matches_at, joined_spans, merged_spans}
use Rattle.sq_near.specs.Laws.{AllOrdered, JoinedAreLeast, MergedAreLeast}
use Rattle.sq_least.specs.Dense.{Dense, EachDense, DenseChain, DenseUnion, DenseNear, DenseSums, HaveWeights, WeightsOfMatches, weights_of_sum}
use Rattle.sq_least.specs.Laws.{LeastInside, NearSplitsByWeight, WidthCountsWeights, of_weight, of_weights}
use Rattle.sq_streams.specs.Looked.{passage_looked}
use Rattle.sq_streams.specs.TreeStreams.{IsStreamOf, EachStreamOf, IsJoinOf, EachJoinOf}
use Rattle.sq_streams.proofs.DenseSpans.{merge_dense, matches_each, AsMany, join_dense}

-- ---- lists of matches by weight

filter_append_at : (b : Bool) (x : Triple) (all xs ys : List Triple) → all ≡ xs ++ ys → cond b (x ∷ all) all ≡ cond b (x ∷ xs) xs ++ ys
filter_append_at true x all xs ys e = ap (λ v. x ∷ v) e
filter_append_at false x all xs ys e = e

filter_append : (f : Triple → Bool) (xs ys : List Triple) → filter f (xs ++ ys) ≡ filter f xs ++ filter f ys
filter_append f [] ys = refl
filter_append f (x ∷ xs) ys = filter_append_at (f x) x (filter f (xs ++ ys)) (filter f xs) (filter f ys) (filter_append f xs ys)

of_weight_joined : (v : ℕ) (lists : List (List Triple)) → of_weight v (joined lists) ≡ joined (map (of_weight v) lists)
of_weight_joined v [] = refl
of_weight_joined v (xs ∷ lists) = filter_append (λ t. nat_eq t.weight v) xs (joined lists) ∙ ap (λ r. of_weight v xs ++ r) (of_weight_joined v lists)

-- ---- leaves

module _ (corpus : Corpus) (look : Look) (leaf : Literal) (v : ℕ) where
  -- the literal's weight is its length
  pub leaf_stream : (spans : List Span) → length leaf.pattern.texts ≡ v →
      ((row part : ℕ) → matches_at (length leaf.pattern.texts) (row, part) spans ≡ of_phrase leaf.pattern (passage_looked corpus look row part)) →
      IsStreamOf corpus look (Leaf leaf) v spans
  leaf_stream spans same are = record {
    dense = λ row part.
        let passage = passage_looked corpus look row part in
        let here : matches_at v (row, part) spans ≡ of_phrase leaf.pattern passage = ap (λ w. matches_at w (row, part) spans) (sym same) ∙ are row part in
        let weigh : (t : Triple) → IsIn t (of_phrase leaf.pattern passage) → nat_eq t.weight v ≡ true =
        λ t i. (let m = of_map (at_place (length leaf.pattern.texts)) t (places leaf.pattern passage) i in eq-eqb t.weight v (ap (λ (u : Triple). u.weight) m.2 ∙ same)) in
        record {
          some = λ t i. (let k = subst (λ xs. IsIn t xs) here i in to_filter (λ t. nat_eq t.weight v) t (of_phrase leaf.pattern passage) k (weigh t k));
          below = λ t i. (t, subst (λ xs. IsIn t xs) (sym here) (of_filter (λ t. nat_eq t.weight v) t (of_phrase leaf.pattern passage) i).0, ((omega arith, omega arith), refl));
        };
  }

  pub no_leaf_stream : length leaf.pattern.texts ≢ v → IsStreamOf corpus look (Leaf leaf) v (merged_spans [])
  no_leaf_stream other = record {
    dense = λ row part. record {
      some = λ t i. absurd i;
      below = λ t i.
          let passage = passage_looked corpus look row part in
          let f = of_filter (λ t. nat_eq t.weight v) t (of_phrase leaf.pattern passage) i in
          let m = of_map (at_place (length leaf.pattern.texts)) t (places leaf.pattern passage) f.0 in
          absurd (other (ap (λ (u : Triple). u.weight) (sym m.2) ∙ eqb-true t.weight v f.1));
    };
  }

-- ---- unions

module _ (corpus : Corpus) (look : Look) (v : ℕ) where
  union_each : (row part : ℕ) (trees : List SpanTree) (vs : List ℕ) (lists : List (List Span)) → ((w : ℕ) → IsIn w vs → w ≡ v) → EachStreamOf corpus look trees vs lists →
      EachDense (map (of_weight v) (map (triples (passage_looked corpus look row part)) trees)) (map (matches_at v (row, part)) lists)
  union_each row part [] [] [] all each = tt
  union_each row part [] [] (l ∷ lists) all each = absurd each
  union_each row part [] (w ∷ vs) lists all each = absurd each
  union_each row part (tree ∷ trees) [] lists all each = absurd each
  union_each row part (tree ∷ trees) (w ∷ vs) [] all each = absurd each
  union_each row part (tree ∷ trees) (w ∷ vs) (l ∷ lists) all each = (
    subst (λ k. Dense (of_weight k (triples (passage_looked corpus look row part) tree)) (matches_at k (row, part) l)) (all w (inl refl)) (each.0.dense row part),
    union_each row part trees vs lists (λ k i. all k (inr i)) each.1,
  )

module _ (least_inside : LeastInside) (merged_are_least : MergedAreLeast) (dense_chain : DenseChain) (dense_union : DenseUnion) where
  pub union_stream : (corpus : Corpus) (look : Look) (v : ℕ) (parts : List SpanTree) (vs : List ℕ) (lists : List (List Span)) → ((w : ℕ) → IsIn w vs → w ≡ v) →
      EachStreamOf corpus look parts vs lists → AllOrdered lists → IsStreamOf corpus look (Union parts) v (merged_spans lists)
  union_stream corpus look v parts vs lists all each ordered = record {
    dense = λ row part.
        let passage = passage_looked corpus look row part in
        let whole = dense_chain (joined (map (of_weight v) (map (triples passage) parts))) (joined (map (matches_at v (row, part)) lists)) (matches_at v (row, part) (merged_spans lists))
        (dense_union (map (of_weight v) (map (triples passage) parts)) (map (matches_at v (row, part)) lists) (union_each corpus look v row part parts vs lists all each))
        (merge_dense least_inside merged_are_least v (row, part) lists ordered) in
        let few = matches_at v (row, part) (merged_spans lists) in
        subst (λ m. Dense m few) (sym (of_weight_joined v (map (triples passage) parts)) ∙ ap (of_weight v) (sym (triples_union passage parts))) whole;
  }

-- ---- joins

each_many : (corpus : Corpus) (look : Look) (trees : List SpanTree) (vs : List ℕ) (lists : List (List Span)) → EachStreamOf corpus look trees vs lists → AsMany vs lists
each_many corpus look [] [] [] each = tt
each_many corpus look [] [] (l ∷ lists) each = absurd each
each_many corpus look [] (w ∷ vs) lists each = absurd each
each_many corpus look (tree ∷ trees) [] lists each = absurd each
each_many corpus look (tree ∷ trees) (w ∷ vs) [] each = absurd each
each_many corpus look (tree ∷ trees) (w ∷ vs) (l ∷ lists) each = each_many corpus look trees vs lists each.1

join_each : (corpus : Corpus) (look : Look) (row part : ℕ) (trees : List SpanTree) (vs : List ℕ) (lists : List (List Span)) → EachStreamOf corpus look trees vs lists →
    EachDense (of_weights vs (map (triples (passage_looked corpus look row part)) trees)) (matches_each vs (row, part) lists)
join_each corpus look row part [] [] [] each = tt
join_each corpus look row part [] [] (l ∷ lists) each = absurd each
join_each corpus look row part [] (w ∷ vs) lists each = absurd each
join_each corpus look row part (tree ∷ trees) [] lists each = absurd each
join_each corpus look row part (tree ∷ trees) (w ∷ vs) [] each = absurd each
join_each corpus look row part (tree ∷ trees) (w ∷ vs) (l ∷ lists) each = (each.0.dense row part, join_each corpus look row part trees vs lists each.1)

module _ (least_inside : LeastInside) (near_splits : NearSplitsByWeight) (width_counts : WidthCountsWeights) (joined_are_least : JoinedAreLeast) (dense_chain : DenseChain) (dense_near : DenseNear) where
  pub join_stream : (corpus : Corpus) (look : Look) (parts : List SpanTree) (n : ℕ) (ordered : Bool) (vs : List ℕ) (lists : List (List Span)) →
      EachStreamOf corpus look parts vs lists → AllOrdered lists → IsJoinOf corpus look parts n ordered vs (joined_spans (n + sum vs) ordered lists)
  join_stream corpus look parts n ordered vs lists each o = record {
    dense = λ row part.
        let passage = passage_looked corpus look row part in
        dense_chain (near n ordered (of_weights vs (map (triples passage) parts))) (near n ordered (matches_each vs (row, part) lists))
        (matches_at (sum vs) (row, part) (joined_spans (n + sum vs) ordered lists))
        (dense_near n ordered (of_weights vs (map (triples passage) parts)) (matches_each vs (row, part) lists) (join_each corpus look row part parts vs lists each))
        (join_dense least_inside near_splits width_counts joined_are_least n ordered vs (row, part) lists (each_many corpus look parts vs lists each) o);
  }

-- ---- nears

have_weights : (of_matches : WeightsOfMatches) (passage : Passage) (parts : List SpanTree) → HaveWeights (map (triples passage) parts) (map weights parts)
have_weights of_matches passage [] = tt
have_weights of_matches passage (part ∷ parts) = ((λ t i. of_matches passage part t i), have_weights of_matches passage parts)

near_each : (corpus : Corpus) (look : Look) (parts : List SpanTree) (n : ℕ) (ordered : Bool) (v row part : ℕ) (chosen : List (List ℕ)) (joins : List (List Span)) →
    ((vs : List ℕ) → IsIn vs chosen → sum vs ≡ v) → EachJoinOf corpus look parts n ordered chosen joins →
    EachDense (map (λ vs. near n ordered (of_weights vs (map (triples (passage_looked corpus look row part)) parts))) chosen) (map (matches_at v (row, part)) joins)
near_each corpus look parts n ordered v row part [] [] adds each = tt
near_each corpus look parts n ordered v row part [] (l ∷ joins) adds each = absurd each
near_each corpus look parts n ordered v row part (vs ∷ chosen) [] adds each = absurd each
near_each corpus look parts n ordered v row part (vs ∷ chosen) (l ∷ joins) adds each = (
  subst (λ w. Dense (near n ordered (of_weights vs (map (triples (passage_looked corpus look row part)) parts))) (matches_at w (row, part) l)) (adds vs (inl refl)) (each.0.dense row part),
  near_each corpus look parts n ordered v row part chosen joins (λ ws i. adds ws (inr i)) each.1,
)

module _ (least_inside : LeastInside) (merged_are_least : MergedAreLeast) (dense_chain : DenseChain) (dense_union : DenseUnion) (dense_sums : DenseSums) (of_matches : WeightsOfMatches) where
  pub near_stream : (corpus : Corpus) (look : Look) (parts : List SpanTree) (n : ℕ) (ordered : Bool) (v : ℕ) (joins : List (List Span)) →
      EachJoinOf corpus look parts n ordered (weights_of_sum v (map weights parts)) joins → AllOrdered joins → IsStreamOf corpus look (Near parts n ordered) v (merged_spans joins)
  near_stream corpus look parts n ordered v joins each o = record {
    dense = λ row part.
        let passage = passage_looked corpus look row part in
        let sums = weights_of_sum v (map weights parts) in
        let adds : (vs : List ℕ) → IsIn vs sums → sum vs ≡ v = λ vs i. eqb-true (sum vs) v (of_filter (λ vs. nat_eq (sum vs) v) vs (choices (map weights parts)) i).1 in
        let by_weights : List ℕ → List Triple = λ vs. near n ordered (of_weights vs (map (triples passage) parts)) in
        let split = dense_sums n ordered (map (triples passage) parts) (map weights parts) (have_weights of_matches passage parts) v in
        let union = dense_union (map by_weights sums) (map (matches_at v (row, part)) joins) (near_each corpus look parts n ordered v row part sums joins adds each) in
        let merge = merge_dense least_inside merged_are_least v (row, part) joins o in
        let few = matches_at v (row, part) (merged_spans joins) in
        let whole = dense_chain (of_weight v (near n ordered (map (triples passage) parts))) (joined (map by_weights sums)) few split
        (dense_chain (joined (map by_weights sums)) (joined (map (matches_at v (row, part)) joins)) few union merge) in
        subst (λ m. Dense (of_weight v m) few) (sym (triples_near passage parts n ordered)) whole;
  }
