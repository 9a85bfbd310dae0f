-- The price of an expression by its parts as a list.
use Rattle.std.proofs.Common.{◌≡◌, ℕ, Bool, true, List, [], ◌∷◌, map, length, refl, sym, ap, ◌∙◌}
use Rattle.std.specs.Prelude.{nat_eq, if◌then◌else◌, sum, sum_by}
use Rattle.sq_model.specs.Copies.{weights, weights_each}
use Rattle.sq_model.specs.Cost.{phrase_count}
use Rattle.sq_model.specs.declared.corpus.Corpus.{Corpus}
use Rattle.sq_model.specs.declared.fql.Look.{Look}
use Rattle.sq_model.specs.declared.leaf.Leaf.{Leaf as Literal}
use Rattle.sq_model.specs.declared.fql.SpanTree.{SpanTree, Leaf, Union, Near, Row_of-SpanTree, end_of-SpanTree, more_of-SpanTree, items-the_row-SpanTree, items_hidden-the_row-SpanTree-0}
use Rattle.sq_model.specs.declared.fql.SpanTree.TheBlock.{hidden-the_row-SpanTree-0}
use Rattle.sq_model.proofs.Members.{IsIn, of_map}
use Rattle.sq_least.specs.Dense.{weights_of_sum}
use Rattle.sq_streams.specs.TreePrices.{price, price_all, price_each, prices}
use Rattle.sq_streams.proofs.SumLemmas.{sum_same}
use Rattle.sq_streams.proofs.WeightLemmas.{weights_here}

module _ (corpus : Corpus) (look : Look) where
  all_of_row : {m : _} (row : Row_of-SpanTree m) (v : ℕ) → price_all corpus look row v ≡ map (λ part. price corpus look part v) (items-the_row-SpanTree m row)
  all_of_row end_of-SpanTree v = refl
  all_of_row (more_of-SpanTree part rest) v = ap (λ r. price corpus look part v ∷ r) (all_of_row rest v)

  each_of_row : {m : _} (row : Row_of-SpanTree m) (vs : List ℕ) → price_each corpus look row vs ≡ prices corpus look (items-the_row-SpanTree m row) vs
  each_of_row end_of-SpanTree vs = refl
  each_of_row (more_of-SpanTree part rest) [] = refl
  each_of_row (more_of-SpanTree part rest) (v ∷ vs) = ap (λ r. price corpus look part v ∷ r) (each_of_row rest vs)

  pub price_leaf : (leaf : Literal) (v : ℕ) → nat_eq (length leaf.pattern.texts) v ≡ true → price corpus look (Leaf leaf) v ≡ phrase_count corpus look leaf.pattern
  price_leaf leaf v e = ap (λ b. if b then phrase_count corpus look leaf.pattern else 0) e

  once : (parts : List SpanTree) (v : ℕ) → prices corpus look parts (map (λ _. v) parts) ≡ map (λ part. price corpus look part v) parts
  once [] v = refl
  once (part ∷ parts) v = ap (λ r. price corpus look part v ∷ r) (once parts v)

  pub price_union : (parts : List SpanTree) (v : ℕ) → price corpus look (Union parts) v ≡ sum (prices corpus look parts (map (λ _. v) parts))
  price_union parts v =
      ap sum (all_of_row (hidden-the_row-SpanTree-0 parts) v) ∙ (ap (λ trees. sum (map (λ part. price corpus look part v) trees)) (items_hidden-the_row-SpanTree-0 parts) ∙ ap sum (sym (once parts v)))

  pub price_near : (parts : List SpanTree) (n : ℕ) (ordered : Bool) (v : ℕ) →
      price corpus look (Near parts n ordered) v ≡ sum_by (λ vs. sum (prices corpus look parts vs)) (weights_of_sum v (map weights parts))
  price_near parts n ordered v =
      sum_same (λ vs. sum (price_each corpus look (hidden-the_row-SpanTree-0 parts) vs)) (λ vs. sum (prices corpus look parts vs)) (weights_of_sum v (weights_each (hidden-the_row-SpanTree-0 parts)))
      (λ vs. ap sum (each_of_row (hidden-the_row-SpanTree-0 parts) vs) ∙ ap (λ trees. sum (prices corpus look trees vs)) (items_hidden-the_row-SpanTree-0 parts))
      ∙ ap (λ lists. sum_by (λ vs. sum (prices corpus look parts vs)) (weights_of_sum v lists)) (weights_here parts)

pub all_once : (v : ℕ) (parts : List SpanTree) (w : ℕ) → IsIn w (map (λ (_ : SpanTree). v) parts) → w ≡ v
all_once v parts w i = (of_map (λ (_ : SpanTree). v) w parts i).2
