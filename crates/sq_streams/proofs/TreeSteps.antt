-- What the makers of streams promise, from what they call.
use Rattle.std.proofs.Common.{◌≡◌, ◌≢◌, ◌≤◌, ◌<◌, ℕ, ◌+◌, Bool, List, [], map, length, get_or, sym, ap, subst, ◌∙◌, arith}
use Rattle.std.specs.Prelude.{sum, sum_by}
use Rattle.std.proofs.lemmas.Bool.{eq-eqb}
use Rattle.std.proofs.lemmas.List.{length-map}
use Rattle.sq_cursor.specs.declared.span.Span.{Span}
use Rattle.sq_model.specs.Copies.{weights}
use Rattle.sq_model.specs.declared.corpus.Corpus.{Corpus}
use Rattle.sq_model.specs.declared.fql.Look.{Look}
use Rattle.sq_model.specs.declared.fql.SpanTree.{SpanTree, Leaf, Union, Near}
use Rattle.sq_model.specs.declared.leaf.Leaf.{Leaf as Literal}
use Rattle.sq_model.proofs.Members.{IsIn}
use Rattle.sq_near.specs.Covers.{joined_spans, merged_spans}
use Rattle.sq_near.specs.Laws.{AllOrdered}
use Rattle.sq_least.specs.Dense.{weights_of_sum}
use Rattle.sq_postings.specs.Indexed.{Indexed}
use Rattle.sq_streams.specs.Pattern.{ArePlaces, IsWithinCount}
use Rattle.sq_streams.specs.Tree.{IsWithinCopies}
use Rattle.sq_streams.specs.TreeLaws.{UnionsAreStreams, JoinsAreStreams}
use Rattle.sq_streams.specs.TreePrices.{price, prices, PriceOfWeights, IsWithinPrice, IsWithinPrices, IsWithinChoices, IsWithinWeights}
use Rattle.sq_streams.specs.TreeStreams.{IsStreamOf, IsStreamFor, EachStreamFor, EachStreamOf, IsJoinOf}
use Rattle.sq_streams.proofs.PriceLemmas.{weights_are_distinct}
use Rattle.sq_streams.proofs.TreeLemmas.{leaf_stream, no_leaf_stream}
use Rattle.sq_streams.proofs.TreeLoops.{in_list, choice_facts}
use Rattle.sq_streams.proofs.TreePriceLemmas.{price_leaf, price_union, price_near, all_once}

pub without : (after rest most : ℕ) → after + rest ≤ most → after ≤ most
without after rest most h = omega (arith, h)

module _ (index : Indexed) (look : Look) where
  -- ---- leaves

  pub leaf_made : (leaf : Literal) (v : ℕ) (spans : List Span) → length leaf.pattern.texts ≡ v → ArePlaces index look leaf.pattern spans → IsStreamFor index look (Leaf leaf) v spans
  leaf_made leaf v spans same are corpus valid stands = leaf_stream corpus look leaf v spans same (are.places corpus valid stands)

  pub leaf_missing : (leaf : Literal) (v : ℕ) (spans : List Span) → length leaf.pattern.texts ≢ v → spans ≡ merged_spans [] → IsStreamFor index look (Leaf leaf) v spans
  leaf_missing leaf v spans other none corpus valid stands = subst (IsStreamOf corpus look (Leaf leaf) v) (sym none) (no_leaf_stream corpus look leaf v other)

  pub leaf_price : (leaf : Literal) (v before after : ℕ) → length leaf.pattern.texts ≡ v → IsWithinCount index look leaf.pattern before after → IsWithinPrice index look (Leaf leaf) v before after
  leaf_price leaf v before after same h corpus valid stands =
      let here = h corpus valid stands in
      let whole = price_leaf corpus look leaf v (eq-eqb (length leaf.pattern.texts) v same) in
      omega (arith, here, whole)

  pub nothing_price : (leaf : Literal) (v before after : ℕ) → after ≤ before → IsWithinPrice index look (Leaf leaf) v before after
  nothing_price leaf v before after h corpus valid stands = omega (arith, h)

  pub price_less : (tree : SpanTree) (v before after rest : ℕ) → IsWithinPrice index look tree v before (after + rest) → IsWithinPrice index look tree v before after
  price_less tree v before after rest h corpus valid stands = without after rest (before + price corpus look tree v) (h corpus valid stands)

  -- ---- unions

  pub union_price : (parts slice : List SpanTree) (vs : List ℕ) (v before paid after : ℕ) → slice ≡ parts → vs ≡ map (λ _. v) slice → after ≤ paid →
      IsWithinPrices index look slice vs before paid → IsWithinPrice index look (Union parts) v before after
  union_price parts slice vs v before paid after slice_is vs_is less h corpus valid stands =
      let here = h corpus valid stands in
      let whole = price_union corpus look parts v in
      let same = ap (λ us. sum (prices corpus look slice us)) vs_is ∙ ap (λ ps. sum (prices corpus look ps (map (λ _. v) ps))) slice_is in
      omega (arith, here, whole, same, less)

  pub union_made : UnionsAreStreams → (parts slice : List SpanTree) (vs : List ℕ) (v : ℕ) (lists : List (List Span)) (spans : List Span) → slice ≡ parts → vs ≡ map (λ _. v) slice →
      EachStreamFor index look slice vs lists → AllOrdered lists → spans ≡ merged_spans lists → IsStreamFor index look (Union parts) v spans
  union_made law parts slice vs v lists spans slice_is vs_is each ordered spans_is corpus valid stands =
      let all : (w : ℕ) → IsIn w vs → w ≡ v = λ w i. all_once v slice w (subst (IsIn w) vs_is i) in
      let made = law corpus look v slice vs lists all (each corpus valid stands) ordered in
      subst (λ ps. IsStreamOf corpus look (Union ps) v spans) slice_is (subst (IsStreamOf corpus look (Union slice) v) (sym spans_is) made)

  -- ---- nears

  pub near_price : (parts slice : List SpanTree) (n : ℕ) (ordered : Bool) (v : ℕ) (choices : List (List ℕ)) (before paid after : ℕ) → slice ≡ parts → choices ≡ weights_of_sum v (map weights slice) →
      after ≤ paid → IsWithinChoices index look slice choices before paid → IsWithinPrice index look (Near parts n ordered) v before after
  near_price parts slice n ordered v choices before paid after slice_is choices_are less h corpus valid stands =
      let here = h corpus valid stands in
      let whole = price_near corpus look parts n ordered v in
      let same = ap (sum_by (λ vs. sum (prices corpus look slice vs))) choices_are ∙ ap (λ ps. sum_by (λ vs. sum (prices corpus look ps vs)) (weights_of_sum v (map weights ps))) slice_is in
      omega (arith, here, whole, same, less)

  pub join_price : (parts : List SpanTree) (choice vs : List ℕ) (before paid after : ℕ) → vs ≡ choice → after ≤ paid → IsWithinPrices index look parts vs before paid → IsWithinPrices index look parts choice before after
  join_price parts choice vs before paid after is less h corpus valid stands =
      let here = h corpus valid stands in
      let same = ap (λ us. sum (prices corpus look parts us)) is in
      omega (arith, here, same, less)

  -- ---- all weights

  pub copies_price : PriceOfWeights → (tree : SpanTree) (vs : List ℕ) (before after : ℕ) → vs ≡ weights tree → IsWithinWeights index look tree vs before after → IsWithinCopies index look tree before after
  copies_price law tree vs before after is h corpus valid stands sound =
      let here = h corpus valid stands in
      let most = law corpus look tree (weights tree) (weights_are_distinct tree) in
      let same = ap (sum_by (price corpus look tree)) is in
      omega (arith, here, most, same)

-- the choice at hand has a weight for each part, and they have the sum
pub choice_at : (parts : List SpanTree) (v : ℕ) (choices : List (List ℕ)) (i : ℕ) (choice vs : List ℕ) → choices ≡ weights_of_sum v (map weights parts) → i < length choices →
    choice ≡ get_or choices i choice → vs ≡ choice → (length vs ≡ length parts) × (sum vs ≡ v)
choice_at parts v choices i choice vs are within at is =
    let here = subst (IsIn choice) are (in_list choices i choice within at) in
    let facts = choice_facts v (map weights parts) choice here in
    (ap length is ∙ (facts.0 ∙ length-map parts weights), ap sum is ∙ facts.1)

pub join_made : JoinsAreStreams → (corpus : Corpus) (look : Look) (parts : List SpanTree) (n : ℕ) (ordered : Bool) (v : ℕ) (choice vs : List ℕ) (lists : List (List Span)) (spans : List Span) →
    vs ≡ choice → sum vs ≡ v → EachStreamOf corpus look parts vs lists → AllOrdered lists → spans ≡ joined_spans (n + v) ordered lists → IsJoinOf corpus look parts n ordered choice spans
join_made law corpus look parts n ordered v choice vs lists spans is adds each o spans_is =
    let made = law corpus look parts n ordered vs lists each o in
    let same : joined_spans (n + sum vs) ordered lists ≡ spans = ap (λ w. joined_spans (n + w) ordered lists) adds ∙ sym spans_is in
    subst (λ us. IsJoinOf corpus look parts n ordered us spans) is (subst (IsJoinOf corpus look parts n ordered vs) same made)
