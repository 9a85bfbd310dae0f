-- The weights and the copies of an FQL proximity expression by its parts as a list, and how code counts them.
use Rattle.std.proofs.Common.{◌≡◌, ℕ, ◌*◌, ◌<◌, Bool, true, not, ◌&&◌, List, [], ◌∷◌, map, length, refl, sym, ap, ap₂, ◌∙◌, arith, length-append}
use Rattle.std.proofs.lemmas.Nat.{mul-le}
use Rattle.std.specs.Prelude.{sum}
use Rattle.std.specs.List.{list_all}
use Rattle.sq_model.specs.Lists.{is_empty, joined}
use Rattle.sq_model.specs.Triples.{choices}
use Rattle.sq_model.specs.Copies.{distinct, greatest, product, weights, weights_each, copies, copies_each}
use Rattle.sq_model.specs.FqlSound.{SpansSound, SomeSpansSound, EachSpansSound}
use Rattle.sq_model.specs.declared.fql.SpanTree.{SpanTree, Leaf, Union, Near, Union', Near', Row_of-SpanTree, end_of-SpanTree, more_of-SpanTree, items-the_row-SpanTree, items_hidden-the_row-SpanTree-0}
use Rattle.sq_model.specs.declared.fql.SpanTree.TheBlock.{hidden-the_row-SpanTree-0}
use Rattle.sq_typing.specs.SpanForms.{is_filled, are_filled, each_filled}
use Rattle.sq_typing.proofs.CopiesLemmas.{and_left, and_right, both_true}
use Rattle.sq_typing.proofs.DistinctLemmas.{some_distinct}
use Rattle.sq_typing.proofs.SumLemmas.{all_sums, length_all_sums}

weights_of_row : {m : _} (row : Row_of-SpanTree m) → weights_each row ≡ map weights (items-the_row-SpanTree m row)
weights_of_row end_of-SpanTree = refl
weights_of_row (more_of-SpanTree part rest) = ap (λ r. weights part ∷ r) (weights_of_row rest)

copies_of_row : {m : _} (row : Row_of-SpanTree m) → copies_each row ≡ map copies (items-the_row-SpanTree m row)
copies_of_row end_of-SpanTree = refl
copies_of_row (more_of-SpanTree part rest) = ap (λ r. copies part ∷ r) (copies_of_row rest)

filled_of_row : {m : _} (row : Row_of-SpanTree m) → each_filled row ≡ list_all is_filled (items-the_row-SpanTree m row)
filled_of_row end_of-SpanTree = refl
filled_of_row (more_of-SpanTree part rest) = ap (λ b. is_filled part && b) (filled_of_row rest)

some_filled_of_row : {m : _} (row : Row_of-SpanTree m) → are_filled row ≡ (not (is_empty (items-the_row-SpanTree m row)) && list_all is_filled (items-the_row-SpanTree m row))
some_filled_of_row end_of-SpanTree = refl
some_filled_of_row (more_of-SpanTree part rest) = ap (λ b. is_filled part && b) (filled_of_row rest)

module _ (parts : List SpanTree) where
  weights_here : weights_each (hidden-the_row-SpanTree-0 parts) ≡ map weights parts
  weights_here = weights_of_row (hidden-the_row-SpanTree-0 parts) ∙ ap (map weights) (items_hidden-the_row-SpanTree-0 parts)

  copies_here : copies_each (hidden-the_row-SpanTree-0 parts) ≡ map copies parts
  copies_here = copies_of_row (hidden-the_row-SpanTree-0 parts) ∙ ap (map copies) (items_hidden-the_row-SpanTree-0 parts)

  filled_here : are_filled (hidden-the_row-SpanTree-0 parts) ≡ (not (is_empty parts) && list_all is_filled parts)
  filled_here = some_filled_of_row (hidden-the_row-SpanTree-0 parts) ∙ ap (λ trees. not (is_empty trees) && list_all is_filled trees) (items_hidden-the_row-SpanTree-0 parts)

  pub weights_union : weights (Union parts) ≡ distinct (joined (map weights parts))
  weights_union = ap (λ lists. distinct (joined lists)) weights_here

  pub copies_union : copies (Union parts) ≡ greatest (map copies parts)
  copies_union = ap greatest copies_here

  pub built_union : is_filled (Union parts) ≡ (not (is_empty parts) && list_all is_filled parts)
  built_union = filled_here

  pub filled_union : is_filled (Union parts) ≡ true → list_all is_filled parts ≡ true
  filled_union filled = and_right _ _ (sym filled_here ∙ filled)

  module _ (n : ℕ) (ordered : Bool) where
    pub weights_near : weights (Near parts n ordered) ≡ distinct (map sum (choices (map weights parts)))
    weights_near = ap (λ lists. distinct (map sum (choices lists))) weights_here

    pub copies_near : copies (Near parts n ordered) ≡ product (map length (map weights parts)) * greatest (map copies parts)
    copies_near = ap₂ (λ lists numbers. product (map length lists) * greatest numbers) weights_here copies_here

    pub built_near : is_filled (Near parts n ordered) ≡ (not (is_empty parts) && list_all is_filled parts)
    built_near = filled_here

    pub filled_near : is_filled (Near parts n ordered) ≡ true → list_all is_filled parts ≡ true
    filled_near filled = and_right _ _ (sym filled_here ∙ filled)

pub ruleset span_rules = (weights_union, copies_union, weights_near, copies_near)

mutual
  pub filled_of_sound : (tree : SpanTree) → SpansSound tree → is_filled tree ≡ true
  filled_of_sound (Leaf leaf) sound = refl
  filled_of_sound (Union' shape parts) sound = some_filled parts sound
  filled_of_sound (Near' shape parts n ordered) sound = some_filled parts sound.1

  some_filled : {m : _} (row : Row_of-SpanTree m) → SomeSpansSound row → are_filled row ≡ true
  some_filled end_of-SpanTree sound = absurd sound
  some_filled (more_of-SpanTree part rest) sound = both_true _ _ (filled_of_sound part sound.0) (filled_each rest sound.1)

  filled_each : {m : _} (row : Row_of-SpanTree m) → EachSpansSound row → each_filled row ≡ true
  filled_each end_of-SpanTree sound = refl
  filled_each (more_of-SpanTree part rest) sound = both_true _ _ (filled_of_sound part sound.0) (filled_each rest sound.1)

-- ---- a filled expression has a weight, and one copy at least

positive : (a b : ℕ) → 0 < a → 0 < b → 0 < a * b
positive a b some_a some_b = omega (arith, mul-le 1 1 a b (omega arith) (omega arith))

some_all_sums : (lists : List (List ℕ)) → 0 < product (map length lists) → 0 < length (all_sums lists)
some_all_sums lists some = omega (arith, length_all_sums lists)

mutual
  pub has_weight : (tree : SpanTree) → is_filled tree ≡ true → 0 < length (weights tree)
  has_weight (Leaf leaf) filled = omega arith
  has_weight (Union' shape parts) filled = some_distinct (joined (weights_each parts)) (some_joined parts filled)
  has_weight (Near' shape parts n ordered) filled = some_distinct (map sum (choices (weights_each parts))) (some_all_sums (weights_each parts) (some_product parts filled))

  some_joined : {m : _} (row : Row_of-SpanTree m) → are_filled row ≡ true → 0 < length (joined (weights_each row))
  some_joined end_of-SpanTree filled = cc
  some_joined (more_of-SpanTree part rest) filled =
      omega (arith, length-append (weights part) (joined (weights_each rest)), has_weight part (and_left _ _ filled))

  some_product : {m : _} (row : Row_of-SpanTree m) → are_filled row ≡ true → 0 < product (map length (weights_each row))
  some_product end_of-SpanTree filled = cc
  some_product (more_of-SpanTree part rest) filled =
      positive (length (weights part)) (product (map length (weights_each rest))) (has_weight part (and_left _ _ filled)) (each_product rest (and_right _ _ filled))

  each_product : {m : _} (row : Row_of-SpanTree m) → each_filled row ≡ true → 0 < product (map length (weights_each row))
  each_product end_of-SpanTree filled = omega arith
  each_product (more_of-SpanTree part rest) filled =
      positive (length (weights part)) (product (map length (weights_each rest))) (has_weight part (and_left _ _ filled)) (each_product rest (and_right _ _ filled))

mutual
  pub has_copy : (tree : SpanTree) → is_filled tree ≡ true → 0 < copies tree
  has_copy (Leaf leaf) filled = omega arith
  has_copy (Union' shape parts) filled = some_greatest parts filled
  has_copy (Near' shape parts n ordered) filled = positive (product (map length (weights_each parts))) (greatest (copies_each parts)) (some_product parts filled) (some_greatest parts filled)

  some_greatest : {m : _} (row : Row_of-SpanTree m) → are_filled row ≡ true → 0 < greatest (copies_each row)
  some_greatest end_of-SpanTree filled = cc
  some_greatest (more_of-SpanTree part rest) filled = omega (arith, has_copy part (and_left _ _ filled))

pub some_list_product : (parts : List SpanTree) → list_all is_filled parts ≡ true → 0 < product (map length (map weights parts))
some_list_product [] filled = omega arith
some_list_product (part ∷ rest) filled =
    positive (length (weights part)) (product (map length (map weights rest))) (has_weight part (and_left _ _ filled)) (some_list_product rest (and_right _ _ filled))
