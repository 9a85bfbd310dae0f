-- Weights and copies of expressions whose phrases have the lengths that are given.
use Rattle.std.proofs.Common.{◌≡◌, ℕ, zero, suc, false, List, [], ◌∷◌, map, refl}
use Rattle.sq_model.specs.KqlCopies.{weights, copies}
use Rattle.sq_model.specs.declared.leaf.Leaf.{Leaf}
use Rattle.sq_model.specs.declared.kql.KTree.{KTree}
use Rattle.sq_model.specs.declared.kql.KTree.TheVariants as k
use Rattle.sq_model.specs.declared.kql.KTree.TheBlock.{shape-the_row-KTree-0, hidden-the_row-KTree-0, shape-the_row-KTree-2, hidden-the_row-KTree-2}
use Rattle.sq_typing.specs.Forms.{is_filled}

unfoldable lists : Unit {0}
unfolding shape-the_row-KTree-0 hidden-the_row-KTree-0 shape-the_row-KTree-2 hidden-the_row-KTree-2 denote.Hole.Carrier.hidden
lists = tt

abbrev tokens : ℕ → List (List ℕ)
tokens zero = []
tokens (suc n) = (97 ∷ []) ∷ tokens n

abbrev leaf : ℕ → Leaf
leaf n = record { text = []; pattern = record { texts = tokens n; prefixed = false } }

abbrev words : List ℕ → KTree
words lengths = k.Words (map leaf lengths)

abbrev near : KTree → KTree → KTree
near left right = k.Near left right 8 false

abbrev four : KTree
four = near (words (1 ∷ 2 ∷ [])) (words (1 ∷ 3 ∷ []))

abbrev eight : KTree
eight = near four (words (1 ∷ 5 ∷ []))

four_weights : weights four ≡ 2 ∷ 4 ∷ 3 ∷ 5 ∷ []
unfolding lists
four_weights = refl

four_copies : copies four ≡ 4
unfolding lists
four_copies = refl

a_weight_counts_once : copies (near eight (words (4 ∷ 4 ∷ []))) ≡ 256
unfolding lists
a_weight_counts_once = refl

two_weights_double : copies (near eight (words (4 ∷ 5 ∷ []))) ≡ 512
unfolding lists
two_weights_double = refl

a_group_adds_no_weight : copies (near four (k.Group (k.Or (k.Free (leaf 2) ∷ words (2 ∷ 1 ∷ []) ∷ [])))) ≡ 32
unfolding lists
a_group_adds_no_weight = refl

no_empty_list : is_filled (near four (k.Or [])) ≡ false
unfolding lists
no_empty_list = refl
