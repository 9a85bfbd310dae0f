-- How many bytes and nodes built trees have.
use Rattle.std.proofs.Common.{◌≡◌, ℕ, ◌+◌, ◌≤◌, Bool, List, [], ◌∷◌, length, fold, refl, sym, ap, ◌∙◌, subst, arith, ℤ}
use Rattle.std.specs.Prelude.{sum}
use Rattle.std.proofs.lemmas.List.Sums.{sum_by-cons}
use Rattle.sq_model.specs.KqlSound.{text_bytes, text_bytes_each, text_bytes_of, nodes, nodes_each, nodes_of}
use Rattle.sq_model.specs.declared.leaf.Leaf.{Leaf}
use Rattle.sq_model.specs.declared.kql.KOperand.{KOperand}
use Rattle.sq_model.specs.declared.kql.KTree.{KTree, Row_of-KTree, end_of-KTree, more_of-KTree, Row_of-KOperand, end_of-KOperand, more_of-KOperand, items-the_row-KTree, items_hidden-the_row-KTree-2, items-the_row-KOperand, items_hidden-the_row-KOperand-1}
use Rattle.sq_model.specs.declared.kql.KTree.TheVariants as tree
use Rattle.sq_model.specs.declared.kql.KTree.TheBlock.{shape-the_row-KTree-0, hidden-the_row-KTree-0, hidden-the_row-KTree-2, hidden-the_row-KOperand-1}
use Rattle.sq_kql.specs.declared.raw.Piece.{Piece}
use Rattle.sq_kql.specs.WellFormed.{piece_bytes}
use Rattle.sq_typing.specs.Kql.{leaves_of}

abbrev pub all_bytes : List KTree → ℕ
all_bytes [] = 0
all_bytes (u ∷ us) = text_bytes u + all_bytes us

abbrev pub all_nodes : List KTree → ℕ
all_nodes [] = 0
all_nodes (u ∷ us) = nodes u + all_nodes us

abbrev pub operand_bytes : List KOperand → ℕ
operand_bytes [] = 0
operand_bytes (o ∷ os) = text_bytes o.tree + operand_bytes os

abbrev pub operand_nodes : List KOperand → ℕ
operand_nodes [] = 0
operand_nodes (o ∷ os) = nodes o.tree + operand_nodes os

-- at most so many bytes and nodes
pub record Small (m n : ℕ) (u : KTree) : Type 0 where
  pub few_bytes : text_bytes u ≤ m
  pub few_nodes : nodes u ≤ n

pub record SmallEach (m n : ℕ) (us : List KTree) : Type 0 where
  pub few_bytes : all_bytes us ≤ m
  pub few_nodes : all_nodes us ≤ n

pub record SmallOperands (m n : ℕ) (os : List KOperand) : Type 0 where
  pub few_bytes : operand_bytes os ≤ m
  pub few_nodes : operand_nodes os ≤ n

bytes_row : {m : _} (row : Row_of-KTree m) → sum (text_bytes_each row) ≡ all_bytes (items-the_row-KTree m row)
bytes_row end_of-KTree = refl
bytes_row (more_of-KTree part rest) = sum_by-cons (λ n. n) (text_bytes part) (text_bytes_each rest) ∙ ap (λ n. text_bytes part + n) (bytes_row rest)

nodes_row : {m : _} (row : Row_of-KTree m) → sum (nodes_each row) ≡ all_nodes (items-the_row-KTree m row)
nodes_row end_of-KTree = refl
nodes_row (more_of-KTree part rest) = sum_by-cons (λ n. n) (nodes part) (nodes_each rest) ∙ ap (λ n. nodes part + n) (nodes_row rest)

operand_bytes_row : {m : _} (row : Row_of-KOperand m) → sum (text_bytes_of row) ≡ operand_bytes (items-the_row-KOperand m row)
operand_bytes_row end_of-KOperand = refl
operand_bytes_row (more_of-KOperand s part rest) = sum_by-cons (λ n. n) (text_bytes part) (text_bytes_of rest) ∙ ap (λ n. text_bytes part + n) (operand_bytes_row rest)

operand_nodes_row : {m : _} (row : Row_of-KOperand m) → sum (nodes_of row) ≡ operand_nodes (items-the_row-KOperand m row)
operand_nodes_row end_of-KOperand = refl
operand_nodes_row (more_of-KOperand s part rest) = sum_by-cons (λ n. n) (nodes part) (nodes_of rest) ∙ ap (λ n. nodes part + n) (operand_nodes_row rest)

bytes_list : (us : List KTree) → sum (text_bytes_each (hidden-the_row-KTree-2 us)) ≡ all_bytes us
bytes_list us = bytes_row (hidden-the_row-KTree-2 us) ∙ ap all_bytes (items_hidden-the_row-KTree-2 us)

nodes_list : (us : List KTree) → sum (nodes_each (hidden-the_row-KTree-2 us)) ≡ all_nodes us
nodes_list us = nodes_row (hidden-the_row-KTree-2 us) ∙ ap all_nodes (items_hidden-the_row-KTree-2 us)

operand_bytes_list : (os : List KOperand) → sum (text_bytes_of (hidden-the_row-KOperand-1 os)) ≡ operand_bytes os
operand_bytes_list os = operand_bytes_row (hidden-the_row-KOperand-1 os) ∙ ap operand_bytes (items_hidden-the_row-KOperand-1 os)

operand_nodes_list : (os : List KOperand) → sum (nodes_of (hidden-the_row-KOperand-1 os)) ≡ operand_nodes os
operand_nodes_list os = operand_nodes_row (hidden-the_row-KOperand-1 os) ∙ ap operand_nodes (items_hidden-the_row-KOperand-1 os)

one_more : (a n : ℕ) → a ≤ n → 1 + a ≤ 1 + n
one_more a n h = omega arith

pub small_or : (m n : ℕ) (us : List KTree) → SmallEach m n us → Small m (1 + n) (tree.Or us)
small_or m n us h = record {
  few_bytes = subst (λ k. k ≤ m) (sym (bytes_list us)) h.few_bytes;
  few_nodes = subst (λ k. 1 + k ≤ 1 + n) (sym (nodes_list us)) (one_more _ n h.few_nodes);
}

pub small_and : (m n : ℕ) (us : List KTree) → SmallEach m n us → Small m (1 + n) (tree.And us)
small_and m n us h = record {
  few_bytes = subst (λ k. k ≤ m) (sym (bytes_list us)) h.few_bytes;
  few_nodes = subst (λ k. 1 + k ≤ 1 + n) (sym (nodes_list us)) (one_more _ n h.few_nodes);
}

pub small_run : (m n : ℕ) (os : List KOperand) → SmallOperands m n os → Small m (1 + n) (tree.Run os)
small_run m n os h = record {
  few_bytes = subst (λ k. k ≤ m) (sym (operand_bytes_list os)) h.few_bytes;
  few_nodes = subst (λ k. 1 + k ≤ 1 + n) (sym (operand_nodes_list os)) (one_more _ n h.few_nodes);
}

pub small_group : (m n : ℕ) (u : KTree) → Small m n u → Small (m + 0) (1 + (n + 0)) (tree.Group u)
unfolding shape-the_row-KTree-0 hidden-the_row-KTree-0 denote.Hole.Carrier.hidden
small_group m n u h = record { few_bytes = omega (arith, h.few_bytes); few_nodes = omega (arith, h.few_nodes) }

pub small_near : (m n i j : ℕ) (l r : KTree) (k : ℕ) (ordered : Bool) → Small m n l → Small i j r → Small ((m + 0) + (i + 0)) (1 + ((n + 0) + (j + 0))) (tree.Near l r k ordered)
unfolding shape-the_row-KTree-0 hidden-the_row-KTree-0 denote.Hole.Carrier.hidden
small_near m n i j l r k ordered g h =
    record { few_bytes = omega (arith, g.few_bytes, h.few_bytes); few_nodes = omega (arith, g.few_nodes, h.few_nodes) }

pub small_xrank : (m n i j : ℕ) (l r : KTree) (cb : ℤ) → Small m n l → Small i j r → Small ((m + 0) + (i + 0)) (1 + ((n + 0) + (j + 0))) (tree.Xrank l r cb)
unfolding shape-the_row-KTree-0 hidden-the_row-KTree-0 denote.Hole.Carrier.hidden
small_xrank m n i j l r cb g h =
    record { few_bytes = omega (arith, g.few_bytes, h.few_bytes); few_nodes = omega (arith, g.few_nodes, h.few_nodes) }

pub small_cons : (m n i j : ℕ) (u : KTree) (us : List KTree) → Small m n u → SmallEach i j us → SmallEach (m + i) (n + j) (u ∷ us)
small_cons m n i j u us g h = record { few_bytes = omega (arith, g.few_bytes, h.few_bytes); few_nodes = omega (arith, g.few_nodes, h.few_nodes) }

pub small_operand_cons : (m n i j : ℕ) (o : KOperand) (os : List KOperand) → Small m n o.tree → SmallOperands i j os → SmallOperands (m + i) (n + j) (o ∷ os)
small_operand_cons m n i j o os g h = record { few_bytes = omega (arith, g.few_bytes, h.few_bytes); few_nodes = omega (arith, g.few_nodes, h.few_nodes) }

words_bytes : (ps : List Piece) (k : ℕ) → fold (λ a (leaf : Leaf). a + length leaf.text) k (leaves_of ps) ≡ fold (λ n p. n + piece_bytes p) k ps
words_bytes [] k = refl
words_bytes (p ∷ ps) k = words_bytes ps (k + length p.text)

pub small_words : (ps : List Piece) → Small (fold (λ n p. n + piece_bytes p) 0 ps) 1 (tree.Words (leaves_of ps))
small_words ps = record { few_bytes = subst (λ k. k ≤ fold (λ n p. n + piece_bytes p) 0 ps) (sym (words_bytes ps 0)) (omega arith); few_nodes = omega arith }
