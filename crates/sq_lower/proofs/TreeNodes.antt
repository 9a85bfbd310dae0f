-- A part of a tree has fewer nodes than the tree: why lowering ends.
use Rattle.std.proofs.Common.{◌≡◌, ℕ, zero, suc, ◌+◌, ◌*◌, ◌<◌, ◌≤◌, Bool, List, [], ◌∷◌, length, get_or, sum, refl, ap, ◌∙◌, arith, ℤ}
use Rattle.std.proofs.lemmas.List.Sums.{sum_by-cons}
use Rattle.sq_model.specs.KqlSound.{nodes, nodes_each, nodes_of}
use Rattle.sq_model.specs.declared.kql.KOperand.{KOperand}
use Rattle.sq_model.specs.declared.kql.KTree.{KTree, Group, Near, Run, And, Or, Xrank, Row_of-KTree, end_of-KTree, more_of-KTree, Row_of-KOperand, end_of-KOperand, more_of-KOperand, items-the_row-KTree, items_hidden-the_row-KTree-2, items-the_row-KOperand, items_hidden-the_row-KOperand-1}
use Rattle.sq_model.specs.declared.kql.KTree.TheBlock.{shape-the_row-KTree-0, hidden-the_row-KTree-0, hidden-the_row-KTree-2, hidden-the_row-KOperand-1}

-- the nodes of trees, and of operands
abbrev pub all_nodes : List KTree → ℕ
all_nodes [] = 0
all_nodes (t ∷ ts) = nodes t + all_nodes ts

abbrev pub all_operand_nodes : List KOperand → ℕ
all_operand_nodes [] = 0
all_operand_nodes (operand ∷ operands) = nodes operand.tree + all_operand_nodes operands

all_of_row : {m : _} (row : Row_of-KTree m) → sum (nodes_each row) ≡ all_nodes (items-the_row-KTree m row)
all_of_row end_of-KTree = refl
all_of_row (more_of-KTree part rest) = sum_by-cons (λ n. n) (nodes part) (nodes_each rest) ∙ ap (λ n. nodes part + n) (all_of_row rest)

all_of_operand_row : {m : _} (row : Row_of-KOperand m) → sum (nodes_of row) ≡ all_operand_nodes (items-the_row-KOperand m row)
all_of_operand_row end_of-KOperand = refl
all_of_operand_row (more_of-KOperand sign tree rest) = sum_by-cons (λ n. n) (nodes tree) (nodes_of rest) ∙ ap (λ n. nodes tree + n) (all_of_operand_row rest)

pub at_most_all : (ts : List KTree) (i : ℕ) (t : KTree) → i < length ts → t ≡ get_or ts i t → nodes t ≤ all_nodes ts
at_most_all [] i t within is = omega arith
at_most_all (u ∷ us) zero t within is = let e = ap nodes is in omega arith
at_most_all (u ∷ us) (suc i) t within is = omega (arith, at_most_all us i t (omega arith) is)

pub at_most_all_operands : (ts : List KOperand) (i : ℕ) (t : KOperand) → i < length ts → t ≡ get_or ts i t → nodes t.tree ≤ all_operand_nodes ts
at_most_all_operands [] i t within is = omega arith
at_most_all_operands (u ∷ us) zero t within is = let e = ap (λ operand. nodes operand.tree) is in omega arith
at_most_all_operands (u ∷ us) (suc i) t within is = omega (arith, at_most_all_operands us i t (omega arith) is)

all_of_list : (ts : List KTree) → sum (nodes_each (hidden-the_row-KTree-2 ts)) ≡ all_nodes ts
all_of_list ts = all_of_row (hidden-the_row-KTree-2 ts) ∙ ap all_nodes (items_hidden-the_row-KTree-2 ts)

all_of_operand_list : (ts : List KOperand) → sum (nodes_of (hidden-the_row-KOperand-1 ts)) ≡ all_operand_nodes ts
all_of_operand_list ts = all_of_operand_row (hidden-the_row-KOperand-1 ts) ∙ ap all_operand_nodes (items_hidden-the_row-KOperand-1 ts)

module _ {t : KTree} where
  pub nodes_group : (x inside : KTree) → t ≡ Group inside → x ≡ inside → nodes x < nodes t
  unfolding shape-the_row-KTree-0 hidden-the_row-KTree-0 denote.Hole.Carrier.hidden
  nodes_group x inside is same = rw (is, same) (omega arith)

  pub nodes_near : (x y left right : KTree) (n : ℕ) (ordered : Bool) → t ≡ Near left right n ordered → x ≡ left → y ≡ right → nodes x + nodes y < nodes t
  unfolding shape-the_row-KTree-0 hidden-the_row-KTree-0 denote.Hole.Carrier.hidden
  nodes_near x y left right n ordered is first second = rw (is, first, second) (omega arith)

  pub nodes_xrank : (x y matched ranked : KTree) (cb : ℤ) → t ≡ Xrank matched ranked cb → x ≡ matched → y ≡ ranked → nodes x + nodes y < nodes t
  unfolding shape-the_row-KTree-0 hidden-the_row-KTree-0 denote.Hole.Carrier.hidden
  nodes_xrank x y matched ranked cb is first second = rw (is, first, second) (omega arith)

  pub nodes_and : (ts parts : List KTree) → t ≡ And parts → ts ≡ parts → all_nodes ts < nodes t
  nodes_and ts parts is same = rw (is, same) (omega (arith, all_of_list parts))

  pub nodes_or : (ts parts : List KTree) → t ≡ Or parts → ts ≡ parts → all_nodes ts < nodes t
  nodes_or ts parts is same = rw (is, same) (omega (arith, all_of_list parts))

  pub nodes_run : (ts operands : List KOperand) → t ≡ Run operands → ts ≡ operands → all_operand_nodes ts < nodes t
  nodes_run ts operands is same = rw (is, same) (omega (arith, all_of_operand_list operands))

-- the measures of a part, of a list or two parts, of a run, and of a part of each
pub below : (a b t : ℕ) → a < b → 3 * b ≡ t → 3 * a < t
below a b t less is = omega arith

pub below_tree : (a b t : ℕ) → a < b → 3 * b ≡ t → 3 * a + 1 < t
below_tree a b t less is = omega arith

pub run_below : (a b t : ℕ) → a < b → 3 * b ≡ t → 3 * a + 2 < t
run_below a b t less is = omega arith

pub below_list : (a b t : ℕ) → a ≤ b → 3 * b + 1 ≡ t → 3 * a < t
below_list a b t less is = omega arith

pub below_run : (a b t : ℕ) → a ≤ b → 3 * b + 2 ≡ t → 3 * a < t
below_run a b t less is = omega arith

pub first_below : (a b t : ℕ) → 3 * (a + b) + 1 ≡ t → 3 * a < t
first_below a b t is = omega arith

pub second_below : (a b t : ℕ) → 3 * (a + b) + 1 ≡ t → 3 * b < t
second_below a b t is = omega arith
