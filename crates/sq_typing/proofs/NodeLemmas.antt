-- A part of a tree has fewer nodes than the tree: why typing ends.
use Rattle.std.proofs.Common.{◌≡◌, ℕ, zero, suc, ◌+◌, ◌*◌, ◌<◌, ◌≤◌, Bool, List, [], ◌∷◌, length, get_or, refl, ap, ◌∙◌, arith, ℤ}
use Rattle.sq_kql.specs.declared.raw.KRawOperand.{KRawOperand}
use Rattle.sq_kql.specs.declared.raw.KRaw.{KRaw, Group, Near, Run, And, Or, Xrank, Row_of-KRaw, end_of-KRaw, more_of-KRaw, Row_of-KRawOperand, end_of-KRawOperand, more_of-KRawOperand, items-the_row-KRaw, items_hidden-the_row-KRaw-2, items-the_row-KRawOperand, items_hidden-the_row-KRawOperand-1}
use Rattle.sq_kql.specs.declared.raw.KRaw.TheBlock.{shape-the_row-KRaw-0, hidden-the_row-KRaw-0, hidden-the_row-KRaw-2, hidden-the_row-KRawOperand-1}
use Rattle.sq_kql.specs.WellFormed.{nodes, nodes_each, operand_nodes}

-- the nodes of trees, and of operands
abbrev pub all_nodes : List KRaw → ℕ
all_nodes [] = 0
all_nodes (t ∷ ts) = nodes t + all_nodes ts

abbrev pub all_operand_nodes : List KRawOperand → ℕ
all_operand_nodes [] = 0
all_operand_nodes (operand ∷ operands) = nodes operand.tree + all_operand_nodes operands

all_of_row : {m : _} (row : Row_of-KRaw m) → nodes_each row ≡ all_nodes (items-the_row-KRaw m row)
all_of_row end_of-KRaw = refl
all_of_row (more_of-KRaw part rest) = ap (λ n. nodes part + n) (all_of_row rest)

all_of_operand_row : {m : _} (row : Row_of-KRawOperand m) → operand_nodes row ≡ all_operand_nodes (items-the_row-KRawOperand m row)
all_of_operand_row end_of-KRawOperand = refl
all_of_operand_row (more_of-KRawOperand sign at part rest) = ap (λ n. nodes part + n) (all_of_operand_row rest)

pub at_most_all : (ts : List KRaw) (i : ℕ) (t : KRaw) → i < length ts → t ≡ get_or ts i t → nodes t ≤ all_nodes ts
at_most_all [] i t within is = omega arith
at_most_all (u ∷ us) zero t within is = let e = ap nodes is in omega arith
at_most_all (u ∷ us) (suc i) t within is = omega (arith, at_most_all us i t (omega arith) is)

pub at_most_all_operands : (ts : List KRawOperand) (i : ℕ) (t : KRawOperand) → i < length ts → t ≡ get_or ts i t → nodes t.tree ≤ all_operand_nodes ts
at_most_all_operands [] i t within is = omega arith
at_most_all_operands (u ∷ us) zero t within is = let e = ap (λ operand. nodes operand.tree) is in omega arith
at_most_all_operands (u ∷ us) (suc i) t within is = omega (arith, at_most_all_operands us i t (omega arith) is)

all_of_list : (ts : List KRaw) → nodes_each (hidden-the_row-KRaw-2 ts) ≡ all_nodes ts
all_of_list ts = all_of_row (hidden-the_row-KRaw-2 ts) ∙ ap all_nodes (items_hidden-the_row-KRaw-2 ts)

all_of_operand_list : (ts : List KRawOperand) → operand_nodes (hidden-the_row-KRawOperand-1 ts) ≡ all_operand_nodes ts
all_of_operand_list ts = all_of_operand_row (hidden-the_row-KRawOperand-1 ts) ∙ ap all_operand_nodes (items_hidden-the_row-KRawOperand-1 ts)

module _ {t : KRaw} where
  pub nodes_group : (x : KRaw) (at : ℕ) (inside : KRaw) → t ≡ Group at inside → x ≡ inside → nodes x < nodes t
  unfolding shape-the_row-KRaw-0 hidden-the_row-KRaw-0 denote.Hole.Carrier.hidden
  nodes_group x at inside is same = rw (is, same) (omega arith)

  pub nodes_both : (x y : KRaw) (at : ℕ) (left right : KRaw) (n : ℕ) (ordered : Bool) → t ≡ Near at left right n ordered → x ≡ left → y ≡ right → nodes x + nodes y < nodes t
  unfolding shape-the_row-KRaw-0 hidden-the_row-KRaw-0 denote.Hole.Carrier.hidden
  nodes_both x y at left right n ordered is same also = rw (is, same, also) (omega arith)

  pub nodes_matched : (x : KRaw) (at : ℕ) (matched ranked : KRaw) (cb : ℤ) → t ≡ Xrank at matched ranked cb → x ≡ matched → nodes x < nodes t
  unfolding shape-the_row-KRaw-0 hidden-the_row-KRaw-0 denote.Hole.Carrier.hidden
  nodes_matched x at matched ranked cb is same = rw (is, same) (omega arith)

  pub nodes_ranked : (x : KRaw) (at : ℕ) (matched ranked : KRaw) (cb : ℤ) → t ≡ Xrank at matched ranked cb → x ≡ ranked → nodes x < nodes t
  unfolding shape-the_row-KRaw-0 hidden-the_row-KRaw-0 denote.Hole.Carrier.hidden
  nodes_ranked x at matched ranked cb is same = rw (is, same) (omega arith)

  pub nodes_and : (ts : List KRaw) (at : ℕ) (parts : List KRaw) → t ≡ And at parts → ts ≡ parts → all_nodes ts < nodes t
  nodes_and ts at parts is same = rw (is, same) (omega (arith, all_of_list parts))

  pub nodes_or : (ts : List KRaw) (at : ℕ) (parts : List KRaw) → t ≡ Or at parts → ts ≡ parts → all_nodes ts < nodes t
  nodes_or ts at parts is same = rw (is, same) (omega (arith, all_of_list parts))

  pub nodes_run : (ts : List KRawOperand) (at : ℕ) (operands : List KRawOperand) → t ≡ Run at operands → ts ≡ operands → all_operand_nodes ts < nodes t
  nodes_run ts at operands is same = rw (is, same) (omega (arith, all_of_operand_list operands))

-- a part's measure, a list's, and that of a part of a list
pub below : (a b t : ℕ) → a < b → 2 * b ≡ t → 2 * a < t
below a b t less is = omega arith

pub below_tree : (a b t : ℕ) → a < b → 2 * b ≡ t → 2 * a + 1 < t
below_tree a b t less is = omega arith

pub below_list : (a b t : ℕ) → a ≤ b → 2 * b + 1 ≡ t → 2 * a < t
below_list a b t less is = omega arith

-- the same inside NEAR, where each way has a function more
pub thrice_below : (a b t : ℕ) → a < b → 3 * b ≡ t → (3 * a + 1 < t) × (3 * a + 2 < t)
thrice_below a b t less is = (omega arith, omega arith)

pub thrice_list : (a b t : ℕ) → a ≤ b → 3 * b + 1 ≡ t → 3 * a < t
thrice_list a b t less is = omega arith

-- behind the left of two parts whose measures are taken together, and the right one
pub thrice_left : (a b t : ℕ) → 3 * (a + b) + 2 ≡ t → (3 * a < t) × (3 * (a + b) + 1 < t)
thrice_left a b t is = (omega arith, omega arith)

pub thrice_right : (a b t : ℕ) → 3 * (a + b) + 1 ≡ t → 3 * b < t
thrice_right a b t is = omega arith

pub thrice_one : (a t : ℕ) → 3 * a + 1 ≡ t → 3 * a < t
thrice_one a t is = omega arith

pub thrice_each : (a t : ℕ) → 3 * a + 2 ≡ t → 3 * a + 1 < t
thrice_each a t is = omega arith
