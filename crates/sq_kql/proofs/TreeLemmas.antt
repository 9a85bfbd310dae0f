-- The form, the bytes and the nodes of a tree by its parts as a list.
use Rattle.std.proofs.Common.{◌≡◌, ℕ, ◌+◌, ◌≤◌, ℤ, Bool, List, length, refl, sym, subst, ap, ◌∙◌, arith}
use Rattle.std.proofs.lemmas.List.Sums.{sum_by-cons}
use Rattle.std.specs.Prelude.{unsigned_abs}
use Rattle.std.specs.List.{AllByRecursion, sum_by}
use Rattle.sq_kql.specs.declared.raw.RawSign.{RawSign}
use Rattle.sq_kql.specs.declared.raw.KRawOperand.{KRawOperand}
use Rattle.sq_kql.specs.declared.raw.KRaw.{KRaw, Row_of-KRaw, end_of-KRaw, more_of-KRaw, Row_of-KRawOperand, end_of-KRawOperand, more_of-KRawOperand, items-the_row-KRaw, items_hidden-the_row-KRaw-2, items-the_row-KRawOperand, items_hidden-the_row-KRawOperand-1}
use Rattle.sq_kql.specs.declared.raw.KRaw.TheVariants as tree
use Rattle.sq_kql.specs.declared.raw.KRaw.TheBlock.{shape-the_row-KRaw-0, hidden-the_row-KRaw-0, hidden-the_row-KRaw-2, hidden-the_row-KRawOperand-1}
use Rattle.sq_kql.specs.Node.{operand_of}
use Rattle.sq_kql.specs.WellFormed.{AreSome, AreSomeOperands, HasForm, HaveForm, OperandsHaveForm, bytes, bytes_each, operand_bytes, nodes, nodes_each, operand_nodes}

-- ---- parts

form_row : {m : _} (row : Row_of-KRaw m) → AllByRecursion HasForm (items-the_row-KRaw m row) → HaveForm row
form_row end_of-KRaw each = tt
form_row (more_of-KRaw part rest) each = (each.0, form_row rest each.1)

some_row : {m : _} (row : Row_of-KRaw m) → 1 ≤ length (items-the_row-KRaw m row) → AreSome row
some_row end_of-KRaw some = absurd (omega (arith, some))
some_row (more_of-KRaw part rest) some = tt

bytes_row : {m : _} (row : Row_of-KRaw m) → bytes_each row ≡ sum_by bytes (items-the_row-KRaw m row)
bytes_row end_of-KRaw = refl
bytes_row (more_of-KRaw part rest) = ap (λ n. bytes part + n) (bytes_row rest) ∙ sym (sum_by-cons bytes part (items-the_row-KRaw _ rest))

nodes_row : {m : _} (row : Row_of-KRaw m) → nodes_each row ≡ sum_by nodes (items-the_row-KRaw m row)
nodes_row end_of-KRaw = refl
nodes_row (more_of-KRaw part rest) = ap (λ n. nodes part + n) (nodes_row rest) ∙ sym (sum_by-cons nodes part (items-the_row-KRaw _ rest))

parts_form : (ts : List KRaw) → 1 ≤ length ts → AllByRecursion HasForm ts → AreSome (hidden-the_row-KRaw-2 ts) × HaveForm (hidden-the_row-KRaw-2 ts)
parts_form ts some each =
    let row = hidden-the_row-KRaw-2 ts in
    let is = sym (items_hidden-the_row-KRaw-2 ts) in
    let Some : List KRaw → Type 0 = λ l. 1 ≤ length l in
    (some_row row (subst Some is some), form_row row (subst (AllByRecursion HasForm) is each))

pub and_form : (at : ℕ) (ts : List KRaw) → 1 ≤ length ts → AllByRecursion HasForm ts → HasForm (tree.And at ts)
and_form at ts some each = parts_form ts some each

pub or_form : (at : ℕ) (ts : List KRaw) → 1 ≤ length ts → AllByRecursion HasForm ts → HasForm (tree.Or at ts)
or_form at ts some each = parts_form ts some each

pub and_bytes : (at : ℕ) (ts : List KRaw) → bytes (tree.And at ts) ≡ sum_by bytes ts
and_bytes at ts = bytes_row (hidden-the_row-KRaw-2 ts) ∙ ap (sum_by bytes) (items_hidden-the_row-KRaw-2 ts)

pub or_bytes : (at : ℕ) (ts : List KRaw) → bytes (tree.Or at ts) ≡ sum_by bytes ts
or_bytes at ts = bytes_row (hidden-the_row-KRaw-2 ts) ∙ ap (sum_by bytes) (items_hidden-the_row-KRaw-2 ts)

pub and_nodes : (at : ℕ) (ts : List KRaw) → nodes (tree.And at ts) ≡ 1 + sum_by nodes ts
and_nodes at ts = ap (λ n. 1 + n) (nodes_row (hidden-the_row-KRaw-2 ts) ∙ ap (sum_by nodes) (items_hidden-the_row-KRaw-2 ts))

pub or_nodes : (at : ℕ) (ts : List KRaw) → nodes (tree.Or at ts) ≡ 1 + sum_by nodes ts
or_nodes at ts = ap (λ n. 1 + n) (nodes_row (hidden-the_row-KRaw-2 ts) ∙ ap (sum_by nodes) (items_hidden-the_row-KRaw-2 ts))

-- ---- operands

abbrev pub OperandHasForm : KRawOperand → Type 0
OperandHasForm o = HasForm o.tree

abbrev pub bytes_of : KRawOperand → ℕ
bytes_of o = bytes o.tree

abbrev pub nodes_of : KRawOperand → ℕ
nodes_of o = nodes o.tree

pub operand_tree : (s : RawSign) (at : ℕ) (t : KRaw) → (operand_of s at t).tree ≡ t
operand_tree s at t = refl

operands_row : {m : _} (row : Row_of-KRawOperand m) → AllByRecursion OperandHasForm (items-the_row-KRawOperand m row) → OperandsHaveForm row
operands_row end_of-KRawOperand each = tt
operands_row (more_of-KRawOperand sign at tree rest) each = (each.0, operands_row rest each.1)

some_operands_row : {m : _} (row : Row_of-KRawOperand m) → 1 ≤ length (items-the_row-KRawOperand m row) → AreSomeOperands row
some_operands_row end_of-KRawOperand some = absurd (omega (arith, some))
some_operands_row (more_of-KRawOperand sign at tree rest) some = tt

operand_bytes_row : {m : _} (row : Row_of-KRawOperand m) → operand_bytes row ≡ sum_by bytes_of (items-the_row-KRawOperand m row)
operand_bytes_row end_of-KRawOperand = refl
operand_bytes_row (more_of-KRawOperand sign at tree rest) =
    ap (λ n. bytes tree + n) (operand_bytes_row rest) ∙ sym (sum_by-cons bytes_of (operand_of sign at tree) (items-the_row-KRawOperand _ rest))

operand_nodes_row : {m : _} (row : Row_of-KRawOperand m) → operand_nodes row ≡ sum_by nodes_of (items-the_row-KRawOperand m row)
operand_nodes_row end_of-KRawOperand = refl
operand_nodes_row (more_of-KRawOperand sign at tree rest) =
    ap (λ n. nodes tree + n) (operand_nodes_row rest) ∙ sym (sum_by-cons nodes_of (operand_of sign at tree) (items-the_row-KRawOperand _ rest))

pub run_form : (at : ℕ) (os : List KRawOperand) → 1 ≤ length os → AllByRecursion OperandHasForm os → HasForm (tree.Run at os)
run_form at os some each =
    let row = hidden-the_row-KRawOperand-1 os in
    let is = sym (items_hidden-the_row-KRawOperand-1 os) in
    let Some : List KRawOperand → Type 0 = λ l. 1 ≤ length l in
    (some_operands_row row (subst Some is some), operands_row row (subst (AllByRecursion OperandHasForm) is each))

pub run_bytes : (at : ℕ) (os : List KRawOperand) → bytes (tree.Run at os) ≡ sum_by bytes_of os
run_bytes at os = operand_bytes_row (hidden-the_row-KRawOperand-1 os) ∙ ap (sum_by bytes_of) (items_hidden-the_row-KRawOperand-1 os)

pub run_nodes : (at : ℕ) (os : List KRawOperand) → nodes (tree.Run at os) ≡ 1 + sum_by nodes_of os
run_nodes at os = ap (λ n. 1 + n) (operand_nodes_row (hidden-the_row-KRawOperand-1 os) ∙ ap (sum_by nodes_of) (items_hidden-the_row-KRawOperand-1 os))

-- ---- boxes

pub group_form : (at : ℕ) (t : KRaw) → HasForm t → HasForm (tree.Group at t)
unfolding shape-the_row-KRaw-0 hidden-the_row-KRaw-0 denote.Hole.Carrier.hidden
group_form at t form = (form, tt)

pub group_bytes : (at : ℕ) (t : KRaw) → bytes (tree.Group at t) ≡ bytes t
unfolding shape-the_row-KRaw-0 hidden-the_row-KRaw-0 denote.Hole.Carrier.hidden
group_bytes at t = omega arith

pub group_nodes : (at : ℕ) (t : KRaw) → nodes (tree.Group at t) ≡ 1 + nodes t
unfolding shape-the_row-KRaw-0 hidden-the_row-KRaw-0 denote.Hole.Carrier.hidden
group_nodes at t = omega arith

pub near_form : (at : ℕ) (t u : KRaw) (n : ℕ) (ordered : Bool) → HasForm t → HasForm u → n ≤ 1000 → HasForm (tree.Near at t u n ordered)
unfolding shape-the_row-KRaw-0 hidden-the_row-KRaw-0 denote.Hole.Carrier.hidden
near_form at t u n ordered left right within = ((left, tt), (right, tt), within)

pub near_bytes : (at : ℕ) (t u : KRaw) (n : ℕ) (ordered : Bool) → bytes (tree.Near at t u n ordered) ≡ bytes t + bytes u
unfolding shape-the_row-KRaw-0 hidden-the_row-KRaw-0 denote.Hole.Carrier.hidden
near_bytes at t u n ordered = omega arith

pub near_nodes : (at : ℕ) (t u : KRaw) (n : ℕ) (ordered : Bool) → nodes (tree.Near at t u n ordered) ≡ 1 + nodes t + nodes u
unfolding shape-the_row-KRaw-0 hidden-the_row-KRaw-0 denote.Hole.Carrier.hidden
near_nodes at t u n ordered = omega arith

pub xrank_form : (at : ℕ) (t u : KRaw) (cb : ℤ) → HasForm t → HasForm u → unsigned_abs cb ≤ 1_000_000 → HasForm (tree.Xrank at t u cb)
unfolding shape-the_row-KRaw-0 hidden-the_row-KRaw-0 denote.Hole.Carrier.hidden
xrank_form at t u cb left right within = ((left, tt), (right, tt), within)

pub xrank_bytes : (at : ℕ) (t u : KRaw) (cb : ℤ) → bytes (tree.Xrank at t u cb) ≡ bytes t + bytes u
unfolding shape-the_row-KRaw-0 hidden-the_row-KRaw-0 denote.Hole.Carrier.hidden
xrank_bytes at t u cb = omega arith

pub xrank_nodes : (at : ℕ) (t u : KRaw) (cb : ℤ) → nodes (tree.Xrank at t u cb) ≡ 1 + nodes t + nodes u
unfolding shape-the_row-KRaw-0 hidden-the_row-KRaw-0 denote.Hole.Carrier.hidden
xrank_nodes at t u cb = omega arith
