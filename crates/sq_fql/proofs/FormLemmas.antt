-- Well-formed trees by the plain lists of their operands.
use Rattle.std.proofs.Common.{◌≡◌, ℕ, suc, ◌+◌, ◌≤◌, true, List, [], ◌∷◌, ◌++◌, length, refl, sym, subst, ap, ◌∙◌, IfSome, arith}
use Rattle.std.specs.List.{AllByRecursion}
use Rattle.sq_lex.specs.Bytes.{TextBytes}
use Rattle.sq_fql.specs.declared.raw.Op.{Op}
use Rattle.sq_fql.specs.declared.raw.Op.TheVariants as op
use Rattle.sq_fql.specs.declared.raw.FRaw.{FRaw, Row_of-FRaw, end_of-FRaw, more_of-FRaw, items-the_row-FRaw, items_hidden-the_row-FRaw-1}
use Rattle.sq_fql.specs.declared.raw.FRaw.TheVariants as tree
use Rattle.sq_fql.specs.declared.raw.FRaw.TheBlock.{hidden-the_row-FRaw-0, hidden-the_row-FRaw-1}
use Rattle.sq_fql.specs.Operators.{operands_of}
use Rattle.sq_fql.specs.WellFormed.{operator_in, IsWithinLimits, IsName, count, is_literal, AreLiterals, HasForm, HaveForm, bytes, bytes_each, is_xrank, xranks, xranks_each}

abbrev pub IsLiteral : FRaw → Type 0
IsLiteral t = is_literal t ≡ true

-- the bytes of literals and the xranks together
abbrev pub weight : FRaw → ℕ
weight t = bytes t + xranks t

abbrev pub weights : List FRaw → ℕ
weights [] = 0
weights (t ∷ ts) = weight t + weights ts

pub weights-append : (ts : List FRaw) (t : FRaw) → weights (ts ++ t ∷ []) ≡ weights ts + weight t
weights-append [] t = omega arith
weights-append (u ∷ ts) t = let h : weights (ts ++ t ∷ []) ≡ weights ts + weight t = weights-append ts t in omega arith

pub all-append : {X : Type 0} (P : X → Type 0) (xs : List X) (x : X) → AllByRecursion P xs → P x → AllByRecursion P (xs ++ x ∷ [])
all-append P [] x all one = (one, tt)
all-append P (y ∷ ys) x all one = (all.0, all-append P ys x all.1 one)

count_row : {m : _} (row : Row_of-FRaw m) → count row ≡ length (items-the_row-FRaw m row)
count_row end_of-FRaw = refl
count_row (more_of-FRaw part rest) = ap suc (count_row rest)

literals_row : {m : _} (row : Row_of-FRaw m) → AllByRecursion IsLiteral (items-the_row-FRaw m row) → AreLiterals row
literals_row end_of-FRaw all = tt
literals_row (more_of-FRaw part rest) all = (all.0, literals_row rest all.1)

form_row : {m : _} (row : Row_of-FRaw m) → AllByRecursion HasForm (items-the_row-FRaw m row) → HaveForm row
form_row end_of-FRaw all = tt
form_row (more_of-FRaw part rest) all = (all.0, form_row rest all.1)

weight_row : {m : _} (row : Row_of-FRaw m) → bytes_each row + xranks_each row ≡ weights (items-the_row-FRaw m row)
weight_row end_of-FRaw = refl
weight_row (more_of-FRaw part rest) = let h = weight_row rest in omega (arith, h)

module _ (ts : List FRaw) where
  count_list : count (hidden-the_row-FRaw-1 ts) ≡ length ts
  count_list = count_row (hidden-the_row-FRaw-1 ts) ∙ ap length (items_hidden-the_row-FRaw-1 ts)

  weight_list : bytes_each (hidden-the_row-FRaw-1 ts) + xranks_each (hidden-the_row-FRaw-1 ts) ≡ weights ts
  weight_list = weight_row (hidden-the_row-FRaw-1 ts) ∙ ap weights (items_hidden-the_row-FRaw-1 ts)

  literals_list : AllByRecursion IsLiteral ts → AreLiterals (hidden-the_row-FRaw-1 ts)
  literals_list all = let All = λ (l : List FRaw). AllByRecursion IsLiteral l in literals_row (hidden-the_row-FRaw-1 ts) (subst All (sym (items_hidden-the_row-FRaw-1 ts)) all)

  form_list : AllByRecursion HasForm ts → HaveForm (hidden-the_row-FRaw-1 ts)
  form_list all = let All = λ (l : List FRaw). AllByRecursion HasForm l in form_row (hidden-the_row-FRaw-1 ts) (subst All (sym (items_hidden-the_row-FRaw-1 ts)) all)

  pub form_apply : (at : ℕ) (o : Op) → (operands_of (operator_in o)).least ≤ length ts → IfSome (operands_of (operator_in o)).most (λ most. length ts ≤ most)
      → ((operands_of (operator_in o)).literals ≡ true → AllByRecursion IsLiteral ts) → IsWithinLimits o → AllByRecursion HasForm ts → HasForm (tree.Apply at o ts)
  form_apply at o least most literals limits form = (
    record {
      least = rw count_list least;
      most = rw count_list most;
      literals = λ are. literals_list (literals are);
    },
    limits,
    form_list form,
  )

  pub weight_apply : (at : ℕ) (o : Op) → weight (tree.Apply at o ts) ≡ is_xrank o + weights ts
  weight_apply at o = let h = weight_list in omega (arith, h)

module _ (at : ℕ) (name : TextBytes) (t : FRaw) where
  pub form_scope : IsName name → HasForm t → HasForm (tree.Scope at name t)
  unfolding hidden-the_row-FRaw-0 denote.Hole.Carrier.hidden
  form_scope is form = (is, (form, tt))

  pub weight_scope : weight (tree.Scope at name t) ≡ weight t
  unfolding hidden-the_row-FRaw-0 denote.Hole.Carrier.hidden
  weight_scope = omega arith

pub few_xranks : (o : Op) → is_xrank o ≤ 1
few_xranks op.And = omega arith
few_xranks op.Or = omega arith
few_xranks op.Any = omega arith
few_xranks op.AndNot = omega arith
few_xranks op.Not = omega arith
few_xranks (op.Near n) = omega arith
few_xranks (op.Onear n) = omega arith
few_xranks op.Words = omega arith
few_xranks (op.Count from to) = omega arith
few_xranks (op.Range above below) = omega arith
few_xranks op.StartsWith = omega arith
few_xranks op.EndsWith = omega arith
few_xranks op.Equals = omega arith
few_xranks op.Filter = omega arith
few_xranks (op.Str m n) = omega arith
few_xranks op.Int = omega arith
few_xranks op.DateTime = omega arith
few_xranks op.Phrase = omega arith
few_xranks (op.Xrank cb) = omega arith
