-- Well-formed FQL trees, their bytes and their xranks, by their operands as a list, as lowering makes them.
use Rattle.std.proofs.Common.{◌≡◌, ℕ, suc, ◌+◌, ◌≤◌, true, List, [], ◌∷◌, ◌++◌, length, refl, sym, subst, ap, ◌∙◌, IfSome, arith}
use Rattle.std.specs.List.{AllByRecursion}
use Rattle.sq_fql.specs.declared.raw.Op.{Op}
use Rattle.sq_fql.specs.declared.raw.FRaw.{FRaw, Row_of-FRaw, end_of-FRaw, more_of-FRaw, items-the_row-FRaw, items_hidden-the_row-FRaw-1}
use Rattle.sq_fql.specs.declared.raw.FRaw.TheVariants as raw
use Rattle.sq_fql.specs.declared.raw.FRaw.TheBlock.{hidden-the_row-FRaw-0, hidden-the_row-FRaw-1}
use Rattle.sq_fql.specs.Operators.{operands_of}
use Rattle.sq_fql.specs.WellFormed.{operator_in, IsWithinLimits, IsName, count, is_literal, AreLiterals, HasForm, HaveForm, bytes, bytes_each, is_xrank, xranks, xranks_each}

abbrev pub IsLiteral : FRaw → Type 0
IsLiteral t = is_literal t ≡ true

abbrev pub total : (FRaw → ℕ) → List FRaw → ℕ
total weight [] = 0
total weight (t ∷ ts) = weight t + total weight ts

pub total-append : (weight : FRaw → ℕ) (ts us : List FRaw) → total weight (ts ++ us) ≡ total weight ts + total weight us
total-append weight [] us = omega arith
total-append weight (t ∷ ts) us = let h = total-append weight ts us in omega (arith, h)

pub all-append : {X : Type 0} (P : X → Type 0) (xs ys : List X) → AllByRecursion P xs → AllByRecursion P ys → AllByRecursion P (xs ++ ys)
all-append P [] ys all more = more
all-append P (x ∷ xs) ys all more = (all.0, all-append P xs ys all.1 more)

-- there is one, and it holds of all
abbrev pub SomeOf : {X : Type 0} → (X → Type 0) → List X → Type 0
SomeOf P [] = ⊥
SomeOf P (x ∷ xs) = P x × AllByRecursion P xs

count_row : {m : _} (row : Row_of-FRaw m) → count row ≡ length (items-the_row-FRaw m row)
count_row end_of-FRaw = refl
count_row (more_of-FRaw part rest) = ap suc (count_row rest)

literals_row : {m : _} (row : Row_of-FRaw m) → AllByRecursion IsLiteral (items-the_row-FRaw m row) → AreLiterals row
literals_row end_of-FRaw all = tt
literals_row (more_of-FRaw part rest) all = (all.0, literals_row rest all.1)

form_row : {m : _} (row : Row_of-FRaw m) → AllByRecursion HasForm (items-the_row-FRaw m row) → HaveForm row
form_row end_of-FRaw all = tt
form_row (more_of-FRaw part rest) all = (all.0, form_row rest all.1)

bytes_row : {m : _} (row : Row_of-FRaw m) → bytes_each row ≡ total bytes (items-the_row-FRaw m row)
bytes_row end_of-FRaw = refl
bytes_row (more_of-FRaw part rest) = ap (λ n. bytes part + n) (bytes_row rest)

xranks_row : {m : _} (row : Row_of-FRaw m) → xranks_each row ≡ total xranks (items-the_row-FRaw m row)
xranks_row end_of-FRaw = refl
xranks_row (more_of-FRaw part rest) = ap (λ n. xranks part + n) (xranks_row rest)

module _ (at : ℕ) (o : Op) (ts : List FRaw) where
  count_list : count (hidden-the_row-FRaw-1 ts) ≡ length ts
  count_list = count_row (hidden-the_row-FRaw-1 ts) ∙ ap length (items_hidden-the_row-FRaw-1 ts)

  literals_list : AllByRecursion IsLiteral ts → AreLiterals (hidden-the_row-FRaw-1 ts)
  literals_list all =
      let All = λ (l : List FRaw). AllByRecursion IsLiteral l in
      literals_row (hidden-the_row-FRaw-1 ts) (subst All (sym (items_hidden-the_row-FRaw-1 ts)) all)

  form_list : AllByRecursion HasForm ts → HaveForm (hidden-the_row-FRaw-1 ts)
  form_list all =
      let All = λ (l : List FRaw). AllByRecursion HasForm l in
      form_row (hidden-the_row-FRaw-1 ts) (subst All (sym (items_hidden-the_row-FRaw-1 ts)) all)

  pub form_apply : (operands_of (operator_in o)).least ≤ length ts → IfSome (operands_of (operator_in o)).most (λ most. length ts ≤ most)
      → ((operands_of (operator_in o)).literals ≡ true → AllByRecursion IsLiteral ts) → IsWithinLimits o → AllByRecursion HasForm ts → HasForm (raw.Apply at o ts)
  form_apply least most literals limits form = (
    record {
      least = rw count_list least;
      most = rw count_list most;
      literals = λ are. literals_list (literals are);
    },
    limits,
    form_list form,
  )

  pub bytes_apply : bytes (raw.Apply at o ts) ≡ total bytes ts
  bytes_apply = bytes_row (hidden-the_row-FRaw-1 ts) ∙ ap (total bytes) (items_hidden-the_row-FRaw-1 ts)

  pub xranks_apply : xranks (raw.Apply at o ts) ≡ is_xrank o + total xranks ts
  xranks_apply = ap (λ n. is_xrank o + n) (xranks_row (hidden-the_row-FRaw-1 ts) ∙ ap (total xranks) (items_hidden-the_row-FRaw-1 ts))

module _ (at : ℕ) (name : List ℕ) (t : FRaw) where
  pub form_scope : IsName name → HasForm t → HasForm (raw.Scope at name t)
  unfolding hidden-the_row-FRaw-0 denote.Hole.Carrier.hidden
  form_scope is form = (is, (form, tt))

  pub bytes_scope : bytes (raw.Scope at name t) ≡ bytes t
  unfolding hidden-the_row-FRaw-0 denote.Hole.Carrier.hidden
  bytes_scope = omega arith

  pub xranks_scope : xranks (raw.Scope at name t) ≡ xranks t
  unfolding hidden-the_row-FRaw-0 denote.Hole.Carrier.hidden
  xranks_scope = omega arith
