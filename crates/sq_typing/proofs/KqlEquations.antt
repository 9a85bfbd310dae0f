-- Typing by the parts of a tree as a list, as code meets them.
use Rattle.std.proofs.Common.{◌≡◌, ℕ, Bool, List, ◌∷◌, map, refl, ap, ◌∙◌, ℤ}
use Rattle.sq_schema.specs.declared.property.Property.{Property}
use Rattle.sq_model.specs.declared.kql.KTree.TheVariants as tree
use Rattle.sq_kql.specs.declared.raw.KRawOperand.{KRawOperand}
use Rattle.sq_kql.specs.declared.raw.KRaw.{KRaw, Group, Near, Run, And, Or, Xrank, Row_of-KRaw, end_of-KRaw, more_of-KRaw, Row_of-KRawOperand, end_of-KRawOperand, more_of-KRawOperand, items-the_row-KRaw, items_hidden-the_row-KRaw-2, items-the_row-KRawOperand, items_hidden-the_row-KRawOperand-1}
use Rattle.sq_kql.specs.declared.raw.KRaw.TheBlock.{shape-the_row-KRaw-0, hidden-the_row-KRaw-0, hidden-the_row-KRaw-2, hidden-the_row-KRawOperand-1}
use Rattle.sq_typing.specs.Together.{mapped, together, all_of}
use Rattle.sq_typing.specs.Kql.{proximate, proximate_each, few_copies, typed, typed_each, typed_operands, typed_operand}

module _ (schema : List Property) where
  proximate_of_row : {m : _} (row : Row_of-KRaw m) → proximate_each schema row ≡ map (proximate schema) (items-the_row-KRaw m row)
  proximate_of_row end_of-KRaw = refl
  proximate_of_row (more_of-KRaw part rest) = ap (λ r. proximate schema part ∷ r) (proximate_of_row rest)

  proximate_of_list : (parts : List KRaw) → proximate_each schema (hidden-the_row-KRaw-2 parts) ≡ map (proximate schema) parts
  proximate_of_list parts = proximate_of_row (hidden-the_row-KRaw-2 parts) ∙ ap (map (proximate schema)) (items_hidden-the_row-KRaw-2 parts)

  pub proximate_group : (at : ℕ) (inside : KRaw) → proximate schema (Group at inside) ≡ mapped tree.Group (proximate schema inside)
  unfolding shape-the_row-KRaw-0 hidden-the_row-KRaw-0 denote.Hole.Carrier.hidden
  proximate_group at inside = refl

  pub proximate_near : (at : ℕ) (left right : KRaw) (n : ℕ) (ordered : Bool) →
      proximate schema (Near at left right n ordered) ≡ together (λ l r. tree.Near l r n ordered) (proximate schema left) (proximate schema right)
  unfolding shape-the_row-KRaw-0 hidden-the_row-KRaw-0 denote.Hole.Carrier.hidden
  proximate_near at left right n ordered = refl

  pub proximate_or : (at : ℕ) (parts : List KRaw) → proximate schema (Or at parts) ≡ mapped tree.Or (all_of (map (proximate schema) parts))
  proximate_or at parts = ap (λ r. mapped tree.Or (all_of r)) (proximate_of_list parts)

pub ruleset proximate_rules = (proximate_group, proximate_near, proximate_or)

module _ (schema : List Property) (now : ℤ) where
  typed_of_row : {m : _} (row : Row_of-KRaw m) → typed_each schema now row ≡ map (typed schema now) (items-the_row-KRaw m row)
  typed_of_row end_of-KRaw = refl
  typed_of_row (more_of-KRaw part rest) = ap (λ r. typed schema now part ∷ r) (typed_of_row rest)

  typed_of_list : (parts : List KRaw) → typed_each schema now (hidden-the_row-KRaw-2 parts) ≡ map (typed schema now) parts
  typed_of_list parts = typed_of_row (hidden-the_row-KRaw-2 parts) ∙ ap (map (typed schema now)) (items_hidden-the_row-KRaw-2 parts)

  operands_of_row : {m : _} (row : Row_of-KRawOperand m) → typed_operands schema now row ≡ map (typed_operand schema now) (items-the_row-KRawOperand m row)
  operands_of_row end_of-KRawOperand = refl
  operands_of_row (more_of-KRawOperand sign at part rest) =
      ap (λ r. typed_operand schema now (record { sign = sign; at = at; tree = part }) ∷ r) (operands_of_row rest)

  operands_of_list : (operands : List KRawOperand) → typed_operands schema now (hidden-the_row-KRawOperand-1 operands) ≡ map (typed_operand schema now) operands
  operands_of_list operands =
      operands_of_row (hidden-the_row-KRawOperand-1 operands) ∙ ap (map (typed_operand schema now)) (items_hidden-the_row-KRawOperand-1 operands)

  pub typed_group : (at : ℕ) (inside : KRaw) → typed schema now (Group at inside) ≡ mapped tree.Group (typed schema now inside)
  unfolding shape-the_row-KRaw-0 hidden-the_row-KRaw-0 denote.Hole.Carrier.hidden
  typed_group at inside = refl

  pub typed_near : (at : ℕ) (left right : KRaw) (n : ℕ) (ordered : Bool) →
      typed schema now (Near at left right n ordered) ≡ few_copies at (proximate schema (Near at left right n ordered))
  typed_near at left right n ordered = refl

  pub typed_run : (at : ℕ) (operands : List KRawOperand) → typed schema now (Run at operands) ≡ mapped tree.Run (all_of (map (typed_operand schema now) operands))
  typed_run at operands = ap (λ r. mapped tree.Run (all_of r)) (operands_of_list operands)

  pub typed_and : (at : ℕ) (parts : List KRaw) → typed schema now (And at parts) ≡ mapped tree.And (all_of (map (typed schema now) parts))
  typed_and at parts = ap (λ r. mapped tree.And (all_of r)) (typed_of_list parts)

  pub typed_or : (at : ℕ) (parts : List KRaw) → typed schema now (Or at parts) ≡ mapped tree.Or (all_of (map (typed schema now) parts))
  typed_or at parts = ap (λ r. mapped tree.Or (all_of r)) (typed_of_list parts)

  pub typed_xrank : (at : ℕ) (matched ranked : KRaw) (cb : ℤ) →
      typed schema now (Xrank at matched ranked cb) ≡ together (λ m r. tree.Xrank m r cb) (typed schema now matched) (typed schema now ranked)
  unfolding shape-the_row-KRaw-0 hidden-the_row-KRaw-0 denote.Hole.Carrier.hidden
  typed_xrank at matched ranked cb = refl

pub ruleset typed_rules = (typed_group, typed_near, typed_run, typed_and, typed_or, typed_xrank)
