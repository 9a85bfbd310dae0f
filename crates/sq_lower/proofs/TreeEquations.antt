-- Lowering by the parts of a tree as a list, as code meets them.
use Rattle.std.proofs.Common.{◌≡◌, ℕ, Bool, List, [], ◌∷◌, map, refl, ap, ap₂, sym, ◌∙◌, ℤ}
use Rattle.sq_schema.specs.declared.property.Property.{Property}
use Rattle.sq_model.specs.declared.kql.Joiner.{Joiner}
use Rattle.sq_model.specs.declared.kql.KOperand.{KOperand}
use Rattle.sq_model.specs.declared.kql.KTree.{KTree, Group, Near, Run, And, Or, Xrank, Row_of-KTree, end_of-KTree, more_of-KTree, Row_of-KOperand, end_of-KOperand, more_of-KOperand, items-the_row-KTree, items_hidden-the_row-KTree-2, items-the_row-KOperand, items_hidden-the_row-KOperand-1}
use Rattle.sq_model.specs.declared.kql.KTree.TheBlock.{shape-the_row-KTree-0, hidden-the_row-KTree-0, hidden-the_row-KTree-2, hidden-the_row-KOperand-1}
use Rattle.sq_fql.specs.declared.raw.FRaw.{FRaw}
use Rattle.sq_fql.specs.declared.raw.Op.TheVariants as op
use Rattle.sq_lower.specs.Runs.{run_form}
use Rattle.sq_lower.specs.Lowered.{apply, near, raw_connectives, lowered, lowered_each, forms, operand_form}

module _ (schema : List Property) (joiner : Joiner) where
  lowered_of_row : {m : _} (row : Row_of-KTree m) → lowered_each schema joiner row ≡ map (lowered schema joiner) (items-the_row-KTree m row)
  lowered_of_row end_of-KTree = refl
  lowered_of_row (more_of-KTree part rest) = ap (λ r. lowered schema joiner part ∷ r) (lowered_of_row rest)

  lowered_of_list : (parts : List KTree) → lowered_each schema joiner (hidden-the_row-KTree-2 parts) ≡ map (lowered schema joiner) parts
  lowered_of_list parts = lowered_of_row (hidden-the_row-KTree-2 parts) ∙ ap (map (lowered schema joiner)) (items_hidden-the_row-KTree-2 parts)

  forms_of_row : {m : _} (row : Row_of-KOperand m) → forms schema joiner row ≡ map (operand_form schema joiner) (items-the_row-KOperand m row)
  forms_of_row end_of-KOperand = refl
  forms_of_row (more_of-KOperand sign tree rest) = ap (λ r. operand_form schema joiner (record { sign = sign; tree = tree }) ∷ r) (forms_of_row rest)

  forms_of_list : (operands : List KOperand) → forms schema joiner (hidden-the_row-KOperand-1 operands) ≡ map (operand_form schema joiner) operands
  forms_of_list operands = forms_of_row (hidden-the_row-KOperand-1 operands) ∙ ap (map (operand_form schema joiner)) (items_hidden-the_row-KOperand-1 operands)

  pub lowered_group : (inside : KTree) → lowered schema joiner (Group inside) ≡ lowered schema joiner inside
  unfolding shape-the_row-KTree-0 hidden-the_row-KTree-0 denote.Hole.Carrier.hidden
  lowered_group inside = refl

  pub lowered_near : (left right : KTree) (n : ℕ) (ordered : Bool) →
      lowered schema joiner (Near left right n ordered) ≡ near n ordered (lowered schema joiner left ∷ lowered schema joiner right ∷ [])
  unfolding shape-the_row-KTree-0 hidden-the_row-KTree-0 denote.Hole.Carrier.hidden
  lowered_near left right n ordered = refl

  pub lowered_run : (operands : List KOperand) → lowered schema joiner (Run operands) ≡ run_form raw_connectives joiner (map (operand_form schema joiner) operands)
  lowered_run operands = ap (run_form raw_connectives joiner) (forms_of_list operands)

  pub lowered_and : (parts : List KTree) → lowered schema joiner (And parts) ≡ apply op.And (map (lowered schema joiner) parts)
  lowered_and parts = ap (apply op.And) (lowered_of_list parts)

  pub lowered_or : (parts : List KTree) → lowered schema joiner (Or parts) ≡ apply op.Or (map (lowered schema joiner) parts)
  lowered_or parts = ap (apply op.Or) (lowered_of_list parts)

  pub lowered_xrank : (matched ranked : KTree) (cb : ℤ) →
      lowered schema joiner (Xrank matched ranked cb) ≡ apply (op.Xrank cb) (lowered schema joiner matched ∷ lowered schema joiner ranked ∷ [])
  unfolding shape-the_row-KTree-0 hidden-the_row-KTree-0 denote.Hole.Carrier.hidden
  lowered_xrank matched ranked cb = refl

-- a tree of two parts, from parts that are these
pub near_again : (t x y left right : KTree) (n : ℕ) (ordered : Bool) → t ≡ Near left right n ordered → x ≡ left → y ≡ right → Near x y n ordered ≡ t
near_again t x y left right n ordered is first second = ap₂ (λ l r. Near l r n ordered) first second ∙ sym is

pub xrank_again : (t x y matched ranked : KTree) (cb read : ℤ) → t ≡ Xrank matched ranked cb → x ≡ matched → y ≡ ranked → read ≡ cb → Xrank x y read ≡ t
xrank_again t x y matched ranked cb read is first second same = ap₂ (λ l r. Xrank l r read) first second ∙ (ap (λ b. Xrank matched ranked b) same ∙ sym is)

pub ruleset lowered_rules = (lowered_group, lowered_near, lowered_run, lowered_and, lowered_or, lowered_xrank)
