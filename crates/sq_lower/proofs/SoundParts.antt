-- The parts of a sound tree are sound.
use Rattle.std.proofs.Common.{◌≡◌, ℕ, Bool, List, subst, ℤ}
use Rattle.std.specs.List.{All, AllByRecursion}
use Rattle.std.proofs.lemmas.List.Elements.{All-from_recursion}
use Rattle.sq_schema.specs.declared.property.Property.{Property}
use Rattle.sq_model.specs.KqlSound.{PartsSound, EachSound, SomeSound, EachOperandSound, SomeOperandsSound}
use Rattle.sq_model.specs.declared.kql.KOperand.{KOperand}
use Rattle.sq_model.specs.declared.kql.KTree.{KTree, Group, Near, Run, And, Or, Xrank, Row_of-KTree, end_of-KTree, more_of-KTree, Row_of-KOperand, end_of-KOperand, more_of-KOperand, items-the_row-KTree, items_hidden-the_row-KTree-2, items-the_row-KOperand, items_hidden-the_row-KOperand-1}
use Rattle.sq_model.specs.declared.kql.KTree.TheBlock.{shape-the_row-KTree-0, hidden-the_row-KTree-0, hidden-the_row-KTree-2, hidden-the_row-KOperand-1}

module _ (schema : List Property) where
  abbrev IsSoundOperand : KOperand → Type 0
  IsSoundOperand operand = PartsSound schema operand.tree

  each_of_row : {m : _} (row : Row_of-KTree m) → EachSound schema row → AllByRecursion (PartsSound schema) (items-the_row-KTree m row)
  each_of_row end_of-KTree sound = tt
  each_of_row (more_of-KTree part rest) sound = (sound.0, each_of_row rest sound.1)

  some_of_row : {m : _} (row : Row_of-KTree m) → SomeSound schema row → AllByRecursion (PartsSound schema) (items-the_row-KTree m row)
  some_of_row end_of-KTree sound = absurd sound
  some_of_row (more_of-KTree part rest) sound = (sound.0, each_of_row rest sound.1)

  of_list : (parts : List KTree) → SomeSound schema (hidden-the_row-KTree-2 parts) → All (PartsSound schema) parts
  of_list parts sound =
      All-from_recursion (PartsSound schema) parts
      (subst (AllByRecursion (PartsSound schema)) (items_hidden-the_row-KTree-2 parts) (some_of_row (hidden-the_row-KTree-2 parts) sound))

  each_operand : {m : _} (row : Row_of-KOperand m) → EachOperandSound schema row → AllByRecursion IsSoundOperand (items-the_row-KOperand m row)
  each_operand end_of-KOperand sound = tt
  each_operand (more_of-KOperand sign tree rest) sound = (sound.0, each_operand rest sound.1)

  some_operand : {m : _} (row : Row_of-KOperand m) → SomeOperandsSound schema row → AllByRecursion IsSoundOperand (items-the_row-KOperand m row)
  some_operand end_of-KOperand sound = absurd sound
  some_operand (more_of-KOperand sign tree rest) sound = (sound.0, each_operand rest sound.1)

  module _ {t : KTree} where
    pub sound_group : (inside : KTree) → t ≡ Group inside → PartsSound schema t → PartsSound schema inside
    unfolding shape-the_row-KTree-0 hidden-the_row-KTree-0 denote.Hole.Carrier.hidden
    sound_group inside is sound = (subst (PartsSound schema) is sound).0

    pub sound_left : (left right : KTree) (n : ℕ) (ordered : Bool) → t ≡ Near left right n ordered → PartsSound schema t → PartsSound schema left
    unfolding shape-the_row-KTree-0 hidden-the_row-KTree-0 denote.Hole.Carrier.hidden
    sound_left left right n ordered is sound = (subst (PartsSound schema) is sound).0.0

    pub sound_right : (left right : KTree) (n : ℕ) (ordered : Bool) → t ≡ Near left right n ordered → PartsSound schema t → PartsSound schema right
    unfolding shape-the_row-KTree-0 hidden-the_row-KTree-0 denote.Hole.Carrier.hidden
    sound_right left right n ordered is sound = (subst (PartsSound schema) is sound).1.0

    pub sound_matched : (matched ranked : KTree) (cb : ℤ) → t ≡ Xrank matched ranked cb → PartsSound schema t → PartsSound schema matched
    unfolding shape-the_row-KTree-0 hidden-the_row-KTree-0 denote.Hole.Carrier.hidden
    sound_matched matched ranked cb is sound = (subst (PartsSound schema) is sound).0.0

    pub sound_ranked : (matched ranked : KTree) (cb : ℤ) → t ≡ Xrank matched ranked cb → PartsSound schema t → PartsSound schema ranked
    unfolding shape-the_row-KTree-0 hidden-the_row-KTree-0 denote.Hole.Carrier.hidden
    sound_ranked matched ranked cb is sound = (subst (PartsSound schema) is sound).1.0

    pub sound_and : (parts : List KTree) → t ≡ And parts → PartsSound schema t → All (PartsSound schema) parts
    sound_and parts is sound = of_list parts (subst (PartsSound schema) is sound)

    pub sound_or : (parts : List KTree) → t ≡ Or parts → PartsSound schema t → All (PartsSound schema) parts
    sound_or parts is sound = of_list parts (subst (PartsSound schema) is sound)

    pub sound_run : (operands : List KOperand) → t ≡ Run operands → PartsSound schema t → All (λ operand. PartsSound schema operand.tree) operands
    sound_run operands is sound =
        All-from_recursion IsSoundOperand operands
        (subst (AllByRecursion IsSoundOperand) (items_hidden-the_row-KOperand-1 operands)
        (some_operand (hidden-the_row-KOperand-1 operands) (subst (PartsSound schema) is sound)))
