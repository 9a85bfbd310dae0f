-- The meanings of a KQL tree by its parts as a list, as code meets them.
use Rattle.std.proofs.Common.{◌≡◌, ℕ, Bool, true, false, ◌&&◌, ◌||◌, List, [], ◌∷◌, map, refl, ap, ◌∙◌}
use Rattle.std.proofs.lemmas.List.{append-nil}
use Rattle.std.specs.List.{list_any, list_all}
use Rattle.std.specs.Prelude.{ℤ, pos, ◌+ℤ◌, if◌then◌else◌}
use Rattle.sq_model.specs.Passages.{Passage}
use Rattle.sq_model.specs.Lists.{joined, total}
use Rattle.sq_model.specs.Triples.{near}
use Rattle.sq_model.specs.Kql.{triples, triples_each, holds, holds_each, judged, judge, run_holds, somewhere, gain, boosts, boost, operand_boosts, operand_boost}
use Rattle.sq_model.specs.declared.corpus.Value.{Value}
use Rattle.sq_schema.specs.declared.property.Property.{Property}
use Rattle.sq_model.specs.declared.kql.Joiner.{Joiner}
use Rattle.sq_model.specs.declared.kql.KOperand.{KOperand}
use Rattle.sq_model.specs.declared.kql.KTree.{KTree, Group, Near, Run, And, Or, Xrank, Row_of-KTree, end_of-KTree, more_of-KTree, Row_of-KOperand, end_of-KOperand, more_of-KOperand, items-the_row-KTree, items_hidden-the_row-KTree-2, items-the_row-KOperand, items_hidden-the_row-KOperand-1}
use Rattle.sq_model.specs.declared.kql.KTree.TheBlock.{shape-the_row-KTree-0, hidden-the_row-KTree-0, hidden-the_row-KTree-2, hidden-the_row-KOperand-1}

or-false : (b : Bool) → (b || false) ≡ b
or-false true = refl
or-false false = refl

triples_of_row : {m : _} (passage : Passage) (row : Row_of-KTree m) → triples_each passage row ≡ map (triples passage) (items-the_row-KTree m row)
triples_of_row passage end_of-KTree = refl
triples_of_row passage (more_of-KTree part rest) = ap (λ r. triples passage part ∷ r) (triples_of_row passage rest)

triples_of_list : (passage : Passage) (parts : List KTree) → triples_each passage (hidden-the_row-KTree-2 parts) ≡ map (triples passage) parts
triples_of_list passage parts =
    triples_of_row passage (hidden-the_row-KTree-2 parts) ∙ ap (map (triples passage)) (items_hidden-the_row-KTree-2 parts)

pub ktriples_or : (passage : Passage) (parts : List KTree) → triples passage (Or parts) ≡ joined (map (triples passage) parts)
ktriples_or passage parts = ap joined (triples_of_list passage parts)

pub ktriples_group : (passage : Passage) (inside : KTree) → triples passage (Group inside) ≡ triples passage inside
unfolding shape-the_row-KTree-0 hidden-the_row-KTree-0 denote.Hole.Carrier.hidden
ktriples_group passage inside = append-nil (triples passage inside)

pub ktriples_near : (passage : Passage) (left right : KTree) (n : ℕ) (ordered : Bool) →
    triples passage (Near left right n ordered) ≡ near n ordered (triples passage left ∷ triples passage right ∷ [])
unfolding shape-the_row-KTree-0 hidden-the_row-KTree-0 denote.Hole.Carrier.hidden
ktriples_near passage left right n ordered = refl

pub ruleset triples_rules = (ktriples_or, ktriples_group, ktriples_near)

module _ (schema : List Property) (values : List Value) (joiner : Joiner) where
  holds_of_row : {m : _} (row : Row_of-KTree m) → holds_each schema values joiner row ≡ map (holds schema values joiner) (items-the_row-KTree m row)
  holds_of_row end_of-KTree = refl
  holds_of_row (more_of-KTree part rest) = ap (λ r. holds schema values joiner part ∷ r) (holds_of_row rest)

  holds_of_list : (parts : List KTree) → holds_each schema values joiner (hidden-the_row-KTree-2 parts) ≡ map (holds schema values joiner) parts
  holds_of_list parts = holds_of_row (hidden-the_row-KTree-2 parts) ∙ ap (map (holds schema values joiner)) (items_hidden-the_row-KTree-2 parts)

  judged_of_row : {m : _} (row : Row_of-KOperand m) → judged schema values joiner row ≡ map (judge schema values joiner) (items-the_row-KOperand m row)
  judged_of_row end_of-KOperand = refl
  judged_of_row (more_of-KOperand sign tree rest) = ap (λ r. judge schema values joiner (record { sign = sign; tree = tree }) ∷ r) (judged_of_row rest)

  judged_of_list : (operands : List KOperand) → judged schema values joiner (hidden-the_row-KOperand-1 operands) ≡ map (judge schema values joiner) operands
  judged_of_list operands = judged_of_row (hidden-the_row-KOperand-1 operands) ∙ ap (map (judge schema values joiner)) (items_hidden-the_row-KOperand-1 operands)

  any_of_map : (parts : List KTree) → list_any (λ b. b) (map (holds schema values joiner) parts) ≡ list_any (holds schema values joiner) parts
  any_of_map [] = refl
  any_of_map (part ∷ rest) = ap (λ b. holds schema values joiner part || b) (any_of_map rest)

  all_of_map : (parts : List KTree) → list_all (λ b. b) (map (holds schema values joiner) parts) ≡ list_all (holds schema values joiner) parts
  all_of_map [] = refl
  all_of_map (part ∷ rest) = ap (λ b. holds schema values joiner part && b) (all_of_map rest)

  pub kholds_or : (parts : List KTree) → holds schema values joiner (Or parts) ≡ list_any (holds schema values joiner) parts
  kholds_or parts = ap (list_any (λ b. b)) (holds_of_list parts) ∙ any_of_map parts

  pub kholds_and : (parts : List KTree) → holds schema values joiner (And parts) ≡ list_all (holds schema values joiner) parts
  kholds_and parts = ap (list_all (λ b. b)) (holds_of_list parts) ∙ all_of_map parts

  pub kholds_run : (operands : List KOperand) → holds schema values joiner (Run operands) ≡ run_holds joiner (map (judge schema values joiner) operands)
  kholds_run operands = ap (run_holds joiner) (judged_of_list operands)

  pub kholds_group : (inside : KTree) → holds schema values joiner (Group inside) ≡ holds schema values joiner inside
  unfolding shape-the_row-KTree-0 hidden-the_row-KTree-0 denote.Hole.Carrier.hidden
  kholds_group inside = refl

  pub kholds_xrank : (matched ranked : KTree) (cb : ℤ) → holds schema values joiner (Xrank matched ranked cb) ≡ holds schema values joiner matched
  unfolding shape-the_row-KTree-0 hidden-the_row-KTree-0 denote.Hole.Carrier.hidden
  kholds_xrank matched ranked cb = refl

  pub kholds_near : (left right : KTree) (n : ℕ) (ordered : Bool) →
      holds schema values joiner (Near left right n ordered) ≡ somewhere schema values (λ passage. triples passage (Near left right n ordered))
  kholds_near left right n ordered = refl

pub ruleset kql_rules = (kholds_or, kholds_and, kholds_run, kholds_group, kholds_xrank, kholds_near)

module _ (schema : List Property) (values : List Value) (joiner : Joiner) where
  boosts_of_row : {m : _} (row : Row_of-KTree m) → boosts schema values joiner row ≡ map (boost schema values joiner) (items-the_row-KTree m row)
  boosts_of_row end_of-KTree = refl
  boosts_of_row (more_of-KTree part rest) = ap (λ r. boost schema values joiner part ∷ r) (boosts_of_row rest)

  boosts_of_list : (parts : List KTree) → boosts schema values joiner (hidden-the_row-KTree-2 parts) ≡ map (boost schema values joiner) parts
  boosts_of_list parts = boosts_of_row (hidden-the_row-KTree-2 parts) ∙ ap (map (boost schema values joiner)) (items_hidden-the_row-KTree-2 parts)

  operand_boosts_of_row : {m : _} (row : Row_of-KOperand m) → operand_boosts schema values joiner row ≡ map (operand_boost schema values joiner) (items-the_row-KOperand m row)
  operand_boosts_of_row end_of-KOperand = refl
  operand_boosts_of_row (more_of-KOperand sign tree rest) =
      ap (λ r. operand_boost schema values joiner (record { sign = sign; tree = tree }) ∷ r) (operand_boosts_of_row rest)

  operand_boosts_of_list : (operands : List KOperand) → operand_boosts schema values joiner (hidden-the_row-KOperand-1 operands) ≡ map (operand_boost schema values joiner) operands
  operand_boosts_of_list operands =
      operand_boosts_of_row (hidden-the_row-KOperand-1 operands) ∙ ap (map (operand_boost schema values joiner)) (items_hidden-the_row-KOperand-1 operands)

  pub kgain_and : (parts : List KTree) → gain schema values joiner (And parts) ≡ total (map (boost schema values joiner) parts)
  kgain_and parts = ap total (boosts_of_list parts)

  pub kgain_or : (parts : List KTree) → gain schema values joiner (Or parts) ≡ total (map (boost schema values joiner) parts)
  kgain_or parts = ap total (boosts_of_list parts)

  pub kgain_run : (operands : List KOperand) → gain schema values joiner (Run operands) ≡ total (map (operand_boost schema values joiner) operands)
  kgain_run operands = ap total (operand_boosts_of_list operands)

  pub kgain_group : (inside : KTree) → gain schema values joiner (Group inside) ≡ gain schema values joiner inside
  unfolding shape-the_row-KTree-0 hidden-the_row-KTree-0 denote.Hole.Carrier.hidden
  kgain_group inside = refl

  pub kgain_xrank : (matched ranked : KTree) (cb : ℤ) →
      gain schema values joiner (Xrank matched ranked cb) ≡ gain schema values joiner matched +ℤ (if holds schema values joiner ranked then cb else pos 0)
  unfolding shape-the_row-KTree-0 hidden-the_row-KTree-0 denote.Hole.Carrier.hidden
  kgain_xrank matched ranked cb = ap (λ b. gain schema values joiner matched +ℤ (if b then cb else pos 0)) (or-false (holds schema values joiner ranked))

pub ruleset kql_gain_rules = (kgain_and, kgain_or, kgain_run, kgain_group, kgain_xrank)
