use Rattle.std.proofs.Common.{◌≡◌, ◌∷◌, ◌++◌, [], map, take, refl, subst, ap, ap₂, sym, ◌∙◌, arith}
use Rattle.std.specs.Prelude.{IfOk}
use Rattle.std.specs.Int.{w64, cast_signed, cast_unsigned}
use Rattle.std.specs.List.{All}
use Rattle.std.proofs.lemmas.Int.{ints, to_z-of_z}
use Rattle.std.proofs.lemmas.List.{take_all}
use Rattle.sq_fql.specs.declared.raw.FRaw.{FRaw}
use Rattle.sq_fql.specs.declared.raw.Op.TheVariants as op
use Rattle.sq_model.specs.KqlSound.{PartsSound, nodes}
use Rattle.sq_model.specs.declared.kql.KOperand.{KOperand}
use Rattle.sq_model.specs.declared.kql.KTree.TheVariants as tree
use Rattle.sq_lower.specs.Runs.{Form, alone_or, forms_of, gathers, is_gathered, in_one_place, gathered_form}
use Rattle.sq_lower.specs.Lowered.{apply, near, lowered, operand_form, raw_connectives}
use Rattle.sq_lower.proofs.SeenRuns.{HasForms, HasPlaced, more_forms, first_more, again_more, other_more, next_form, whole_run}
use Rattle.sq_lower.proofs.SoundParts.{sound_group, sound_left, sound_right, sound_matched, sound_ranked, sound_and, sound_or, sound_run}
use Rattle.sq_lower.proofs.TreeEquations.{lowered_group, lowered_near, lowered_run, lowered_xrank, near_again, xrank_again}
use Rattle.sq_lower.proofs.TreeNodes.{nodes_group, nodes_near, nodes_xrank, nodes_and, nodes_or, nodes_run, at_most_all, at_most_all_operands, below, below_tree, run_below, below_list, below_run, first_below, second_below}
use Rattle.sq_lower.proofs.lowering.+lowered.Goals as goal
use Rattle.sq_lower.proofs.lowering.+lowered.Goals.{run_of-then-gathers+in-Some+in_ok-add, run_of-then-gathers+in_default, run_of-else-gathers+in_ok-form+in_ok-add-2}

pub tree_of-tree_of-requires : goal.tree_of-tree_of-requires
tree_of-tree_of-requires t c = (
  below _ _ _ (nodes_group c.get.result.now c.in-Group.inside c.in-Group.is c.get.ensures) c.decreases,
  subst (PartsSound c.args.schema.now) (sym c.get.ensures) (sound_group c.args.schema.now c.in-Group.inside c.in-Group.is c.requires),
)

pub tree_of-near_form-requires : goal.tree_of-near_form-requires
tree_of-near_form-requires t c = (
  below_tree _ _ _ (nodes_near c.get-in-Near.result.now c.get-in-Near-2.result.now c.in-Near.left c.in-Near.right c.in-Near.n c.in-Near.ordered c.in-Near.is c.get-in-Near.ensures c.get-in-Near-2.ensures) c.decreases,
  subst (PartsSound c.args.schema.now) (sym (near_again _ _ _ c.in-Near.left c.in-Near.right c.in-Near.n c.in-Near.ordered c.in-Near.is c.get-in-Near.ensures c.get-in-Near-2.ensures)) c.requires,
)

pub near_form-tree_of-requires : goal.near_form-tree_of-requires
near_form-tree_of-requires t c = (
  first_below (nodes c.args.left.now) (nodes c.args.right.now) _ c.decreases,
  sound_left c.args.schema.now c.args.left.now c.args.right.now c.args.n c.args.ordered refl c.requires,
)

pub near_form-tree_of-requires-2 : goal.near_form-tree_of-requires-2
near_form-tree_of-requires-2 t c = (
  second_below (nodes c.args.left.now) (nodes c.args.right.now) _ c.decreases,
  sound_right c.args.schema.now c.args.left.now c.args.right.now c.args.n c.args.ordered refl c.requires,
)

pub tree_of-xrank_form-requires : goal.tree_of-xrank_form-requires
tree_of-xrank_form-requires t c =
    let read : cast_signed w64 (cast_unsigned w64 c.in-Xrank.cb) ≡ c.in-Xrank.cb = grind (arith, ints, to_z-of_z) in (
      below_tree _ _ _ (nodes_xrank c.get-in-Xrank.result.now c.get-in-Xrank-2.result.now c.in-Xrank.matched c.in-Xrank.ranked c.in-Xrank.cb c.in-Xrank.is c.get-in-Xrank.ensures c.get-in-Xrank-2.ensures) c.decreases,
      subst (PartsSound c.args.schema.now) (sym (xrank_again _ _ _ c.in-Xrank.matched c.in-Xrank.ranked c.in-Xrank.cb _ c.in-Xrank.is c.get-in-Xrank.ensures c.get-in-Xrank-2.ensures read)) c.requires,
    )

pub xrank_form-tree_of-requires : goal.xrank_form-tree_of-requires
xrank_form-tree_of-requires t c = (
  first_below (nodes c.args.matched.now) (nodes c.args.ranked.now) _ c.decreases,
  sound_matched c.args.schema.now c.args.matched.now c.args.ranked.now c.args.cb refl c.requires,
)

pub xrank_form-tree_of-requires-2 : goal.xrank_form-tree_of-requires-2
xrank_form-tree_of-requires-2 t c = (
  second_below (nodes c.args.matched.now) (nodes c.args.ranked.now) _ c.decreases,
  sound_ranked c.args.schema.now c.args.matched.now c.args.ranked.now c.args.cb refl c.requires,
)

pub tree_of-run_of-requires : goal.tree_of-run_of-requires
tree_of-run_of-requires t c = (
  run_below _ _ _ (nodes_run c.as_slice-in-Run.result.now c.in-Run.operands c.in-Run.is c.as_slice-in-Run.ensures) c.decreases,
  subst (All (λ (operand : KOperand). PartsSound c.args.schema.now operand.tree)) (sym c.as_slice-in-Run.ensures) (sound_run c.args.schema.now c.in-Run.operands c.in-Run.is c.requires),
)

pub tree_of-all_form-requires : goal.tree_of-all_form-requires
tree_of-all_form-requires t c = (
  run_below _ _ _ (nodes_and c.as_slice-in-And.result.now c.in-And.parts c.in-And.is c.as_slice-in-And.ensures) c.decreases,
  subst (All (PartsSound c.args.schema.now)) (sym c.as_slice-in-And.ensures) (sound_and c.args.schema.now c.in-And.parts c.in-And.is c.requires),
)

pub tree_of-some_form-requires : goal.tree_of-some_form-requires
tree_of-some_form-requires t c = (
  run_below _ _ _ (nodes_or c.as_slice-in-Or.result.now c.in-Or.parts c.in-Or.is c.as_slice-in-Or.ensures) c.decreases,
  subst (All (PartsSound c.args.schema.now)) (sym c.as_slice-in-Or.ensures) (sound_or c.args.schema.now c.in-Or.parts c.in-Or.is c.requires),
)

pub trees_of-tree_of-requires : goal.trees_of-tree_of-requires
trees_of-tree_of-requires t c = (
  below_list _ _ _ (at_most_all c.args.parts.now c.loop-part.part-index c.part-item.result c.loop-part-test.true c.part-item.is) c.decreases,
  subst (PartsSound c.args.schema.now) (sym c.part-item.is) (c.requires c.loop-part.part-index c.part-item.result c.loop-part-test.true),
)

pub run_of-tree_of-requires : goal.run_of-tree_of-requires
run_of-tree_of-requires t c = (
  below_run _ _ _ (at_most_all_operands c.args.operands.now c.loop-operand.operand-index c.operand-item.result c.loop-operand-test.true c.operand-item.is) c.decreases,
  subst (λ (operand : KOperand). PartsSound c.args.schema.now operand.tree) (sym c.operand-item.is)
      (c.requires c.loop-operand.operand-index c.operand-item.result c.loop-operand-test.true),
)

pub gathered_of-tree_of-requires : goal.gathered_of-tree_of-requires
gathered_of-tree_of-requires t c = (
  below_list _ _ _ (at_most_all_operands c.args.operands.now c.loop-operand.operand-index c.operand-item.result c.loop-operand-test.true c.operand-item.is) c.decreases,
  subst (λ (operand : KOperand). PartsSound c.args.schema.now operand.tree) (sym c.operand-item.is)
      (c.requires c.loop-operand.operand-index c.operand-item.result c.loop-operand-test.true),
)

pub tree_of-returns-in-Group : goal.tree_of-returns-in-Group
tree_of-returns-in-Group t c =
    let here = lowered c.args.schema.now c.args.joiner in
    subst (λ form. IfOk c.tree_of.result (λ raw. raw ≡ form))
    (ap here c.get.ensures ∙ (sym (lowered_group c.args.schema.now c.args.joiner c.in-Group.inside) ∙ ap here (sym c.in-Group.is))) c.tree_of.ensures

pub tree_of-returns-in-Near : goal.tree_of-returns-in-Near
tree_of-returns-in-Near t c =
    subst (λ whole. IfOk c.near_form.result (λ raw. raw ≡ lowered c.args.schema.now c.args.joiner whole))
    (near_again _ _ _ c.in-Near.left c.in-Near.right c.in-Near.n c.in-Near.ordered c.in-Near.is c.get-in-Near.ensures c.get-in-Near-2.ensures) c.near_form.ensures

pub tree_of-returns-in-Run : goal.tree_of-returns-in-Run
tree_of-returns-in-Run t c =
    subst (λ whole. IfOk c.run_of.result (λ raw. raw ≡ lowered c.args.schema.now c.args.joiner whole))
    (ap tree.Run c.as_slice-in-Run.ensures ∙ sym c.in-Run.is) c.run_of.ensures

pub tree_of-returns-in-And : goal.tree_of-returns-in-And
tree_of-returns-in-And t c =
    subst (λ whole. IfOk c.all_form.result (λ raw. raw ≡ lowered c.args.schema.now c.args.joiner whole))
    (ap tree.And c.as_slice-in-And.ensures ∙ sym c.in-And.is) c.all_form.ensures

pub tree_of-returns-in-Or : goal.tree_of-returns-in-Or
tree_of-returns-in-Or t c =
    subst (λ whole. IfOk c.some_form.result (λ raw. raw ≡ lowered c.args.schema.now c.args.joiner whole))
    (ap tree.Or c.as_slice-in-Or.ensures ∙ sym c.in-Or.is) c.some_form.ensures

pub tree_of-returns-in-Xrank : goal.tree_of-returns-in-Xrank
tree_of-returns-in-Xrank t c =
    let read : cast_signed w64 (cast_unsigned w64 c.in-Xrank.cb) ≡ c.in-Xrank.cb = grind (arith, ints, to_z-of_z) in
    subst (λ whole. IfOk c.xrank_form.result (λ raw. raw ≡ lowered c.args.schema.now c.args.joiner whole))
    (xrank_again _ _ _ c.in-Xrank.matched c.in-Xrank.ranked c.in-Xrank.cb _ c.in-Xrank.is c.get-in-Xrank.ensures c.get-in-Xrank-2.ensures read) c.xrank_form.ensures

pub near_form-returns : goal.near_form-returns
near_form-returns t c =
    subst (λ form. IfOk c.near.result (λ raw. raw ≡ form))
    (ap₂ (λ l r. near c.args.n c.args.ordered (l ∷ r ∷ [])) c.in_ok-left_form.ensures c.in_ok-right_form.ensures
    ∙ sym (lowered_near c.args.schema.now c.args.joiner c.args.left.now c.args.right.now c.args.n c.args.ordered)) c.near.ensures

pub xrank_form-returns : goal.xrank_form-returns
xrank_form-returns t c =
    let here = lowered c.args.schema.now c.args.joiner in
    let read : cast_signed w64 (cast_unsigned w64 c.args.cb) ≡ c.args.cb = grind (arith, ints, to_z-of_z) in
    subst (λ form. IfOk c.xrank.result (λ raw. raw ≡ form))
    (ap₂ (λ m r. apply (op.Xrank (cast_signed w64 (cast_unsigned w64 c.args.cb))) (m ∷ r ∷ [])) c.in_ok-matched_form.ensures c.in_ok-ranked_form.ensures
    ∙ (ap (λ b. apply (op.Xrank b) (here c.args.matched.now ∷ here c.args.ranked.now ∷ [])) read
    ∙ sym (lowered_xrank c.args.schema.now c.args.joiner c.args.matched.now c.args.ranked.now c.args.cb))) c.xrank.ensures

pub run_of-loop-operand-preserved : goal.run_of-loop-operand-preserved
run_of-loop-operand-preserved t c =
    let schema = c.args.schema.now in
    let joiner = c.args.joiner in
    let operand = c.operand-item.result in
    let operands = c.args.operands.now in
    let forms = map (operand_form schema joiner) (take c.loop-operand.operand-index operands) in
    let one = alone_or (apply op.Or) (forms_of (is_gathered joiner) (map (operand_form schema joiner) operands)) in
    let o = operand_form schema joiner operand in
    let before = c.loop-operand.invariant in
    let placed = in_one_place (is_gathered joiner) one forms in
    let next = next_form schema joiner operands c.loop-operand.operand-index operand c.loop-operand-test.true c.operand-item.is in
    let role = c.role_of-role.ensures in
    let test : gathers joiner o.role ≡ c.gathers.result = sym (c.gathers.ensures ∙ ap (gathers joiner) role) in
    subst (HasPlaced joiner one c.if-gathers.run c.if-gathers.gathered) (sym next)
    (elim c.if-gathers.branch as (λ _. HasPlaced joiner one c.if-gathers.run c.if-gathers.gathered (forms ++ o ∷ [])) [
      | run_of-then-gathers+in-Some+in_ok-add w ↦
          let made : Form FRaw = record { sign = operand.sign; role = c.role_of-role.result; form = w.in-Some.form } in
          let is : made ≡ record o { form = w.in-Some.form } = λ j. record { sign = operand.sign; role = role j; form = w.in-Some.form } in
          first_more joiner one c.loop-operand.run c.loop-operand.gathered forms o before c.if-gathers.run c.if-gathers.gathered w.in-Some.form (test ∙ w.if-gathers.true)
          (sym w.take.ensures.value ∙ w.in-Some.is) (w.gathered-is ∙ w.take.ensures.after)
          (subst (λ r. HasForms r (placed ++ record o { form = w.in-Some.form } ∷ [])) (sym w.run-is)
          (subst (λ x. HasForms w.add.new.run (placed ++ x ∷ [])) is
          (more_forms c.loop-operand.run w.add.new.run placed made before.seen w.in_ok-add.ensures.required w.in_ok-add.ensures.restrictions w.in_ok-add.ensures.subtracted)))
      | run_of-then-gathers+in_default w ↦
          subst (λ r. HasPlaced joiner one r c.if-gathers.gathered (forms ++ o ∷ [])) (sym w.run-is)
          (again_more joiner one c.loop-operand.run c.loop-operand.gathered forms o before c.if-gathers.gathered (test ∙ w.if-gathers.true)
          (sym w.take.ensures.value ∙ w.in_default.is) (w.gathered-is ∙ w.take.ensures.after))
      | run_of-else-gathers+in_ok-form+in_ok-add-2 w ↦
          let made : Form FRaw = record { sign = operand.sign; role = c.role_of-role.result; form = w.in_ok-form.form } in
          let is : made ≡ o = λ j. record { sign = operand.sign; role = role j; form = w.in_ok-form.ensures j } in
          subst (λ g. HasPlaced joiner one c.if-gathers.run g (forms ++ o ∷ [])) (sym w.gathered-is)
          (other_more joiner one c.loop-operand.run c.loop-operand.gathered forms o before c.if-gathers.run (test ∙ w.if-gathers.false)
          (subst (λ r. HasForms r (placed ++ o ∷ [])) (sym w.run-is)
          (subst (λ x. HasForms w.add-else-gathers.new.run (placed ++ x ∷ [])) is
          (more_forms c.loop-operand.run w.add-else-gathers.new.run placed made before.seen
          w.in_ok-add-2.ensures.required w.in_ok-add-2.ensures.restrictions w.in_ok-add-2.ensures.subtracted))))
    ])

pub run_of-returns : goal.run_of-returns
run_of-returns t c =
    let schema = c.args.schema.now in
    let joiner = c.args.joiner in
    let operands = c.args.operands.now in
    let i = c.loop-operand.operand-index in
    let form = operand_form schema joiner in
    let one = alone_or (apply op.Or) (forms_of (is_gathered joiner) (map form operands)) in
    c.in_ok-form-2.ensures
    ∙ (whole_run c.loop-operand.run (in_one_place (is_gathered joiner) one (map form (take i operands))) c.loop-operand.invariant.seen
    ∙ (ap (λ os. gathered_form raw_connectives (in_one_place (is_gathered joiner) one (map form os))) (take_all i operands c.loop-operand-test.false)
    ∙ sym (lowered_run schema joiner operands)))
