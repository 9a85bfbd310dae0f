use Rattle.std.proofs.Common.{arith, map, true, subst, ap, ap₂, sym, ◌∙◌, ◌≡◌}
use Rattle.std.specs.Prelude.{IfOk}
use Rattle.std.specs.Int.{w64, cast_signed, cast_unsigned}
use Rattle.std.specs.List.{All}
use Rattle.std.proofs.lemmas.Int.{ints, to_z-of_z}
use Rattle.sq_model.specs.declared.kql.KTree.TheVariants as tree
use Rattle.sq_kql.specs.declared.raw.KRawOperand.{KRawOperand}
use Rattle.sq_typing.specs.Formed.{IsFormed, IsLiteral}
use Rattle.sq_typing.specs.Forms.{is_filled}
use Rattle.sq_typing.specs.Kql.{typed, typed_operand, operand_of}
use Rattle.sq_typing.specs.Together.{mapped, together, all_of}
use Rattle.sq_typing.proofs.FormedLemmas.{formed_words, formed_group, formed_matched, formed_ranked, formed_run, formed_and, formed_or}
use Rattle.sq_typing.proofs.KqlEquations.{typed_group, typed_run, typed_and, typed_or, typed_xrank}
use Rattle.sq_typing.proofs.NodeLemmas.{nodes_group, nodes_matched, nodes_ranked, nodes_and, nodes_or, nodes_run, at_most_all, at_most_all_operands, below, below_tree, below_list}
use Rattle.sq_typing.proofs.ProximateLemmas.{proximate_filled}
use Rattle.sq_typing.proofs.TogetherLemmas.{step}
use Rattle.sq_typing.proofs.kql.+kql.Goals as goal

abbrev IsFormedOperand : KRawOperand → Type 0
IsFormedOperand operand = IsFormed operand.tree

pub typed-leaves-requires : goal.typed-leaves-requires
typed-leaves-requires t c = subst (All IsLiteral) (sym c.as_slice.ensures) (formed_words c.in-Words.at c.in-Words.pieces c.in-Words.is c.requires.formed)

pub typed-with_few_copies-requires : goal.typed-with_few_copies-requires
typed-with_few_copies-requires t c =
    subst (λ o. IfOk o (λ u. is_filled u ≡ true)) (sym c.in_ok-near-in-Near.ensures) (proximate_filled c.args.schema.now c.args.tree.now c.requires.formed.form)

pub typed-typed-requires : goal.typed-typed-requires
typed-typed-requires t c = (
  below _ _ _ (nodes_group c.get.result.now c.in-Group.at c.in-Group.inner c.in-Group.is c.get.ensures) c.decreases,
  (
    rw (to_z-of_z w64 c.args.now c.ranges.now) c.requires.now,
    subst IsFormed (sym c.get.ensures) (formed_group c.in-Group.at c.in-Group.inner c.in-Group.is c.requires.formed),
  ),
)

pub typed-typed-requires-in-Xrank : goal.typed-typed-requires-in-Xrank
typed-typed-requires-in-Xrank t c = (
  below _ _ _ (nodes_matched c.get-in-Xrank.result.now c.in-Xrank.at c.in-Xrank.matched c.in-Xrank.ranked c.in-Xrank.cb c.in-Xrank.is c.get-in-Xrank.ensures) c.decreases,
  (
    rw (to_z-of_z w64 c.args.now c.ranges.now) c.requires.now,
    subst IsFormed (sym c.get-in-Xrank.ensures) (formed_matched c.in-Xrank.at c.in-Xrank.matched c.in-Xrank.ranked c.in-Xrank.cb c.in-Xrank.is c.requires.formed),
  ),
)

pub typed-typed-requires-in-Xrank-2 : goal.typed-typed-requires-in-Xrank-2
typed-typed-requires-in-Xrank-2 t c = (
  below _ _ _ (nodes_ranked c.get-in-Xrank-2.result.now c.in-Xrank.at c.in-Xrank.matched c.in-Xrank.ranked c.in-Xrank.cb c.in-Xrank.is c.get-in-Xrank-2.ensures) c.decreases,
  (
    rw (to_z-of_z w64 c.args.now c.ranges.now) c.requires.now,
    subst IsFormed (sym c.get-in-Xrank-2.ensures) (formed_ranked c.in-Xrank.at c.in-Xrank.matched c.in-Xrank.ranked c.in-Xrank.cb c.in-Xrank.is c.requires.formed),
  ),
)

pub typed-typed_operands-requires : goal.typed-typed_operands-requires
typed-typed_operands-requires t c = (
  below_tree _ _ _ (nodes_run c.as_slice-in-Run.result.now c.in-Run.at c.in-Run.operands c.in-Run.is c.as_slice-in-Run.ensures) c.decreases,
  (
    rw (to_z-of_z w64 c.args.now c.ranges.now) c.requires.now,
    subst (All IsFormedOperand) (sym c.as_slice-in-Run.ensures) (formed_run c.in-Run.at c.in-Run.operands c.in-Run.is c.requires.formed),
  ),
)

pub typed-typed_each-requires : goal.typed-typed_each-requires
typed-typed_each-requires t c = (
  below_tree _ _ _ (nodes_and c.as_slice-in-And.result.now c.in-And.at c.in-And.parts c.in-And.is c.as_slice-in-And.ensures) c.decreases,
  (
    rw (to_z-of_z w64 c.args.now c.ranges.now) c.requires.now,
    subst (All IsFormed) (sym c.as_slice-in-And.ensures) (formed_and c.in-And.at c.in-And.parts c.in-And.is c.requires.formed),
  ),
)

pub typed-typed_each-requires-in-Or : goal.typed-typed_each-requires-in-Or
typed-typed_each-requires-in-Or t c = (
  below_tree _ _ _ (nodes_or c.as_slice-in-Or.result.now c.in-Or.at c.in-Or.parts c.in-Or.is c.as_slice-in-Or.ensures) c.decreases,
  (
    rw (to_z-of_z w64 c.args.now c.ranges.now) c.requires.now,
    subst (All IsFormed) (sym c.as_slice-in-Or.ensures) (formed_or c.in-Or.at c.in-Or.parts c.in-Or.is c.requires.formed),
  ),
)

pub typed_each-typed-requires : goal.typed_each-typed-requires
typed_each-typed-requires t c = (
  below_list _ _ _ (at_most_all c.args.parts.now c.loop-part.part-index c.part-item.result c.loop-part-test.true c.part-item.is) c.decreases,
  (
    rw (to_z-of_z w64 c.args.now c.ranges.now) c.requires.now,
    subst IsFormed (sym c.part-item.is) (c.requires.formed c.loop-part.part-index c.part-item.result c.loop-part-test.true),
  ),
)

pub typed_operands-typed-requires : goal.typed_operands-typed-requires
typed_operands-typed-requires t c = (
  below_list _ _ _ (at_most_all_operands c.args.parts.now c.loop-part.part-index c.part-item.result c.loop-part-test.true c.part-item.is) c.decreases,
  (
    rw (to_z-of_z w64 c.args.now c.ranges.now) c.requires.now,
    subst IsFormedOperand (sym c.part-item.is) (c.requires.formed c.loop-part.part-index c.part-item.result c.loop-part-test.true),
  ),
)

pub typed-returns-in_ok-group-in-Group : goal.typed-returns-in_ok-group-in-Group
typed-returns-in_ok-group-in-Group t c =
    let same = to_z-of_z w64 c.args.now c.ranges.now in
    let here = typed c.args.schema.now c.args.now in
    c.in_ok-group-in-Group.ensures
    ∙ (ap (mapped tree.Group) (c.in_ok-inside-in-Group.ensures ∙ (ap (λ n. typed c.args.schema.now n c.get.result.now) same ∙ ap here c.get.ensures))
    ∙ (sym (typed_group c.args.schema.now c.args.now c.in-Group.at c.in-Group.inner) ∙ ap here (sym c.in-Group.is)))

pub typed-returns-in_ok-operands-in-Run : goal.typed-returns-in_ok-operands-in-Run
typed-returns-in_ok-operands-in-Run t c =
    let same = to_z-of_z w64 c.args.now c.ranges.now in
    let here = typed c.args.schema.now c.args.now in
    let each = typed_operand c.args.schema.now c.args.now in
    c.run_of.ensures
    ∙ (ap (mapped tree.Run) (c.in_ok-operands-in-Run.ensures
    ∙ (ap (λ n. all_of (map (typed_operand c.args.schema.now n) c.as_slice-in-Run.result.now)) same ∙ ap (λ ps. all_of (map each ps)) c.as_slice-in-Run.ensures))
    ∙ (sym (typed_run c.args.schema.now c.args.now c.in-Run.at c.in-Run.operands) ∙ ap here (sym c.in-Run.is)))

pub typed-returns-in_ok-parts-in-And : goal.typed-returns-in_ok-parts-in-And
typed-returns-in_ok-parts-in-And t c =
    let same = to_z-of_z w64 c.args.now c.ranges.now in
    let here = typed c.args.schema.now c.args.now in
    c.and_of.ensures
    ∙ (ap (mapped tree.And) (c.in_ok-parts-in-And.ensures
    ∙ (ap (λ n. all_of (map (typed c.args.schema.now n) c.as_slice-in-And.result.now)) same ∙ ap (λ ps. all_of (map here ps)) c.as_slice-in-And.ensures))
    ∙ (sym (typed_and c.args.schema.now c.args.now c.in-And.at c.in-And.parts) ∙ ap here (sym c.in-And.is)))

pub typed-returns-in_ok-parts-in-Or : goal.typed-returns-in_ok-parts-in-Or
typed-returns-in_ok-parts-in-Or t c =
    let same = to_z-of_z w64 c.args.now c.ranges.now in
    let here = typed c.args.schema.now c.args.now in
    c.or_of.ensures
    ∙ (ap (mapped tree.Or) (c.in_ok-parts-in-Or.ensures
    ∙ (ap (λ n. all_of (map (typed c.args.schema.now n) c.as_slice-in-Or.result.now)) same ∙ ap (λ ps. all_of (map here ps)) c.as_slice-in-Or.ensures))
    ∙ (sym (typed_or c.args.schema.now c.args.now c.in-Or.at c.in-Or.parts) ∙ ap here (sym c.in-Or.is)))

pub typed-returns-in_ok-xrank-in-Xrank : goal.typed-returns-in_ok-xrank-in-Xrank
typed-returns-in_ok-xrank-in-Xrank t c =
    let same = to_z-of_z w64 c.args.now c.ranges.now in
    let here = typed c.args.schema.now c.args.now in
    let read : cast_signed w64 (cast_unsigned w64 c.in-Xrank.cb) ≡ c.in-Xrank.cb = grind (arith, ints, to_z-of_z) in
    c.in_ok-xrank-in-Xrank.ensures
    ∙ (ap₂ (together (λ m r. tree.Xrank m r (cast_signed w64 (cast_unsigned w64 c.in-Xrank.cb))))
    (c.in_ok-matched-in-Xrank.ensures ∙ (ap (λ n. typed c.args.schema.now n c.get-in-Xrank.result.now) same ∙ ap here c.get-in-Xrank.ensures))
    (c.in_ok-ranked-in-Xrank.ensures ∙ (ap (λ n. typed c.args.schema.now n c.get-in-Xrank-2.result.now) same ∙ ap here c.get-in-Xrank-2.ensures))
    ∙ (ap (λ n. together (λ m r. tree.Xrank m r n) (here c.in-Xrank.matched) (here c.in-Xrank.ranked)) read
    ∙ (sym (typed_xrank c.args.schema.now c.args.now c.in-Xrank.at c.in-Xrank.matched c.in-Xrank.ranked c.in-Xrank.cb) ∙ ap here (sym c.in-Xrank.is))))

pub typed_each-loop-part-preserved : goal.typed_each-loop-part-preserved
typed_each-loop-part-preserved t c =
    step (typed c.args.schema.now (cast_signed w64 (cast_unsigned w64 c.args.now))) c.args.parts.now c.loop-part.part-index c.part-item.result c.loop-part.trees c.in_ok-next.next
    c.in_ok-trees.trees _ c.loop-part-test.true c.part-item.is c.in_ok-next.ensures c.in_ok-trees.ensures c.loop-part.invariant

pub typed_operands-loop-part-preserved : goal.typed_operands-loop-part-preserved
typed_operands-loop-part-preserved t c =
    step (typed_operand c.args.schema.now (cast_signed w64 (cast_unsigned w64 c.args.now))) c.args.parts.now c.loop-part.part-index c.part-item.result c.loop-part.operands
    c.operand_of.result c.in_ok-operands.operands _ c.loop-part-test.true c.part-item.is
    (c.operand_of.ensures ∙ ap (mapped (operand_of c.part-item.result.sign)) c.in_ok-tree.ensures) c.in_ok-operands.ensures c.loop-part.invariant
