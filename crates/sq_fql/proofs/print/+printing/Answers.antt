use Rattle.std.proofs.Common.{string_bytes, subst}
use Rattle.std.specs.List.{All}
use Rattle.sq_fql.specs.CanonLaw.{AreTexts}
use Rattle.std.proofs.lemmas.Grind.{common_steps}
use Rattle.std.proofs.Common.{arith}
use Rattle.std.proofs.lemmas.List.{take_all}
use Rattle.std.proofs.lemmas.List.Elements.{All-more}
use Rattle.sq_fql.proofs.CanonEquations.{scope_printed, apply_printed, texts_scope, texts_apply}
use Rattle.sq_fql.proofs.print.+printing.Goals as goal

pub push_tree-returns-in_ok-push_tree-in-Scope-clause-value : goal.push_tree-returns-in_ok-push_tree-in-Scope-clause-value
push_tree-returns-in_ok-push_tree-in-Scope-clause-value t c =
    scope_printed c.args.tree.now c.in-Scope.at (string_bytes c.args.text.now) (string_bytes c.push_name.new.text) _ c.in-Scope.name c.in-Scope.inner
    c.in-Scope.is c.in_ok-push_name-in-Scope.ensures (rw c.get.ensures at c.in_ok-push_tree-in-Scope.ensures.value)

pub push_tree-returns-in_ok-push_tree-in-Scope-clause-texts : goal.push_tree-returns-in_ok-push_tree-in-Scope-clause-texts
push_tree-returns-in_ok-push_tree-in-Scope-clause-texts t c =
    texts_scope c.args.tree.now c.in-Scope.inner c.in-Scope.at c.in-Scope.name c.in-Scope.is (rw c.get.ensures at c.in_ok-push_tree-in-Scope.ensures.texts)

pub push_tree-returns-in_ok-push_closing-in-Apply-clause-value : goal.push_tree-returns-in_ok-push_closing-in-Apply-clause-value
push_tree-returns-in_ok-push_closing-in-Apply-clause-value t c =
    apply_printed c.args.tree.now c.in-Apply.at (string_bytes c.args.text.now) (string_bytes c.push_opening.new.text) _ c.in-Apply.op c.in-Apply.operands c.as_slice.result.now
    (string_bytes c.push_operands.new.text) c.in-Apply.is c.as_slice.ensures c.in_ok-push_opening-in-Apply.ensures c.in_ok-push_operands-in-Apply.ensures.value
    c.in_ok-push_closing-in-Apply.ensures

pub push_tree-returns-in_ok-push_closing-in-Apply-clause-texts : goal.push_tree-returns-in_ok-push_closing-in-Apply-clause-texts
push_tree-returns-in_ok-push_closing-in-Apply-clause-texts t c =
    texts_apply c.args.tree.now c.in-Apply.operands c.as_slice.result.now c.in-Apply.at c.in-Apply.op c.in-Apply.is c.as_slice.ensures
    c.in_ok-push_operands-in-Apply.ensures.texts

pub push_operands-loop-tree-preserved : goal.push_operands-loop-tree-preserved
push_operands-loop-tree-preserved t c = (
  grind (arith, common_steps),
  All-more AreTexts c.args.trees.now c.loop-tree.tree-index _ c.loop-tree-test.true c.loop-tree.invariant.1 (subst AreTexts c.tree-item.is c.in_ok-push_tree.ensures.texts),
)

pub push_operands-returns-clause-texts : goal.push_operands-returns-clause-texts
push_operands-returns-clause-texts t c = subst (All AreTexts) (take_all c.loop-tree.tree-index c.args.trees.now c.loop-tree-test.false) c.loop-tree.invariant.1
