use Rattle.std.proofs.Common.{◌≡◌, ◌+◌, ◌*◌, ◌++◌, map, take, drop}
use Rattle.sq_fql.specs.declared.raw.Op.TheVariants as op
use Rattle.sq_model.specs.KqlSound.{nodes}
use Rattle.sq_lower.specs.Lowered.{apply, lowered, operand_form}
use Rattle.sq_lower.specs.Runs.{alone_or, forms_of, is_gathered}
use Rattle.sq_lower.proofs.SeenRuns.{HasPlaced}
use Rattle.sq_lower.proofs.TreeNodes.{all_nodes, all_operand_nodes}
use Rattle.sq_lower.proofs.lowering.+lowered.Given as goal

abbrev pub invariant-trees_of-loop-part : goal.invariant-trees_of-loop-part
invariant-trees_of-loop-part l = l.forms ++ map (lowered l.schema l.fn.joiner) (drop l.part-index l.parts) ≡ map (lowered l.schema l.fn.joiner) l.parts

abbrev pub invariant-gathered_of-loop-operand : goal.invariant-gathered_of-loop-operand
invariant-gathered_of-loop-operand l =
    l.forms ++ forms_of (is_gathered l.fn.joiner) (map (operand_form l.schema l.fn.joiner) (drop l.operand-index l.operands))
    ≡ forms_of (is_gathered l.fn.joiner) (map (operand_form l.schema l.fn.joiner) l.operands)

abbrev pub invariant-run_of-loop-operand : goal.invariant-run_of-loop-operand
invariant-run_of-loop-operand l =
    HasPlaced l.fn.joiner (alone_or (apply op.Or) (forms_of (is_gathered l.fn.joiner) (map (operand_form l.schema l.fn.joiner) l.operands)))
    l.run l.gathered (map (operand_form l.schema l.fn.joiner) (take l.operand-index l.operands))

abbrev pub decreases-tree_of : goal.decreases-tree_of
decreases-tree_of l = 3 * nodes l.tree.now

abbrev pub decreases-near_form : goal.decreases-near_form
decreases-near_form l = 3 * (nodes l.left.now + nodes l.right.now) + 1

abbrev pub decreases-xrank_form : goal.decreases-xrank_form
decreases-xrank_form l = 3 * (nodes l.matched.now + nodes l.ranked.now) + 1

abbrev pub decreases-all_form : goal.decreases-all_form
decreases-all_form l = 3 * all_nodes l.parts.now + 2

abbrev pub decreases-some_form : goal.decreases-some_form
decreases-some_form l = 3 * all_nodes l.parts.now + 2

abbrev pub decreases-trees_of : goal.decreases-trees_of
decreases-trees_of l = 3 * all_nodes l.parts.now + 1

abbrev pub decreases-gathered_of : goal.decreases-gathered_of
decreases-gathered_of l = 3 * all_operand_nodes l.operands.now + 1

abbrev pub decreases-run_of : goal.decreases-run_of
decreases-run_of l = 3 * all_operand_nodes l.operands.now + 2
