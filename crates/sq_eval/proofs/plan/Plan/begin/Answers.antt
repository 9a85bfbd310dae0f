use Rattle.std.proofs.Common.{ℕ, sym, subst, ap, ◌∙◌, arith}
use Rattle.sq_nodes.specs.Leaves.{IsBefore}
use Rattle.sq_nodes.specs.Scores.{node_score}
use Rattle.sq_trim.specs.Flags.{left_of}
use Rattle.sq_eval.specs.Meaning.{HasHits, scored_rows}
use Rattle.sq_eval.proofs.PlanLemmas.{has_hits, has_none}
use Rattle.sq_eval.proofs.plan.Plan.begin.Goals as goal

pub returns-in_ok-admitted-in-Some-clause-left : goal.returns-in_ok-admitted-in-Some-clause-left
returns-in_ok-admitted-in-Some-clause-left g c =
    let made = c.in_ok-node.node.value in
    let node = c.skip_to.new.self in
    let rows = left_of c.in_ok-admitted-in-Some.admitted.next c.in_ok-admitted-in-Some.admitted.flags.items in
    let same = λ (r : ℕ). c.skip_to.ensures.later r (omega arith) ∙ ap (λ n. node_score n r) c.into_inner-tree.ensures in
    has_hits c.args.index.now c.args.claims.now c.args.tree.now made c.in_ok-node.ensures.scores node rows same c.in_ok-admitted-in-Some.ensures.left

pub returns-in-None-clause-left : goal.returns-in-None-clause-left
returns-in-None-clause-left g c =
    let made = c.in_ok-node.node.value in
    let node = c.skip_to.new.self in
    let before = λ (r : ℕ). subst (IsBefore r) (sym c.in-None.is) tt in
    let none = λ (r : ℕ). ap (λ n. node_score n r) (sym c.into_inner-tree.ensures) ∙ c.skip_to.ensures.none r (omega arith) (before r) in
    subst (λ rows. HasHits c.args.index.now c.args.claims.now c.args.tree.now (scored_rows (node_score node) rows)) (sym c.none-admitted.ensures.left)
    (has_none c.args.index.now c.args.claims.now c.args.tree.now made c.in_ok-node.ensures.scores none)
