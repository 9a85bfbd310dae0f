use Rattle.std.proofs.Common.{ap, ◌∙◌, w64}
use Rattle.std.proofs.lemmas.Int.{to_z-of_z}
use Rattle.sq_nodes.specs.Scores.{node_score, node_rest, with_boost}
use Rattle.sq_eval.specs.Nodes.{some_score}
use Rattle.sq_eval.proofs.NodeEquations.{score_xrank, rest_xrank}
use Rattle.sq_eval.proofs.build.ranked_node.Goals as goal

pub returns-clause-scores : goal.returns-clause-scores
returns-clause-scores c = λ row.
    ap (λ node. node_score node row) c.in_ok-node.ensures.ok ∙ score_xrank _ row
    ∙ ap (λ boost. with_boost (some_score row c.args.ranks.items) boost (node_score c.args.matched.value row)) (to_z-of_z w64 c.args.boost c.ranges.boost)

pub returns-clause-rest : goal.returns-clause-rest
returns-clause-rest c = ap node_rest c.in_ok-node.ensures.ok ∙ rest_xrank _
