use Rattle.std.proofs.Common.{ap, ◌∙◌}
use Rattle.sq_nodes.specs.Scores.{node_score, node_rest}
use Rattle.sq_eval.proofs.NodeEquations.{score_and_not, rest_and_not}
use Rattle.sq_eval.proofs.build.without_node.Goals as goal

pub returns-clause-scores : goal.returns-clause-scores
returns-clause-scores c = λ row. ap (λ node. node_score node row) c.in_ok-node.ensures.ok ∙ score_and_not _ row

pub returns-clause-rest : goal.returns-clause-rest
returns-clause-rest c = ap node_rest c.in_ok-node.ensures.ok ∙ rest_and_not _
