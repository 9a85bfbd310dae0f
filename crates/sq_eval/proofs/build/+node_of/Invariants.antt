use Rattle.std.proofs.Common.{◌≡◌, ◌+◌, ◌*◌, ◌++◌, ◌≤◌, ℕ, map, sum, drop}
use Rattle.std.specs.List.{AllByRecursion}
use Rattle.sq_model.specs.Cost.{reads}
use Rattle.sq_model.specs.FqlSound.{PartsSound}
use Rattle.sq_model.specs.Valid.{IsValid}
use Rattle.sq_model.specs.declared.corpus.Corpus.{Corpus}
use Rattle.sq_nodes.specs.Scores.{node_score, node_rest}
use Rattle.sq_postings.specs.Occurrences.{values_at}
use Rattle.sq_postings.specs.StandsFor.{StandsFor}
use Rattle.sq_eval.specs.Scored.{scored}
use Rattle.sq_eval.proofs.build.+node_of.Given as goal

abbrev pub invariant-nodes_of-loop-tree : goal.invariant-nodes_of-loop-tree
invariant-nodes_of-loop-tree g l = record {
  scores : (corpus : Corpus) → IsValid corpus → StandsFor l.index corpus → AllByRecursion (PartsSound corpus.schema) l.trees → (row : ℕ) →
      map (λ node. node_score node row) l.nodes.items ++ map (scored corpus.schema (values_at corpus.items row)) (drop l.tree-index l.trees)
      ≡ map (scored corpus.schema (values_at corpus.items row)) l.trees;
  cost : (corpus : Corpus) → IsValid corpus → StandsFor l.index corpus → AllByRecursion (PartsSound corpus.schema) l.trees →
      l.steps + sum (map node_rest l.nodes.items) + 256 * sum (map (reads corpus) (drop l.tree-index l.trees)) ≤ l.fn.steps + 256 * sum (map (reads corpus) l.trees);
}
