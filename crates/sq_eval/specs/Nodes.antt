-- What the node of an expression gives, and what making it costs.
use Rattle.std.specs.Prelude.{◌≡◌, ◌≤◌, ℕ, ◌+◌, ◌*◌, Bool, List, map, sum, is_some}
use Rattle.std.specs.List.{list_any, AllByRecursion}
use Rattle.sq_model.specs.Cost.{reads, cost}
use Rattle.sq_model.specs.FqlSound.{PartsSound}
use Rattle.sq_model.specs.Limits.{most_copies}
use Rattle.sq_model.specs.Valid.{IsValid}
use Rattle.sq_model.specs.declared.corpus.Corpus.{Corpus}
use Rattle.sq_model.specs.declared.fql.FTree.{FTree}
use Rattle.sq_nodes.specs.Scores.{node_score}
use Rattle.sq_nodes.specs.declared.node.Node.{Node}
use Rattle.sq_postings.specs.Indexed.{Indexed}
use Rattle.sq_postings.specs.Occurrences.{values_at}
use Rattle.sq_postings.specs.StandsFor.{StandsFor}
use Rattle.sq_eval.specs.Scored.{scored}

-- one of the nodes holds of the row
abbrev pub some_score : ℕ → List Node → Bool
some_score row nodes = list_any is_some (map (λ node. node_score node row) nodes)

-- the score of a row is the expression's, for each valid corpus that the index stands for
abbrev pub IsNodeOf : Indexed → FTree → Node → Type 0
IsNodeOf index tree node = (corpus : Corpus) → IsValid corpus → StandsFor index corpus → PartsSound corpus.schema tree → (row : ℕ) →
    node_score node row ≡ scored corpus.schema (values_at corpus.items row) tree

-- the same, node by node
abbrev pub AreNodesOf : Indexed → List FTree → List Node → Type 0
AreNodesOf index trees nodes = (corpus : Corpus) → IsValid corpus → StandsFor index corpus → AllByRecursion (PartsSound corpus.schema) trees → (row : ℕ) →
    map (λ node. node_score node row) nodes ≡ map (scored corpus.schema (values_at corpus.items row)) trees

-- from before to after lies at most the expression's cost
abbrev pub IsWithinTree : Indexed → FTree → ℕ → ℕ → Type 0
IsWithinTree index tree before after = (corpus : Corpus) → IsValid corpus → StandsFor index corpus → PartsSound corpus.schema tree → after ≤ before + cost corpus tree

-- the same of all expressions together
abbrev pub IsWithinTrees : Indexed → List FTree → ℕ → ℕ → Type 0
IsWithinTrees index trees before after = (corpus : Corpus) → IsValid corpus → StandsFor index corpus → AllByRecursion (PartsSound corpus.schema) trees →
    after ≤ before + most_copies * sum (map (reads corpus) trees)
