-- What a plan begins with.
use Rattle.std.proofs.Common.{◌≡◌, ℕ, List, [], None, sym, ap, ◌∙◌}
use Rattle.sq_model.specs.Access.{admits}
use Rattle.sq_model.specs.declared.fql.FTree.{FTree}
use Rattle.sq_nodes.specs.Scores.{node_score}
use Rattle.sq_nodes.specs.declared.node.Node.{Node}
use Rattle.sq_postings.specs.Indexed.{Indexed}
use Rattle.sq_postings.specs.Occurrences.{values_at, rows_from}
use Rattle.sq_trim.specs.Trimmed as trim
use Rattle.sq_eval.specs.Meaning.{meaning, hits, scored_rows, HasHits}
use Rattle.sq_eval.specs.Nodes.{IsNodeOf}
use Rattle.sq_eval.proofs.HitLemmas.{same_rows, scored_none}
use Rattle.sq_eval.proofs.ScoredLemmas.{scored_of_sound}

module _ (index : Indexed) (claims : List (List ℕ)) (tree : FTree) (made : Node) (is : IsNodeOf index tree made) where
  -- the rows that are left are the admitted ones, and the node scores as it was made
  pub has_hits : (node : Node) (rows : List ℕ) → ((r : ℕ) → node_score node r ≡ node_score made r) → trim.AreAdmitted index claims rows →
      HasHits index claims tree (scored_rows (node_score node) rows)
  has_hits node rows same admitted = λ corpus valid stands sound.
      same_rows (meaning corpus tree) (node_score node) rows
      (λ row. same row ∙ is corpus valid stands sound.parts row ∙ scored_of_sound corpus.schema (values_at corpus.items row) tree sound)
      ∙ ap (hits corpus tree) (admitted corpus valid stands)

  -- where it holds of no row there are none
  pub has_none : ((r : ℕ) → node_score made r ≡ None) → HasHits index claims tree []
  has_none none = λ corpus valid stands sound.
      sym (scored_none (meaning corpus tree) (rows_from 0 (admits claims) corpus.items)
      (λ row. sym (is corpus valid stands sound.parts row ∙ scored_of_sound corpus.schema (values_at corpus.items row) tree sound) ∙ none row))
