-- The scores of nodes by those of their parts.
use Rattle.std.proofs.Common.{◌≡◌, ℕ, map, Vec, Box, sym, ap, ◌∙◌}
use Rattle.std.specs.Prelude.{ℤ, is_some, Option}
use Rattle.std.specs.declared.alloc.Global.{Global}
use Rattle.sq_near.specs.declared.stream.Stream.{Stream}
use Rattle.sq_postings.specs.declared.posts.PostCursor.{PostCursor}
use Rattle.sq_nodes.specs.declared.node.Node.{Node}
use Rattle.sq_nodes.specs.declared.node.Node.TheVariants.{Spans, Count, Edge, Within, And, Or, AndNot, Filter, Xrank, rolls-Spans, rolls-Count, rolls-Edge, rolls-Within, rolls-And, rolls-Or, rolls-AndNot, rolls-Filter, rolls-Xrank}
use Rattle.sq_nodes.specs.declared.node.Node.TheFolds.{fold-roll-Node, map-Node}
use Rattle.sq_nodes.specs.declared.node.Node.TheOpen.{Node-F}
use Rattle.sq_nodes.specs.declared.node.Node.TheViews.{roll-Node}
use Rattle.sq_nodes.specs.declared.node.Without.{Without}
use Rattle.sq_nodes.specs.declared.node.Ranked.{Ranked}
use Rattle.sq_nodes.specs.declared.node.Counted.{Counted}
use Rattle.sq_nodes.specs.declared.node.Edges.{Edges}
use Rattle.sq_nodes.specs.declared.node.Ranged.{Ranged}
use Rattle.sq_nodes.specs.Leaves.{plain, spans_score, count_score, edge_score, within_score}
use Rattle.sq_nodes.specs.Scores.{node_score, without_score, ranked_score, score_at, without_at, ranked_at, all_scores, some_scores}

-- ---- what each variant scores

module _ (r : ℕ) where
  of_variant : (x : Node-F Node Ranked Without) (n : Node) → roll-Node x ≡ n →
      node_score n r ≡ score_at (map-Node Node Ranked Without (ℕ → Option ℤ) (ℕ → Option ℤ) (ℕ → Option ℤ) node_score ranked_score without_score x) r
  of_variant x n e = ap (λ node. node_score node r) (sym e) ∙ ap (λ f. f r) (fold-roll-Node (ℕ → Option ℤ) (ℕ → Option ℤ) (ℕ → Option ℤ) score_at ranked_at without_at x)

  pub score-Spans : (streams : Vec (Stream PostCursor) Global) → node_score (Spans streams) r ≡ spans_score streams.items r
  score-Spans streams = of_variant (Node-F.Spans streams) (Spans streams) (rolls-Spans streams)

  pub score-Count : (counted : Counted) → node_score (Count counted) r ≡ count_score counted r
  score-Count counted = of_variant (Node-F.Count counted) (Count counted) (rolls-Count counted)

  pub score-Edge : (edges : Edges) → node_score (Edge edges) r ≡ edge_score edges r
  score-Edge edges = of_variant (Node-F.Edge edges) (Edge edges) (rolls-Edge edges)

  pub score-Within : (ranged : Ranged) → node_score (Within ranged) r ≡ within_score ranged r
  score-Within ranged = of_variant (Node-F.Within ranged) (Within ranged) (rolls-Within ranged)

  pub score-And : (parts : Vec Node Global) → node_score (And parts) r ≡ all_scores (map node_score parts.items) r
  score-And parts = of_variant (Node-F.And parts) (And parts) (rolls-And parts)

  pub score-Or : (parts : Vec Node Global) → node_score (Or parts) r ≡ some_scores (map node_score parts.items) r
  score-Or parts = of_variant (Node-F.Or parts) (Or parts) (rolls-Or parts)

  pub score-AndNot : (without : Without) → node_score (AndNot without) r ≡ without_score without r
  score-AndNot without = of_variant (Node-F.AndNot without) (AndNot without) (rolls-AndNot without)

  pub score-Filter : (inner : Box Node Global) → node_score (Filter inner) r ≡ plain (is_some (node_score inner.value r))
  score-Filter inner = of_variant (Node-F.Filter inner) (Filter inner) (rolls-Filter inner)

  pub score-Xrank : (ranked : Ranked) → node_score (Xrank ranked) r ≡ ranked_score ranked r
  score-Xrank ranked = of_variant (Node-F.Xrank ranked) (Xrank ranked) (rolls-Xrank ranked)
