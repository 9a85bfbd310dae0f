-- The scores and rests of nodes by their parts.
use Rattle.std.proofs.Common.{◌≡◌, ℕ, ◌+◌, not, List, [], ◌∷◌, Option, None, map, sum, refl, sym, ap, ◌∙◌, Vec, Box}
use Rattle.std.specs.List.{list_any}
use Rattle.std.specs.Prelude.{ℤ, pos, is_some}
use Rattle.std.specs.declared.alloc.Global.{Global}
use Rattle.sq_nodes.specs.declared.node.Edges.{Edges}
use Rattle.sq_nodes.specs.declared.node.Node.{Node}
use Rattle.sq_nodes.specs.declared.node.Node.TheFolds.{fold-roll-Node, fold_out-Without, fold_out-Ranked}
use Rattle.sq_nodes.specs.declared.node.Node.TheOpen.{Node-F}
use Rattle.sq_nodes.specs.declared.node.Node.TheVariants.{Edge, Within, And, Or, AndNot, Not, Filter, Xrank, rolls-Edge, rolls-Within, rolls-And, rolls-Or, rolls-AndNot, rolls-Not, rolls-Filter, rolls-Xrank}
use Rattle.sq_nodes.specs.declared.node.Ranged.{Ranged}
use Rattle.sq_nodes.specs.declared.node.Ranked.{Ranked}
use Rattle.sq_nodes.specs.declared.node.Without.{Without}
use Rattle.sq_nodes.specs.Leaves.{plain, within_score, edge_rest}
use Rattle.sq_nodes.specs.Scores.{all_from, some_from, unless, with_boost, node_score, score_at, without_at, ranked_at, node_rest, rest_at, without_rest_at, ranked_rest_at, scores_of}
use Rattle.sq_cursor.specs.Entries.{entries_behind}

abbrev pub Score : Type 0
Score = ℕ → Option ℤ

scores_of_nodes : (nodes : List Node) (row : ℕ) → scores_of (map node_score nodes) row ≡ map (λ node. node_score node row) nodes
scores_of_nodes [] row = refl
scores_of_nodes (node ∷ nodes) row = ap (λ scores. node_score node row ∷ scores) (scores_of_nodes nodes row)

-- ---- scores

pub score_within : (r : Ranged) (row : ℕ) → node_score (Within r) row ≡ within_score r row
score_within r row = ap (λ n. node_score n row) (sym (rolls-Within r)) ∙ ap (λ f. f row) (fold-roll-Node Score Score Score score_at ranked_at without_at (Node-F.Within r))

pub score_and : (parts : Vec Node Global) (row : ℕ) → node_score (And parts) row ≡ all_from (pos 0) (map (λ node. node_score node row) parts.items)
score_and parts row =
    ap (λ n. node_score n row) (sym (rolls-And parts)) ∙ ap (λ f. f row) (fold-roll-Node Score Score Score score_at ranked_at without_at (Node-F.And parts))
    ∙ ap (all_from (pos 0)) (scores_of_nodes parts.items row)

pub score_or : (parts : Vec Node Global) (row : ℕ) → node_score (Or parts) row ≡ some_from None (map (λ node. node_score node row) parts.items)
score_or parts row =
    ap (λ n. node_score n row) (sym (rolls-Or parts)) ∙ ap (λ f. f row) (fold-roll-Node Score Score Score score_at ranked_at without_at (Node-F.Or parts))
    ∙ ap (some_from None) (scores_of_nodes parts.items row)

pub score_not : (inner : Box Node Global) (row : ℕ) → node_score (Not inner) row ≡ plain (not (is_some (node_score inner.value row)))
score_not inner row = ap (λ n. node_score n row) (sym (rolls-Not inner)) ∙ ap (λ f. f row) (fold-roll-Node Score Score Score score_at ranked_at without_at (Node-F.Not inner))

pub score_filter : (inner : Box Node Global) (row : ℕ) → node_score (Filter inner) row ≡ plain (is_some (node_score inner.value row))
score_filter inner row = ap (λ n. node_score n row) (sym (rolls-Filter inner)) ∙ ap (λ f. f row) (fold-roll-Node Score Score Score score_at ranked_at without_at (Node-F.Filter inner))

pub score_and_not : (w : Without) (row : ℕ) →
    node_score (AndNot w) row ≡ unless (list_any is_some (map (λ node. node_score node row) w.others.items)) (node_score w.first.value row)
score_and_not w row =
    ap (λ n. node_score n row) (sym (rolls-AndNot w)) ∙ ap (λ f. f row) (fold-roll-Node Score Score Score score_at ranked_at without_at (Node-F.AndNot w))
    ∙ ap (λ f. f row) (fold_out-Without Score Score Score score_at ranked_at without_at w)
    ∙ ap (λ scores. unless (list_any is_some scores) (node_score w.first.value row)) (scores_of_nodes w.others.items row)

pub score_xrank : (x : Ranked) (row : ℕ) →
    node_score (Xrank x) row ≡ with_boost (list_any is_some (map (λ node. node_score node row) x.ranks.items)) x.boost (node_score x.matched.value row)
score_xrank x row =
    ap (λ n. node_score n row) (sym (rolls-Xrank x)) ∙ ap (λ f. f row) (fold-roll-Node Score Score Score score_at ranked_at without_at (Node-F.Xrank x))
    ∙ ap (λ f. f row) (fold_out-Ranked Score Score Score score_at ranked_at without_at x)
    ∙ ap (λ scores. with_boost (list_any is_some scores) x.boost (node_score x.matched.value row)) (scores_of_nodes x.ranks.items row)

-- ---- rests

pub rest_edge : (e : Edges) → node_rest (Edge e) ≡ edge_rest e
rest_edge e = ap node_rest (sym (rolls-Edge e)) ∙ fold-roll-Node ℕ ℕ ℕ rest_at ranked_rest_at without_rest_at (Node-F.Edge e)

pub rest_within : (r : Ranged) → node_rest (Within r) ≡ entries_behind r.values
rest_within r = ap node_rest (sym (rolls-Within r)) ∙ fold-roll-Node ℕ ℕ ℕ rest_at ranked_rest_at without_rest_at (Node-F.Within r)

pub rest_and : (parts : Vec Node Global) → node_rest (And parts) ≡ sum (map node_rest parts.items)
rest_and parts = ap node_rest (sym (rolls-And parts)) ∙ fold-roll-Node ℕ ℕ ℕ rest_at ranked_rest_at without_rest_at (Node-F.And parts)

pub rest_or : (parts : Vec Node Global) → node_rest (Or parts) ≡ sum (map node_rest parts.items)
rest_or parts = ap node_rest (sym (rolls-Or parts)) ∙ fold-roll-Node ℕ ℕ ℕ rest_at ranked_rest_at without_rest_at (Node-F.Or parts)

pub rest_not : (inner : Box Node Global) → node_rest (Not inner) ≡ node_rest inner.value
rest_not inner = ap node_rest (sym (rolls-Not inner)) ∙ fold-roll-Node ℕ ℕ ℕ rest_at ranked_rest_at without_rest_at (Node-F.Not inner)

pub rest_filter : (inner : Box Node Global) → node_rest (Filter inner) ≡ node_rest inner.value
rest_filter inner = ap node_rest (sym (rolls-Filter inner)) ∙ fold-roll-Node ℕ ℕ ℕ rest_at ranked_rest_at without_rest_at (Node-F.Filter inner)

pub rest_and_not : (w : Without) → node_rest (AndNot w) ≡ node_rest w.first.value + sum (map node_rest w.others.items)
rest_and_not w =
    ap node_rest (sym (rolls-AndNot w)) ∙ fold-roll-Node ℕ ℕ ℕ rest_at ranked_rest_at without_rest_at (Node-F.AndNot w)
    ∙ fold_out-Without ℕ ℕ ℕ rest_at ranked_rest_at without_rest_at w

pub rest_xrank : (x : Ranked) → node_rest (Xrank x) ≡ node_rest x.matched.value + sum (map node_rest x.ranks.items)
rest_xrank x =
    ap node_rest (sym (rolls-Xrank x)) ∙ fold-roll-Node ℕ ℕ ℕ rest_at ranked_rest_at without_rest_at (Node-F.Xrank x)
    ∙ fold_out-Ranked ℕ ℕ ℕ rest_at ranked_rest_at without_rest_at x
