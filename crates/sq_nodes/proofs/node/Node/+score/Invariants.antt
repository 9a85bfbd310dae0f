use Rattle.std.proofs.Common.{◌≡◌, ℕ, ◌+◌, ◌≤◌, ◌<◌, None, map, sum, drop}
use Rattle.std.specs.Prelude.{pos, is_some}
use Rattle.std.specs.List.{list_any}
use Rattle.sq_nodes.specs.Scores.{node_score, node_rest, all_from, some_from}
use Rattle.sq_nodes.proofs.node.Node.+score.Given as goal

abbrev pub invariant-all_score-loop-i : goal.invariant-all_score-loop-i
invariant-all_score-loop-i g l = record {
  unvisited : goal.unvisited-all_score-loop-i g l;
  now : all_from l.total (map (λ node. node_score node l.row) (drop l.i l.parts.items)) ≡ all_from (pos 0) (map (λ node. node_score node l.row) l.fn.parts.items);
  later : (r : ℕ) → l.row < r → map (λ node. node_score node r) l.parts.items ≡ map (λ node. node_score node r) l.fn.parts.items;
  cost : l.steps + sum (map node_rest l.parts.items) ≤ l.fn.steps + sum (map node_rest l.fn.parts.items);
}

abbrev pub invariant-some_score-loop-i : goal.invariant-some_score-loop-i
invariant-some_score-loop-i g l = record {
  unvisited : goal.unvisited-some_score-loop-i g l;
  now : some_from l.total (map (λ node. node_score node l.row) (drop l.i l.parts.items)) ≡ some_from None (map (λ node. node_score node l.row) l.fn.parts.items);
  later : (r : ℕ) → l.row < r → map (λ node. node_score node r) l.parts.items ≡ map (λ node. node_score node r) l.fn.parts.items;
  cost : l.steps + sum (map node_rest l.parts.items) ≤ l.fn.steps + sum (map node_rest l.fn.parts.items);
}

abbrev pub invariant-some_holds-loop-i : goal.invariant-some_holds-loop-i
invariant-some_holds-loop-i g l = record {
  unvisited : goal.unvisited-some_holds-loop-i g l;
  now : list_any (λ node. is_some (node_score node l.row)) (drop l.i l.parts.items) ≡ list_any (λ node. is_some (node_score node l.row)) l.fn.parts.items;
  later : (r : ℕ) → l.row < r → map (λ node. node_score node r) l.parts.items ≡ map (λ node. node_score node r) l.fn.parts.items;
  cost : l.steps + sum (map node_rest l.parts.items) ≤ l.fn.steps + sum (map node_rest l.fn.parts.items);
}
