use Rattle.std.proofs.Common.{◌≡◌, ℕ, ◌+◌, ◌≤◌, ◌<◌, true, false, map, sum, take}
use Rattle.std.specs.Prelude.{IfSome, is_some}
use Rattle.std.specs.List.{list_any}
use Rattle.sq_nodes.specs.Leaves.{IsBefore}
use Rattle.sq_nodes.specs.Scores.{node_score, node_rest}
use Rattle.sq_nodes.proofs.PartLemmas.{fails}
use Rattle.sq_nodes.proofs.node.Node.+skip.Given as goal

abbrev pub invariant-all_skip-loop-i : goal.invariant-all_skip-loop-i
invariant-all_skip-loop-i g l = record {
  unvisited : goal.unvisited-all_skip-loop-i g l;
  forward : l.row ≤ l.to;
  later : (r : ℕ) → l.to ≤ r → map (λ node. node_score node r) l.parts.items ≡ map (λ node. node_score node r) l.fn.parts.items;
  passed : (r : ℕ) → l.row ≤ r → r < l.to → list_any (λ node. fails (node_score node r)) (take l.i l.parts.items) ≡ true;
  failed : (r : ℕ) → l.row ≤ r → r < l.to → list_any (λ node. fails (node_score node r)) l.fn.parts.items ≡ true;
  cost : l.steps + sum (map node_rest l.parts.items) ≤ l.fn.steps + sum (map node_rest l.fn.parts.items);
}

abbrev pub invariant-some_skip-loop-i : goal.invariant-some_skip-loop-i
invariant-some_skip-loop-i g l = record {
  unvisited : goal.unvisited-some_skip-loop-i g l;
  none : (r : ℕ) → l.row ≤ r → IsBefore r l.next → list_any (λ node. is_some (node_score node r)) (take l.i l.parts.items) ≡ false;
  forward : IfSome l.next (λ to. l.row ≤ to);
  later : (r : ℕ) → l.row ≤ r → map (λ node. node_score node r) l.parts.items ≡ map (λ node. node_score node r) l.fn.parts.items;
  cost : l.steps + sum (map node_rest l.parts.items) ≤ l.fn.steps + sum (map node_rest l.fn.parts.items);
}
