use Rattle.std.proofs.Common.{◌≡◌, ◌++◌, false, map, drop, take, string_bytes}
use Rattle.std.specs.List.{All}
use Rattle.sq_fql.specs.CanonLaw.{AreTexts}
use Rattle.sq_fql.specs.Canon.{canon, listed}
use Rattle.sq_fql.proofs.print.+printing.Given as goal

abbrev pub invariant-push_operands-loop-tree : goal.invariant-push_operands-loop-tree
invariant-push_operands-loop-tree l =
    (string_bytes l.text ++ listed l.behind (map canon (drop l.tree-index l.trees)) ≡ string_bytes l.initial.text ++ listed false (map canon l.trees))
    × All AreTexts (take l.tree-index l.trees)
