use Rattle.std.proofs.Common.{◌≡◌, ◌++◌, length}
use Rattle.sq_typing.specs.FqlTexts.{phrase_parts}
use Rattle.sq_typing.specs.Together.{together, all_of}
use Rattle.sq_typing.proofs.fql_patterns.phrase_parts.Given as goal

abbrev pub invariant-loop-left : goal.invariant-loop-left
invariant-loop-left l = together (λ xs ys. xs ++ ys) l.parts (all_of (phrase_parts l.left)) ≡ all_of (phrase_parts l.operands)

abbrev pub decreases-loop-left : goal.decreases-loop-left
decreases-loop-left l = length l.left
