use Rattle.std.proofs.Common.{◌≡◌, ◌++◌, map, drop}
use Rattle.sq_typing.specs.FqlTexts.{word_in}
use Rattle.sq_typing.specs.Together.{together, all_of}
use Rattle.sq_typing.proofs.fql_texts.each_word.Given as goal

abbrev pub invariant-loop-operand : goal.invariant-loop-operand
invariant-loop-operand l = together (λ xs ys. xs ++ ys) l.words (all_of (map word_in (drop l.operand-index l.operands))) ≡ all_of (map word_in l.operands)
