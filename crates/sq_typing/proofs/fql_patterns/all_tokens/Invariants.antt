use Rattle.std.proofs.Common.{◌≡◌, ◌++◌, ◌-◌, map, length}
use Rattle.std.specs.List.{range_with_len}
use Rattle.sq_model.specs.declared.fql.FTree.TheVariants as tree
use Rattle.sq_typing.specs.FqlTexts.{single_leaf, for_tokens}
use Rattle.sq_typing.proofs.fql_patterns.all_tokens.Given as goal

abbrev pub invariant-loop-i : goal.invariant-loop-i
invariant-loop-i l =
    l.all ++ map (λ i. tree.Spans l.look (single_leaf l.whole i)) (range_with_len l.i (length l.whole.pattern.texts - l.i)) ≡ for_tokens (tree.Spans l.look) l.whole
