use Rattle.std.proofs.Common.{◌≡◌, ◌++◌, ◌-◌, map, length}
use Rattle.std.specs.List.{range_with_len}
use Rattle.sq_typing.specs.FqlTexts.{single_leaf, single_spans}
use Rattle.sq_typing.proofs.fql_patterns.single_spans.Given as goal

abbrev pub invariant-loop-i : goal.invariant-loop-i
invariant-loop-i l = l.all ++ map (λ i. single_leaf l.whole i) (range_with_len l.i (length l.whole.pattern.texts - l.i)) ≡ single_spans l.whole
