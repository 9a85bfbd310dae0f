use Rattle.std.proofs.Common.{map, length, ap, ◌∙◌}
use Rattle.sq_typing.specs.Forms.{with_all}
use Rattle.sq_typing.proofs.DistinctLemmas.{distinct_of_all}
use Rattle.sq_typing.proofs.forms.weights_of.Goals as goal

pub loop-leaf-init : goal.loop-leaf-init
loop-leaf-init c =
    let lengths = map (λ leaf. length leaf.pattern.texts) c.args.leaves.now in
    ap (λ seen. with_all seen lengths) c.new-weights.ensures.items ∙ distinct_of_all lengths
