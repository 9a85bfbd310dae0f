use Rattle.std.proofs.Common.{ap, ◌∙◌, [], ◌∷◌, ◌++◌}
use Rattle.sq_build.specs.Numbers.{numbers_of_property}
use Rattle.sq_build.proofs.StepLemmas.{range_turn}
use Rattle.sq_build.proofs.numbers.numbers_by_property.Goals as goal

pub loop-property-preserved : goal.loop-property-preserved
loop-property-preserved c =
    range_turn (numbers_of_property c.args.items.now) c.loop-property.property c.args.properties c.loop-property.all c.push.new.self _ c.loop-property-test.true
    (c.in_ok-push.ensures.ok ∙ ap (λ x. c.loop-property.all ++ x ∷ []) c.in_ok-numbers_of.ensures) c.loop-property.invariant
