use Rattle.std.proofs.Common.{sym, ◌∙◌}
use Rattle.sq_service.proofs.PropertyLemmas.{refinable_none, refinable_past, refinable_row}
use Rattle.sq_service.proofs.refiners.is_refinable.Goals as goal

pub returns-in_default : goal.returns-in_default
returns-in_default c = refinable_none c.args.schema.now c.args.refiner.now c.as_str.result.now c.as_str.ensures (sym c.find.ensures ∙ c.in_default.is)

pub returns-in-Some-property : goal.returns-in-Some-property
returns-in-Some-property c =
    refinable_row c.args.schema.now c.args.refiner.now c.as_str.result.now c.as_str.ensures c.in-Some.row c.in-Some-property.property.now
    (sym c.find.ensures ∙ c.in-Some.is) c.in-Some-property.ensures

pub returns-in-None : goal.returns-in-None
returns-in-None c =
    refinable_past c.args.schema.now c.args.refiner.now c.as_str.result.now c.as_str.ensures c.in-Some.row (sym c.find.ensures ∙ c.in-Some.is) c.in-None.ensures
