use Rattle.sq_postings.specs.StandsFor.{shape_of}
use Rattle.sq_build.proofs.StepLemmas.{map_turn}
use Rattle.sq_build.proofs.rows.shapes_of.Goals as goal

pub loop-row-preserved : goal.loop-row-preserved
loop-row-preserved c =
    map_turn shape_of c.args.schema.now c.loop-row.row c.property_at-property.result.now c.loop-row.shapes c.push.new.self _ c.property_at-property.ensures c.in_ok-push.ensures.ok c.loop-row.invariant
