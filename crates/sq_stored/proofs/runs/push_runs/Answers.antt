use Rattle.sq_stored.specs.Shown.{shown_values}
use Rattle.sq_stored.proofs.GrownLemmas.{grown_trans}
use Rattle.sq_stored.proofs.RunLemmas.{texts_turn, runs_turn}
use Rattle.sq_stored.proofs.runs.push_runs.Goals as goal

pub loop-property-preserved : goal.loop-property-preserved
loop-property-preserved c =
    let held = c.loop-property.invariant in
    let given = c.in_ok-push_run.ensures in
    let values = c.args.values.now in
    let i = c.loop-property.property in
    let n = c.args.properties in
    let inside = c.loop-property-test.true in (
      texts_turn (shown_values values) c.loop-property.texts c.push_run.new.texts _ i n inside given.texts held.0,
      runs_turn values c.loop-property.texts c.push_run.new.texts c.loop-property.runs.items c.push_run.new.runs.items _ i n inside given.texts given.runs held.1,
      grown_trans _ _ _ held.2 given.grown_texts,
      grown_trans _ _ _ held.3 given.grown_runs,
      given.within,
    )
