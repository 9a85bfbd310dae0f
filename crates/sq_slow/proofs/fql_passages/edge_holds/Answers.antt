use Rattle.std.proofs.Common.{arith, ◌+◌, drop, ap, ◌∙◌}
use Rattle.std.proofs.lemmas.Grind.{common_steps}
use Rattle.std.specs.Prelude.{get_or}
use Rattle.std.specs.List.{list_any, flat_map}
use Rattle.sq_model.specs.Places.{fits_edge}
use Rattle.sq_model.specs.Passages.{passages}
use Rattle.sq_slow.proofs.SeenLemmas.{any_in_rows}
use Rattle.sq_slow.proofs.LookedLemmas.{looked_by_rows}
use Rattle.sq_slow.proofs.fql_passages.edge_holds.Goals as goal

pub loop-row-init : goal.loop-row-init
loop-row-init c =
    let test = (fits_edge c.args.pattern.now c.args.starts c.args.ends) in
    ap (λ rows. list_any test (flat_map (passages c.args.item.now.values) rows)) (c.as_slice-row-items.ensures ∙ c.in_ok-rows.ensures)
    ∙ ap (list_any test) (looked_by_rows c.args.look c.args.schema.now c.args.item.now.values)

pub returns-then-branch : goal.returns-then-branch
returns-then-branch c =
    let test = (fits_edge c.args.pattern.now c.args.starts c.args.ends) in
    let rows = c.as_slice-row-items.result.now in
    let i = c.loop-row.row-index in
    let step = any_in_rows test c.args.texts.now c.args.item.now.values (get_or rows i 0) (drop (i + 1) rows) c.requires in
    grind (arith, common_steps, step, c.loop-row.invariant, c.in_ok-fits_edge_in.ensures, c.if-branch.true)

pub loop-row-preserved : goal.loop-row-preserved
loop-row-preserved c =
    let test = (fits_edge c.args.pattern.now c.args.starts c.args.ends) in
    let rows = c.as_slice-row-items.result.now in
    let i = c.loop-row.row-index in
    let step = any_in_rows test c.args.texts.now c.args.item.now.values (get_or rows i 0) (drop (i + 1) rows) c.requires in
    grind (arith, common_steps, step, c.loop-row.invariant, c.in_ok-fits_edge_in.ensures, c.if-branch.false)
