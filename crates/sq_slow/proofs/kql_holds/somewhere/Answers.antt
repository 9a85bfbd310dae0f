use Rattle.std.proofs.Common.{arith, ◌+◌, not, drop}
use Rattle.std.proofs.lemmas.Grind.{common_steps}
use Rattle.std.specs.Prelude.{get_or}
use Rattle.sq_model.specs.Lists.{is_empty}
use Rattle.sq_model.specs.Kql.{triples}
use Rattle.sq_slow.proofs.SeenLemmas.{any_in_rows}
use Rattle.sq_slow.proofs.kql_holds.somewhere.Goals as goal

pub returns-then-branch : goal.returns-then-branch
returns-then-branch c =
    let rows = c.as_slice-row-items.result.now in
    let i = c.loop-row.row-index in
    let step = any_in_rows (λ passage. not (is_empty (triples passage c.args.tree.now))) c.args.texts.now c.args.item.now.values (get_or rows i 0) (drop (i + 1) rows) c.requires in
    grind (arith, common_steps, step, c.loop-row.invariant, c.in_ok-matches_in.ensures, c.if-branch.true)

pub loop-row-preserved : goal.loop-row-preserved
loop-row-preserved c =
    let rows = c.as_slice-row-items.result.now in
    let i = c.loop-row.row-index in
    let step = any_in_rows (λ passage. not (is_empty (triples passage c.args.tree.now))) c.args.texts.now c.args.item.now.values (get_or rows i 0) (drop (i + 1) rows) c.requires in
    grind (arith, common_steps, step, c.loop-row.invariant, c.in_ok-matches_in.ensures, c.if-branch.false)
