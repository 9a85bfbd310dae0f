use Rattle.std.proofs.Common.{◌++◌, ◌∙◌, ap}
use Rattle.sq_service.specs.Rows.{new_row}
use Rattle.sq_service.proofs.RowLemmas.{row_loop}
use Rattle.sq_service.proofs.rows.rows_of.Goals as goal

pub loop-name-preserved : goal.loop-name-preserved
loop-name-preserved c =
    row_loop c.args.schema.now c.args.names.now c.loop-name.name-index c.name-item.result c.loop-name.rows c.add_row.new.rows _ c.loop-name-test.true
    c.name-item.is (c.in_ok-add_row.ensures ∙ ap (λ name. c.loop-name.rows ++ new_row c.args.schema.now name c.loop-name.rows) c.as_str.ensures) c.loop-name.invariant
