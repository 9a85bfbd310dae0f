use Rattle.std.proofs.Common.{arith, ℕ, ◌+◌, drop, length, ap, ◌∙◌}
use Rattle.std.proofs.lemmas.Grind.{common_steps}
use Rattle.std.specs.Prelude.{get_or}
use Rattle.std.specs.List.{sum_by, flat_map}
use Rattle.sq_model.specs.Places.{places}
use Rattle.sq_model.specs.Passages.{Passage, passages}
use Rattle.sq_slow.proofs.LookedLemmas.{looked_by_rows, sum_in_rows}
use Rattle.sq_slow.proofs.fql_passages.count_all.Goals as goal

pub loop-row-init : goal.loop-row-init
loop-row-init c =
    let count : Passage → ℕ = λ passage. length (places c.args.pattern.now passage) in
    ap (λ rows. 0 + sum_by count (flat_map (passages c.args.item.now.values) rows)) (c.as_slice-row-items.ensures ∙ c.in_ok-rows.ensures)
    ∙ (ap (λ all. 0 + sum_by count all) (looked_by_rows c.args.look c.args.schema.now c.args.item.now.values) ∙ omega arith)

pub loop-row-preserved : goal.loop-row-preserved
loop-row-preserved c =
    let count : Passage → ℕ = λ passage. length (places c.args.pattern.now passage) in
    let rows = c.as_slice-row-items.result.now in
    let i = c.loop-row.row-index in
    let step = sum_in_rows count c.args.texts.now c.args.item.now.values (get_or rows i 0) (drop (i + 1) rows) c.requires in
    grind (arith, common_steps, step, c.loop-row.invariant, c.in_ok-more.ensures, c.in_ok-count.ensures)
