use Rattle.std.proofs.Common.{[], get_or, sym, ap, ◌∙◌}
use Rattle.sq_stored.specs.Runs.{run_texts}
use Rattle.sq_stored.proofs.ReadLemmas.{row_values, no_values}
use Rattle.sq_stored.proofs.stored.run_at.Goals as goal

pub returns-in-Some-clause-value : goal.returns-in-Some-clause-value
returns-in-Some-clause-value c =
    λ texts. c.run_in.ensures.value texts ∙ ap (λ values. get_or values c.args.property []) (sym (row_values texts c.args.runs.now c.args.rows.now c.args.row c.in-Some.row (sym c.in-Some.ensures)))

pub returns-in-None-clause-value : goal.returns-in-None-clause-value
returns-in-None-clause-value c =
    λ texts. ap (run_texts texts) c.find_run.ensures ∙ ap (λ values. get_or values c.args.property []) (sym (no_values texts c.args.runs.now c.args.rows.now c.args.row (sym c.in-None.ensures)))
