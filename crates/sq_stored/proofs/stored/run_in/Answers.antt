use Rattle.std.proofs.Common.{sym, subst, ap, ◌∙◌}
use Rattle.sq_stored.specs.Runs.{IsRunIn, run_texts}
use Rattle.sq_stored.proofs.ReadLemmas.{own_texts, no_texts, own_within}
use Rattle.sq_stored.proofs.stored.run_in.Goals as goal

pub returns-then-property-row-clause-value : goal.returns-then-property-row-clause-value
returns-then-property-row-clause-value c =
    λ texts. ap (run_texts texts) c.find_run.ensures ∙ own_texts texts c.args.runs.now c.args.row c.args.property c.if-property-row.true

pub returns-then-property-row-clause-within : goal.returns-then-property-row-clause-within
returns-then-property-row-clause-within c =
    λ count all. subst (IsRunIn count) (sym c.find_run.ensures) (own_within count c.args.runs.now c.args.row.start c.args.row.end c.args.property all)

pub returns-else-property-row-clause-value : goal.returns-else-property-row-clause-value
returns-else-property-row-clause-value c =
    λ texts. ap (run_texts texts) c.find_run-else-property-row.ensures ∙ no_texts texts c.args.runs.now c.args.row c.args.property c.if-property-row.false
