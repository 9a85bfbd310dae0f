use Rattle.std.proofs.Common.{◌≡◌, IfOk, map, subst, sym, ap, ◌∙◌}
use Rattle.sq_model.specs.Triples.{near}
use Rattle.sq_model.specs.Spans.{triples}
use Rattle.sq_model.proofs.FqlEquations.{triples_near}
use Rattle.sq_slow.proofs.fql_spans.+spans.Goals as goal

pub triples-returns-in_ok-lists-in-Near : goal.triples-returns-in_ok-lists-in-Near
triples-returns-in_ok-lists-in-Near t c =
    subst (λ v. IfOk c.near.result (λ found. found ≡ v))
    (ap (near c.in-Near.n c.in-Near.ordered) (c.as_slice-in-Near-2.ensures ∙ (c.in_ok-lists-in-Near.ensures ∙ ap (map (triples c.args.passage.now)) c.as_slice-in-Near.ensures))
    ∙ (sym (triples_near c.args.passage.now c.in-Near.parts c.in-Near.n c.in-Near.ordered) ∙ ap (triples c.args.passage.now) (sym c.in-Near.is)))
    c.near.ensures
