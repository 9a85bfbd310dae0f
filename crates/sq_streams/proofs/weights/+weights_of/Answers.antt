use Rattle.std.proofs.Common.{◌+◌, drop, map, ap, sym, ◌∙◌}
use Rattle.std.specs.Prelude.{sum}
use Rattle.sq_model.specs.Copies.{distinct, weights}
use Rattle.sq_model.specs.Lists.{joined}
use Rattle.sq_model.specs.Triples.{choices}
use Rattle.sq_streams.specs.TreeWeights.{with_all}
use Rattle.sq_streams.proofs.TreeLoops.{here_of, past}
use Rattle.sq_streams.proofs.WeightLemmas.{distinct_of_all, with_all-append, weights_near}
use Rattle.sq_streams.proofs.weights.+weights_of.Goals as goal

pub weights_of-returns-in_ok-found-in-Near : goal.weights_of-returns-in_ok-found-in-Near
weights_of-returns-in_ok-found-in-Near t c =
    c.in_ok-found-in-Near.ensures
    ∙ (ap (λ parts. distinct (map sum (choices (map weights parts)))) c.as_slice-in-Near.ensures
    ∙ (sym (weights_near c.in-Near.parts c.in-Near.n c.in-Near.ordered) ∙ ap weights (sym c.in-Near.is)))

pub weights_of_union-loop-part-preserved : goal.weights_of_union-loop-part-preserved
weights_of_union-loop-part-preserved t c =
    let found = c.loop-part.found.items in
    let rest = drop (c.loop-part.part-index + 1) c.args.parts.now in
    ap (λ ns. with_all ns (joined (map weights rest))) (c.in_ok-put_all.ensures ∙ ap (with_all found) (c.as_slice.ensures.value ∙ c.in_ok-more.ensures))
    ∙ (sym (with_all-append found (weights c.part-item.result) (joined (map weights rest)))
    ∙ (ap (λ parts. with_all found (joined (map weights parts))) (sym (here_of c.args.parts.now c.loop-part.part-index c.part-item.result c.loop-part-test.true c.part-item.is)) ∙ c.loop-part.invariant))

pub weights_of_union-returns : goal.weights_of_union-returns
weights_of_union-returns t c =
    ap (λ parts. with_all c.loop-part.found.items (joined (map weights parts))) (sym (past c.args.parts.now c.loop-part.part-index c.loop-part-test.false))
    ∙ (c.loop-part.invariant ∙ distinct_of_all (joined (map weights c.args.parts.now)))
