use Rattle.std.proofs.Common.{◌+◌, ◌∷◌, [], ◌++◌, drop, ap, ap₂, sym, ◌∙◌}
use Rattle.sq_model.specs.Triples.{choices}
use Rattle.sq_streams.specs.TreeWeights.{extended}
use Rattle.sq_streams.proofs.TreeLoops.{here_of, past}
use Rattle.sq_streams.proofs.WeightLemmas.{continued, continued_start, continued_more, continued_end}
use Rattle.sq_streams.proofs.weights.choices_of.Goals as goal

pub loop-list-init : goal.loop-list-init
loop-list-init c =
    ap (λ all. continued all (choices c.args.lists.now)) (c.in_ok-push.ensures.ok ∙ ap₂ (λ all none. all ++ none ∷ []) c.new-all.ensures c.new.ensures) ∙ continued_start c.args.lists.now

pub loop-list-preserved : goal.loop-list-preserved
loop-list-preserved c =
    let rest = drop (c.loop-list.list-index + 1) c.args.lists.now in
    ap (λ all. continued all (choices rest)) (c.in_ok-all.ensures ∙ ap (extended c.loop-list.all) c.as_slice.ensures)
    ∙ (continued_more c.loop-list.all c.list-item.result rest
    ∙ (ap (λ lists. continued c.loop-list.all (choices lists)) (sym (here_of c.args.lists.now c.loop-list.list-index c.list-item.result c.loop-list-test.true c.list-item.is)) ∙ c.loop-list.invariant))

pub returns : goal.returns
returns c =
    sym (continued_end c.loop-list.all)
    ∙ (ap (λ lists. continued c.loop-list.all (choices lists)) (sym (past c.args.lists.now c.loop-list.list-index c.loop-list-test.false)) ∙ c.loop-list.invariant)
