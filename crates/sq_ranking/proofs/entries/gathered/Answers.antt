use Rattle.std.proofs.Common.{◌≡◌, ◌++◌, sym, ◌∙◌, ap}
use Rattle.std.specs.List.{count_by}
use Rattle.sq_ranking.specs.Ranking.{has, values}
use Rattle.sq_ranking.proofs.CountLemmas.{gathered_more, gathered_all, whole}
use Rattle.sq_ranking.proofs.entries.gathered.Goals as goal

pub loop-hit-preserved : goal.loop-hit-preserved
loop-hit-preserved c = λ value.
    let longer : c.extend_from_slice.new.self.items ≡ c.loop-hit.numbers.items ++ values c.hit-item.result =
    c.in_ok-extend_from_slice.ensures.items ∙ ap (λ xs. c.loop-hit.numbers.items ++ xs) (c.deref.ensures.value ∙ c.in_ok-once.ensures ∙ ap values c.as_slice.ensures) in
    rw longer (gathered_more c.args.hits.now c.loop-hit.hit-index c.loop-hit.numbers.items c.hit-item.result c.loop-hit-test.true (sym c.hit-item.is) c.loop-hit.invariant value)

pub returns : goal.returns
returns c =
    let hits = c.args.hits.now in
    gathered_all hits c.loop-hit.numbers.items c.sort_unstable.new.self.items
    (λ value. c.loop-hit.invariant value ∙ ap (λ some. count_by (has value) some) (whole c.loop-hit.hit-index hits c.loop-hit-test.false))
    c.sort_unstable.ensures.permutation c.sort_unstable.ensures.sorted
