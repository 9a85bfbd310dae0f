use Rattle.std.proofs.Common.{◌≡◌, ◌<◌, [], length, ap, ◌∙◌, arith}
use Rattle.std.proofs.lemmas.List.{get_or_default}
use Rattle.sq_coded.proofs.SealLemmas.{SealedTo-more, AreCoded-sealed, postings_in-sealed}
use Rattle.sq_coded.proofs.open_lists.flush_all.Goals as goal

pub loop-list-preserved : goal.loop-list-preserved
loop-list-preserved c =
    let at = c.loop-list in
    let many : length at.chains.items ≡ length c.args.chains.now.items = ap length at.invariant.same in
    let below : at.list < length c.args.chains.now.items = omega (arith, c.len-list-end.ensures, c.args.chains.now.ok.0) in
    let is = c.index_mut.ensures.value ∙ get_or_default at.chains.items at.list c.index_mut.result.now 0 (omega (arith, many, below)) in
    let there = c.index_mut-in-loop-list.ensures.value
    ∙ get_or_default at.blocks.items at.list c.index_mut-in-loop-list.result.now [] (omega (arith, at.invariant.count, c.requires.enough, below)) in
    SealedTo-more at.list at.pool c.flush.new.pool at.chains.items at.blocks.items c.args.pool.now c.args.chains.now.items c.args.blocks.now.items
    c.index_mut.result.now c.flush.new.chain c.index_mut-in-loop-list.result.now c.flush.new.block at.invariant c.requires below is there
    c.in_ok-flush.ensures.chain c.in_ok-flush.ensures.live c.in_ok-flush.ensures.others c.in_ok-flush.ensures.words

pub returns-clause-coded : goal.returns-clause-coded
returns-clause-coded c =
    let at = c.loop-list in
    AreCoded-sealed at.list at.pool at.chains.items at.blocks.items c.args.pool.now c.args.chains.now.items c.args.blocks.now.items at.invariant c.requires
    (omega (arith, ap length at.invariant.same, c.len-list-end.ensures, c.args.chains.now.ok.0))

pub returns-clause-same : goal.returns-clause-same
returns-clause-same c =
    let at = c.loop-list in
    postings_in-sealed at.list at.pool at.chains.items at.blocks.items c.args.pool.now c.args.chains.now.items c.args.blocks.now.items at.invariant c.requires
    (omega (arith, ap length at.invariant.same, c.len-list-end.ensures, c.args.chains.now.ok.0))
