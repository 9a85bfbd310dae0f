use Rattle.std.proofs.Common.{◌≡◌, None, arith}
use Rattle.sq_near.specs.Moves.{first_of}
use Rattle.sq_near.specs.Rows.{spans_in}
use Rattle.sq_nodes.specs.Leaves.{spans_left}
use Rattle.sq_nodes.proofs.StreamLemmas.{length_end}
use Rattle.sq_nodes.proofs.leaves.count_in.Goals as goal

pub returns-clause-value : goal.returns-clause-value
returns-clause-value g c =
    let here = spans_in c.args.row (spans_left c.loop-count.stream) in
    let none : first_of here ≡ None = cc in
    omega (arith, length_end here none, c.loop-count.invariant.count, c.loop-count.invariant.most)
