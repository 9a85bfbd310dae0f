use Rattle.sq_coded.proofs.SealLemmas.{SealedTo}
use Rattle.sq_coded.proofs.open_lists.flush_all.Given as goal

abbrev pub invariant-loop-list : goal.invariant-loop-list
invariant-loop-list l = SealedTo l.list l.pool l.chains.items l.blocks.items l.fn.pool l.fn.chains.items l.fn.blocks.items
