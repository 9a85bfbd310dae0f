use Rattle.std.proofs.Common.{◌≡◌, ◌++◌, drop}
use Rattle.sq_stored.specs.Stored.{stored_items}
use Rattle.sq_stored.proofs.stored.Stored.build.Given as goal

abbrev pub invariant-loop-item : goal.invariant-loop-item
invariant-loop-item l = l.stored ++ stored_items l.corpus.schema (drop l.item-index l.item-items) ≡ stored_items l.corpus.schema l.item-items
