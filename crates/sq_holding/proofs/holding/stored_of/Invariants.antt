use Rattle.std.proofs.Common.{◌≡◌, ◌++◌, true, length}
use Rattle.std.specs.List.{list_all}
use Rattle.sq_model.specs.Valid.{is_item}
use Rattle.sq_stored.specs.Stored.{stored_items}
use Rattle.sq_holding.proofs.holding.stored_of.Given as goal

abbrev pub invariant-loop-item : goal.invariant-loop-item
invariant-loop-item l = record {
  kept : l.stored ++ stored_items l.schema l.left.items ≡ stored_items l.schema l.fn.items;
  fit : list_all (is_item l.schema) l.left.items ≡ true;
}

abbrev pub decreases-loop-item : goal.decreases-loop-item
decreases-loop-item l = length l.left.items
