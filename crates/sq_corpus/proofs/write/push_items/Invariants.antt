use Rattle.std.proofs.Common.{◌≡◌, ◌++◌, true, length, string_bytes}
use Rattle.std.specs.List.{flat_map, list_all}
use Rattle.sq_corpus.specs.Writes.{are_shown}
use Rattle.sq_corpus.specs.Written.{item_text}
use Rattle.sq_corpus.proofs.write.push_items.Given as goal

abbrev pub invariant-loop-items : goal.invariant-loop-items
invariant-loop-items l =
    (string_bytes l.out ++ flat_map (item_text l.schema) l.items ≡ string_bytes l.fn.out ++ flat_map (item_text l.schema) l.initial.items)
    × (list_all are_shown l.items ≡ true)

abbrev pub decreases-loop-items : goal.decreases-loop-items
decreases-loop-items l = length l.items
