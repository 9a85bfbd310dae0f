use Rattle.std.proofs.Common.{◌≡◌, ◌++◌, drop, true}
use Rattle.std.specs.List.{list_all}
use Rattle.sq_slow.specs.TextValues.{text_values}
use Rattle.sq_model.specs.Valid.{is_short}
use Rattle.sq_slow.proofs.seen.text_values.Given as goal

abbrev pub invariant-loop-value : goal.invariant-loop-value
invariant-loop-value l =
    (l.texts ++ text_values (drop l.value-index l.value-items) ≡ text_values l.item.values)
    × (list_all (λ value. is_short value.content) (drop l.value-index l.value-items) ≡ true)
