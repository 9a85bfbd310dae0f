use Rattle.std.proofs.Common.{◌≡◌, ◌+◌, drop, length}
use Rattle.std.specs.List.{sum_by}
use Rattle.sq_model.specs.Places.{places}
use Rattle.sq_slow.specs.TextValues.{passages_in}
use Rattle.sq_slow.proofs.fql_passages.count_in.Given as goal

abbrev pub invariant-loop-text : goal.invariant-loop-text
invariant-loop-text l =
    l.count + sum_by (λ passage. length (places l.pattern passage)) (passages_in (drop l.text-index l.texts) l.property)
    ≡ sum_by (λ passage. length (places l.pattern passage)) (passages_in l.texts l.property)
