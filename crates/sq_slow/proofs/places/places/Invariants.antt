use Rattle.std.proofs.Common.{◌≡◌, ◌++◌, ◌-◌, length}
use Rattle.std.specs.List.{filter, range_with_len}
use Rattle.sq_tokens.specs.Pattern.{fits_at}
use Rattle.sq_model.specs.Places.{places}
use Rattle.sq_slow.proofs.places.places.Given as goal

abbrev pub invariant-loop-i : goal.invariant-loop-i
invariant-loop-i l = l.found ++ filter (fits_at l.pattern l.passage) (range_with_len l.i (length l.passage - l.i)) ≡ places l.pattern l.passage
