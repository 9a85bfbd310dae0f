use Rattle.std.proofs.Common.{◌≡◌, ◌++◌, map, drop, length}
use Rattle.sq_model.specs.Triples.{at_place, of_phrase}
use Rattle.sq_slow.proofs.places.of_phrase.Given as goal

abbrev pub invariant-loop-i : goal.invariant-loop-i
invariant-loop-i l = l.found ++ map (at_place (length l.pattern.texts)) (drop l.i-index l.i-items) ≡ of_phrase l.pattern l.passage
