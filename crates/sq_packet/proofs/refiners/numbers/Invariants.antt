use Rattle.std.proofs.Common.{◌≡◌, length, map}
use Rattle.sq_packet.specs.Refiners.{numbers_of}
use Rattle.sq_packet.proofs.NumbersLemmas.{behind_numbers}
use Rattle.sq_packet.proofs.refiners.numbers.Given as goal

abbrev pub invariant-parts : goal.invariant-parts
invariant-parts l = behind_numbers l.numbers (numbers_of (map (λ part. part.now) l.left)) ≡ numbers_of (map (λ part. part.now) l.parts)

abbrev pub decreases-parts : goal.decreases-parts
decreases-parts l = length l.left
