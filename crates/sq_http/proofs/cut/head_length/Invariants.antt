use Rattle.std.proofs.Common.{◌≡◌, ◌+◌, length, option_map}
use Rattle.sq_http.specs.Cut.{head_length}
use Rattle.sq_http.proofs.cut.head_length.Given as goal

abbrev pub invariant-loop-rest : goal.invariant-loop-rest
invariant-loop-rest l = (option_map (λ n. l.at + n) (head_length l.rest) ≡ head_length l.bytes) × (l.at + length l.rest ≡ length l.bytes)

abbrev pub decreases-loop-rest : goal.decreases-loop-rest
decreases-loop-rest l = length l.rest
