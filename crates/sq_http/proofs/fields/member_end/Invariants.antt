use Rattle.std.proofs.Common.{◌≡◌, ◌+◌, length}
use Rattle.sq_http.specs.Fields.{member_end}
use Rattle.sq_http.proofs.fields.member_end.Given as goal

abbrev pub invariant-loop-rest : goal.invariant-loop-rest
invariant-loop-rest l = (l.at + member_end l.rest ≡ member_end l.bytes) × (l.at + length l.rest ≡ length l.bytes)

abbrev pub decreases-loop-rest : goal.decreases-loop-rest
decreases-loop-rest l = length l.rest
