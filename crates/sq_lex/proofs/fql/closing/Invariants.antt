use Rattle.std.proofs.Common.{◌≡◌, ◌+◌, ◌-◌, ◌≤◌, length, drop, false}
use Rattle.sq_lex.specs.Fql.{closing}
use Rattle.sq_lex.proofs.fql.closing.Given as goal

abbrev pub invariant-loop-bytes : goal.invariant-loop-bytes
invariant-loop-bytes l = (closing l.escaped l.at l.bytes ≡ closing false l.from l.initial.bytes) × (l.from ≤ l.at) × (l.at + length l.bytes ≡ l.from + length l.initial.bytes)
    × (l.bytes ≡ drop (l.at - l.from) l.initial.bytes)

abbrev pub decreases-loop-bytes : goal.decreases-loop-bytes
decreases-loop-bytes l = length l.bytes
