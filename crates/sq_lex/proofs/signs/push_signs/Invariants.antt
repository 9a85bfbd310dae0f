use Rattle.std.proofs.Common.{◌≡◌, ◌++◌, ◌-◌, ◌≤◌}
use Rattle.std.specs.List.{slice_range}
use Rattle.sq_lex.specs.Kql.{sign_lexemes}
use Rattle.sq_lex.specs.Whole.{AreWhole}
use Rattle.sq_lex.proofs.signs.push_signs.Given as goal

abbrev pub invariant-loop-at : goal.invariant-loop-at
invariant-loop-at l = (l.lexemes.items ++ sign_lexemes l.at (slice_range l.text l.at l.to) ≡ l.fn.lexemes.items ++ sign_lexemes l.from (slice_range l.text l.from l.to))
    × (l.from ≤ l.at) × (l.at ≤ l.to) × (AreWhole l.text l.fn.lexemes.items → AreWhole l.text l.lexemes.items)

abbrev pub decreases-loop-at : goal.decreases-loop-at
decreases-loop-at l = l.to - l.at
