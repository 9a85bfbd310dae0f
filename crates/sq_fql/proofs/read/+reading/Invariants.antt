use Rattle.std.proofs.Common.{◌+◌, ◌*◌, ◌≤◌, length}
use Rattle.sq_lex.specs.FqlWhole.{AreWhole}
use Rattle.sq_fql.specs.Read.{expression}
use Rattle.sq_fql.proofs.ListLemmas.{Lists}
use Rattle.sq_fql.proofs.read.+reading.Given as goal

-- Each function calls the next, and the first of them those of one level less: expression, applied or scoped; entries, entry, with_next_operand, operand, expression.
abbrev pub decreases-entries : goal.decreases-entries
decreases-entries l = 6 * l.levels + 5

abbrev pub decreases-entry : goal.decreases-entry
decreases-entry l = 6 * l.levels + 4

abbrev pub decreases-with_next_operand : goal.decreases-with_next_operand
decreases-with_next_operand l = 6 * l.levels + 3

abbrev pub decreases-operand : goal.decreases-operand
decreases-operand l = 6 * l.levels + 2

abbrev pub decreases-expression : goal.decreases-expression
decreases-expression l = 6 * l.levels + 1

abbrev pub decreases-applied : goal.decreases-applied
decreases-applied l = 6 * l.levels

abbrev pub decreases-scoped : goal.decreases-scoped
decreases-scoped l = 6 * l.levels

abbrev pub invariant-entries-list : goal.invariant-entries-list
invariant-entries-list l =
    Lists (expression l.levels l.text) l.text l.operator l.lexemes l.found l.left × AreWhole l.text l.left × (length l.left ≤ length l.lexemes)

abbrev pub decreases-entries-list : goal.decreases-entries-list
decreases-entries-list l = length l.left
