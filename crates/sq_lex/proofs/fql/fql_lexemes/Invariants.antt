use Rattle.std.proofs.Common.{◌-◌, length}
use Rattle.sq_lex.specs.FqlWhole.{AreWhole}
use Rattle.sq_lex.proofs.FqlLoopLemmas.{Reads}
use Rattle.sq_lex.proofs.fql.fql_lexemes.Given as goal

abbrev pub invariant-text : goal.invariant-text
invariant-text l = Reads l.text l.at l.lexemes.items × AreWhole l.text l.lexemes.items

abbrev pub decreases-text : goal.decreases-text
decreases-text l = length l.text - l.at
