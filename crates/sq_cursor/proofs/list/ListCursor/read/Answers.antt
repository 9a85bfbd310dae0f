use Rattle.std.proofs.Common.{arith}
use Rattle.sq_cursor.proofs.EntryLemmas.{first_count-drop}
use Rattle.sq_cursor.proofs.list.ListCursor.read.Goals as goal

pub returns-then-self : goal.returns-then-self
returns-then-self g c = omega (arith, c.tick.ensures, first_count-drop c.args.self.now.at c.args.self.now.rows.now c.if-self.true)
