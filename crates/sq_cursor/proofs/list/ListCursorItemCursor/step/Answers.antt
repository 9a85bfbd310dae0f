use Rattle.std.proofs.Common.{◌+◌, length, drop, sym, ap, arith}
use Rattle.sq_cursor.proofs.EntryLemmas.{entries_counted}
use Rattle.sq_cursor.proofs.RowLemmas as rows
use Rattle.sq_cursor.proofs.list.ListCursorItemCursor.step.Goals as goal

pub returns-clause-left : goal.returns-clause-left
returns-clause-left g c = sym (rows.without_first-drop c.args.self.now.at c.args.self.now.rows.now)

pub returns-clause-cost : goal.returns-clause-cost
returns-clause-cost g c =
    let now = drop c.args.self.now.at c.args.self.now.rows.now in
    let next = drop (c.args.self.now.at + 1) c.args.self.now.rows.now in
    omega (arith, c.read.ensures, entries_counted next, rows.entries_behind-rows now, ap length (rows.without_first-drop c.args.self.now.at c.args.self.now.rows.now))
