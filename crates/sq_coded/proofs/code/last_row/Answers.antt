use Rattle.std.proofs.Common.{arith, length, ◌<◌}
use Rattle.std.proofs.lemmas.Bool.Decides.{nat_tests}
use Rattle.sq_coded.proofs.WriteLemmas.{last_row_at}
use Rattle.sq_coded.proofs.code.last_row.Goals as goal

pub returns-else-is_empty : goal.returns-else-is_empty
returns-else-is_empty c =
    let some : 0 < length c.args.block.now = grind (arith, nat_tests) in
    last_row_at c.args.block.now _ some
