use Rattle.std.proofs.Common.{◌≡◌, ◌++◌, drop}
use Rattle.sq_coded.specs.Coded.{origin, bytes_behind}
use Rattle.sq_coded.proofs.code.block_bytes.Given as goal

abbrev pub invariant-loop-entry : goal.invariant-loop-entry
invariant-loop-entry l = l.bytes.items ++ bytes_behind l.before (drop l.entry-index l.block) ≡ bytes_behind origin l.block
