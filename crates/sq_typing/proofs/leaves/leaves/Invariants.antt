use Rattle.std.proofs.Common.{◌≡◌, ◌++◌, drop}
use Rattle.sq_typing.specs.Kql.{leaves_of}
use Rattle.sq_typing.proofs.leaves.leaves.Given as goal

abbrev pub invariant-loop-piece : goal.invariant-loop-piece
invariant-loop-piece l = l.leaves ++ leaves_of (drop l.piece-index l.pieces) ≡ leaves_of l.pieces
