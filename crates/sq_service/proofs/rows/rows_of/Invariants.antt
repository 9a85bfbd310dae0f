use Rattle.std.proofs.Common.{◌≡◌, ◌++◌, [], drop}
use Rattle.sq_engine.specs.Answer as answer
use Rattle.sq_service.proofs.rows.rows_of.Given as goal

abbrev pub invariant-loop-name : goal.invariant-loop-name
invariant-loop-name l = l.rows ++ answer.rows_of l.schema (drop l.name-index l.names) l.rows ≡ answer.rows_of l.schema l.names []
