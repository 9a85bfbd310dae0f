use Rattle.std.proofs.Common.{◌≡◌}
use Rattle.std.specs.Prelude.{string_bytes}
use Rattle.sq_rehearsal.specs.Rehearsal.{opening}
use Rattle.sq_rehearsal.proofs.items.body.Given as goal

abbrev pub invariant-loop-before : goal.invariant-loop-before
invariant-loop-before l = string_bytes l.text ≡ opening l.item l.before
