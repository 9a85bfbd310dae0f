use Rattle.std.proofs.Common.{◌≡◌, ◌++◌, map}
use Rattle.sq_fql.specs.declared.raw.Op.TheVariants as op
use Rattle.sq_lower.specs.Lowered.{apply}
use Rattle.sq_lower.specs.Runs.{alone_or}
use Rattle.sq_lower.proofs.runs.members.Given as goal

abbrev pub invariant-loop-forms : goal.invariant-loop-forms
invariant-loop-forms l =
    l.wanted ++ map (λ group. alone_or (apply op.Or) group.1) l.forms-iterator
    ≡ l.fn.required ++ map (λ group. alone_or (apply op.Or) group.1) l.fn.restrictions.entries
