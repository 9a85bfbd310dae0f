use Rattle.std.proofs.Common.{◌≡◌, ◌++◌, drop}
use Rattle.sq_typing.specs.Forms.{sums_of}
use Rattle.sq_typing.proofs.forms.sums_of.Given as goal

abbrev pub invariant-loop-first : goal.invariant-loop-first
invariant-loop-first l = l.all.items ++ sums_of (drop l.first-index l.firsts) l.seconds ≡ sums_of l.firsts l.seconds
