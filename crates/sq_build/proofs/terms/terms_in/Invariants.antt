use Rattle.std.proofs.Common.{◌≡◌, ◌++◌, map}
use Rattle.sq_build.specs.Terms.{term_of}
use Rattle.sq_build.proofs.terms.terms_in.Given as goal

abbrev pub invariant-loop-token : goal.invariant-loop-token
invariant-loop-token l = l.terms.items ++ map (term_of l.property) l.token-iterator ≡ map (term_of l.property) l.fn.ids.entries
