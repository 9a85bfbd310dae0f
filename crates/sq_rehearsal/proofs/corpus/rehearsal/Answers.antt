use Rattle.std.proofs.Common.{refl}
use Rattle.sq_rehearsal.specs.Rehearsal.{rehearsal}
use Rattle.sq_rehearsal.proofs.ValidLemmas.{rehearsal_is_valid}
use Rattle.sq_rehearsal.proofs.corpus.rehearsal.Goals as goal

pub returns-clause-equals : goal.returns-clause-equals
unfolding rehearsal
returns-clause-equals c = rw (c.in_ok-schema.ensures, c.in_ok-callers.ensures, c.in_ok-items.ensures) refl

pub returns-clause-valid : goal.returns-clause-valid
unfolding rehearsal
returns-clause-valid c = rw (c.in_ok-schema.ensures, c.in_ok-callers.ensures, c.in_ok-items.ensures) (rehearsal_is_valid c.args.count c.requires.few)
