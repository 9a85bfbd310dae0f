use Rattle.std.proofs.Common.{◌≡◌, drop}
use Rattle.sq_slow.specs.TextValues.{passages_in}
use Rattle.sq_model.specs.Kql.{reads}
use Rattle.sq_model.specs.declared.kql.Relation.TheVariants.{Has}
use Rattle.sq_slow.proofs.restrictions.some_fits.Given as goal

abbrev pub invariant-loop-text : goal.invariant-loop-text
invariant-loop-text l = reads Has l.pattern (passages_in (drop l.text-index l.texts) l.property) ≡ reads Has l.pattern (passages_in l.texts l.property)
