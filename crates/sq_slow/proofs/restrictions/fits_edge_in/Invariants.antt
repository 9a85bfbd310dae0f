use Rattle.std.proofs.Common.{◌≡◌, drop}
use Rattle.std.specs.List.{list_any}
use Rattle.sq_model.specs.Places.{fits_edge}
use Rattle.sq_slow.specs.TextValues.{passages_in}
use Rattle.sq_slow.proofs.restrictions.fits_edge_in.Given as goal

abbrev pub invariant-loop-text : goal.invariant-loop-text
invariant-loop-text l = list_any (fits_edge l.pattern l.starts l.ends) (passages_in (drop l.text-index l.texts) l.property) ≡ list_any (fits_edge l.pattern l.starts l.ends) (passages_in l.texts l.property)
