use Rattle.sq_service.proofs.SortLemmas.{same_directions}
use Rattle.sq_service.proofs.sorts.directions_of.Goals as goal

pub returns : goal.returns
returns c = rw (c.direction_at.ensures, c.direction_at-2.ensures, c.direction_at-3.ensures, c.direction_at-4.ensures) (same_directions c.args.sorts.now c.requires)
