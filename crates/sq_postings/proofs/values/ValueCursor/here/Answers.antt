use Rattle.std.proofs.Common.{◌≡◌, true, subst}
use Rattle.sq_postings.specs.Rising.{rises, pair_up_to}
use Rattle.sq_postings.proofs.ValueLemmas.{rises-drop}
use Rattle.sq_postings.proofs.values.ValueCursor.here.Goals as goal

pub returns-clause-rising : goal.returns-clause-rising
returns-clause-rising c = subst (λ pairs. rises pair_up_to pairs ≡ true) c.self.view_is (rises-drop pair_up_to c.self.inside.at c.self.inside.pairs.now c.self.invariant)
