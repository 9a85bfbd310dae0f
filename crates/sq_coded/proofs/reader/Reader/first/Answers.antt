use Rattle.std.proofs.Common.{subst}
use Rattle.std.specs.Prelude.{slice_index_or, []}
use Rattle.sq_coded.specs.Coded.{AllFollow, origin}
use Rattle.sq_coded.proofs.ReadLemmas.{follow_origin}
use Rattle.sq_coded.proofs.reader.Reader.first.Goals as goal

pub returns-clause-rises : goal.returns-clause-rises
returns-clause-rises c =
    let r = c.self.inside in
    subst (AllFollow origin) c.self.view_is (follow_origin (slice_index_or r.lists.now r.list []) r.at c.self.invariant.rises)
