use Rattle.std.proofs.Common.{length, ap, ◌∙◌, subst, ◌<◌, ◌^◌}
use Rattle.std.specs.Prelude.{slice_index_or, []}
use Rattle.sq_coded.proofs.ReadLemmas.{coded_many}
use Rattle.sq_coded.proofs.OpenLemmas.{list_of_chain}
use Rattle.sq_coded.proofs.lists.Lists.tells.Goals as goal

pub returns-clause-few : goal.returns-clause-few
returns-clause-few c =
    let inside = c.self.inside in
    let is = list_of_chain inside.pool inside.chains.items c.args.self.now c.args.list c.index.result.now c.self.invariant c.self.view_is c.requires c.index.ensures in
    coded_many (slice_index_or c.args.self.now c.args.list []) (subst (λ n. n < 2 ^ 32) (c.len-len.ensures ∙ ap length is) c.len-len.type_inv)
