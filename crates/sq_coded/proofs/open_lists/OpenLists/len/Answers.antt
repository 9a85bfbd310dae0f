use Rattle.std.proofs.Common.{length, ap, arith}
use Rattle.sq_coded.proofs.OpenLemmas.{length-lists_of}
use Rattle.sq_coded.proofs.open_lists.OpenLists.len.Goals as goal

pub returns : goal.returns
returns c =
    let inside = c.self.inside in
    omega (arith, c.len.ensures, inside.chains.ok.0, ap length c.self.view_is, length-lists_of inside.pool inside.chains.items inside.blocks.items)
