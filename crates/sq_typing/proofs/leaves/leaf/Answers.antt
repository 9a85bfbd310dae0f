use Rattle.std.proofs.Common.{ap}
use Rattle.sq_typing.specs.KqlValues.{literal}
use Rattle.sq_typing.proofs.LeafLemmas.{literal_is}
use Rattle.sq_typing.proofs.leaves.leaf.Goals as goal

pub unreachable-requires : goal.unreachable-requires
unreachable-requires c =
    let some = literal_is c.args.piece.now c.requires in
    let same = ap literal c.as_str.ensures in
    let found = c.in_ok-leaf.ensures in
    let none = c.in-None.is in
    cc

pub returns : goal.returns
returns c =
    let some = literal_is c.args.piece.now c.requires in
    let same = ap literal c.as_str.ensures in
    let found = c.in_ok-leaf.ensures in
    let is = c.in-Some.is in
    cc
