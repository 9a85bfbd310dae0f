use Rattle.std.proofs.Common.{arith}
use Rattle.sq_kql.proofs.FormedLemmas.{tree_is_formed}
use Rattle.sq_kql.proofs.OrderLemmas.{tree_is}
use Rattle.sq_kql.proofs.tree.read_kql.Goals as goal

pub returns-clause-formed : goal.returns-clause-formed
returns-clause-formed c =
    tree_is_formed c.args.text.now c.in_ok-tree.tree (grind (arith, tree_is)) c.lexemes_are_sound.ensures.sound c.lexemes_are_sound.ensures.places
