-- Worked trees.
use Rattle.std.proofs.Common.{◌≡◌, [], ◌∷◌, refl}
use Rattle.std.specs.Prelude.{codes, pos}
use Rattle.sq_kql.specs.declared.raw.Piece.{Piece}
use Rattle.sq_kql.specs.declared.raw.RawSign.TheVariants as sign
use Rattle.sq_kql.specs.declared.raw.KRaw.{KRaw}
use Rattle.sq_kql.specs.declared.raw.KRaw.TheVariants as tree
use Rattle.sq_kql.specs.Node.{operand_of}
use Rattle.sq_kql.specs.WellFormed.{bytes, nodes}

a : Piece
a = record { at = 0; text = codes "ab" }

two_pieces : bytes (tree.Or 0 (tree.Free a ∷ tree.Xrank 5 (tree.Free a) (tree.All 9) (pos 2) ∷ [])) ≡ 4
unfolding Rattle.sq_kql.specs.declared.raw.KRaw.TheBlock.hidden-the_row-KRaw-2 denote.Hole.Carrier.hidden a
two_pieces = refl

many_nodes : nodes (tree.Or 0 (tree.Free a ∷ tree.Xrank 5 (tree.Free a) (tree.All 9) (pos 2) ∷ [])) ≡ 5
unfolding Rattle.sq_kql.specs.declared.raw.KRaw.TheBlock.hidden-the_row-KRaw-2 denote.Hole.Carrier.hidden
many_nodes = refl

run_nodes : nodes (tree.Run 0 (operand_of sign.Plain 0 (tree.Free a) ∷ operand_of sign.Minus 3 (tree.Group 4 (tree.All 5)) ∷ [])) ≡ 4
unfolding Rattle.sq_kql.specs.declared.raw.KRaw.TheBlock.hidden-the_row-KRawOperand-1 Rattle.sq_kql.specs.declared.raw.KRaw.TheBlock.hidden-the_row-KRaw-0 denote.Hole.Carrier.hidden
run_nodes = refl
