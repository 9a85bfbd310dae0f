-- Worked trees.
use Rattle.std.proofs.Common.{◌≡◌, [], ◌∷◌, refl}
use Rattle.std.specs.Prelude.{codes, pos}
use Rattle.sq_fql.specs.declared.raw.FRaw.TheVariants as tree
use Rattle.sq_fql.specs.declared.raw.FRaw.TheBlock.{hidden-the_row-FRaw-0, hidden-the_row-FRaw-1}
use Rattle.sq_fql.specs.declared.raw.Op.TheVariants as op
use Rattle.sq_fql.specs.Read.{piece}
use Rattle.sq_fql.specs.WellFormed.{HasForm, bytes, xranks}

two_literals : bytes (tree.Apply 0 (op.Xrank (pos 5)) (piece 6 (codes "ab") ∷ tree.Scope 9 (codes "title") (piece 15 (codes "c")) ∷ [])) ≡ 3
unfolding hidden-the_row-FRaw-0 hidden-the_row-FRaw-1 denote.Hole.Carrier.hidden
two_literals = refl

two_boosts : xranks (tree.Apply 0 (op.Xrank (pos 5)) (tree.Scope 9 (codes "title") (tree.Apply 15 (op.Xrank (pos 1)) (tree.All 21 ∷ [])) ∷ tree.Apply 30 op.Not (tree.All 34 ∷ []) ∷ [])) ≡ 2
unfolding hidden-the_row-FRaw-0 hidden-the_row-FRaw-1 denote.Hole.Carrier.hidden
two_boosts = refl

starred : HasForm (piece 0 (codes "a*b")) → ⊥
starred form = cc
