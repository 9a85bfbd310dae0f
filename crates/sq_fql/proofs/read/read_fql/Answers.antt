use Rattle.sq_fql.proofs.ReadFormLemmas.{read_formed}
use Rattle.sq_fql.proofs.read.read_fql.Goals as goal

pub returns-clause-well_formed : goal.returns-clause-well_formed
returns-clause-well_formed c =
    let lexemes = c.in_ok-lexemes.ensures in
    let slice = c.as_slice.ensures in
    read_formed c.args.text.now c.utf8.text _ _ lexemes.short (c.fql_lexemes_are_sound.ensures _ _ lexemes.lexemes) lexemes.whole (rw slice at c.in_ok-tree.ensures)
