use Rattle.sq_lex.proofs.FqlSoundLemmas.{fql_sound}
use Rattle.sq_lex.proofs.fql_laws.fql_lexemes_are_sound.Goals as goal

pub returns : goal.returns
returns c = fql_sound
