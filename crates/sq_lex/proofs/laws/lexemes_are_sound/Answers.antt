use Rattle.sq_lex.proofs.SoundLemmas.{lexemes_sound}
use Rattle.sq_lex.proofs.PlaceLemmas.{lexemes_in_place}
use Rattle.sq_lex.proofs.laws.lexemes_are_sound.Goals as goal

pub returns : goal.returns
returns c = record { sound = lexemes_sound; places = lexemes_in_place }
