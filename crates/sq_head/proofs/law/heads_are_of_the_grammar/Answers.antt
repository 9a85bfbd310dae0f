use Rattle.sq_head.proofs.HeadLemmas.{head_sound, head_complete}
use Rattle.sq_head.proofs.law.heads_are_of_the_grammar.Goals as goal

pub returns : goal.returns
returns c = record { sound = head_sound; complete = head_complete }
