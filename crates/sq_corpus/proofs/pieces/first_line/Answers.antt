use Rattle.sq_corpus.proofs.PieceLemmas.{lines_of-cut, lines_of-whole}
use Rattle.sq_corpus.proofs.pieces.first_line.Goals as goal

pub returns-in-Some : goal.returns-in-Some
returns-in-Some c = lines_of-cut _ c.in-Some.at c.in-Some.ensures.value c.in-Some.ensures.within

pub returns-in-None : goal.returns-in-None
returns-in-None c = lines_of-whole _ c.in-None.ensures.value
