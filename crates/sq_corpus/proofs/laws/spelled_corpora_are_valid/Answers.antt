use Rattle.sq_corpus.proofs.ValidLemmas.{corpus_valid}
use Rattle.sq_corpus.proofs.laws.spelled_corpora_are_valid.Goals as goal

pub returns : goal.returns
returns c = corpus_valid c.dates_lie_in_years.ensures
