use Rattle.sq_corpus.proofs.ReadBackLemmas.{read_back}
use Rattle.sq_corpus.proofs.laws.written_texts_read_back.Goals as goal

pub returns : goal.returns
returns c = read_back c.names_find_rows.ensures c.numbers_read_back.ensures c.moments_are_written.ensures c.moments_read_back.ensures
