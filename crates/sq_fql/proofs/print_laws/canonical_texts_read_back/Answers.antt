use Rattle.sq_fql.proofs.CanonLawLemmas.{reads_back}
use Rattle.sq_fql.proofs.print_laws.canonical_texts_read_back.Goals as goal

pub returns : goal.returns
returns c = reads_back
