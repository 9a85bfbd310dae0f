use Rattle.sq_tokens.proofs.CountLemmas.{tokens_within_bytes}
use Rattle.sq_tokens.proofs.laws.tokens_within_bytes.Goals as goal

pub returns : goal.returns
returns c = tokens_within_bytes
