use Rattle.std.proofs.Common.{sym, ap, cond}
use Rattle.std.proofs.lemmas.Str.{is_utf8-from_IsUtf8}
use Rattle.sq_corpus.proofs.LineLemmas.{is_utf8-false}
use Rattle.sq_corpus.proofs.read.code_of_rest.Goals as goal

pub returns-in-Ok : goal.returns-in-Ok
returns-in-Ok c = sym (ap (λ t. cond t 602 601) (is_utf8-from_IsUtf8 c.args.rest.now c.in-Ok.ensures.cases.1))

pub returns-in-Err : goal.returns-in-Err
returns-in-Err c = sym (ap (λ t. cond t 602 601) (is_utf8-false c.args.rest.now c.in-Err.ensures.cases.0))
