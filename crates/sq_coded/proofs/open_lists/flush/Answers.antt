use Rattle.std.proofs.Common.{◌<◌, ◌++◌, length, ap, sym, ◌∙◌, arith}
use Rattle.std.proofs.lemmas.Bool.Decides.{nat_tests}
use Rattle.sq_coded.specs.Coded.{coded}
use Rattle.sq_coded.specs.Kept.{postings_of}
use Rattle.sq_coded.proofs.CodedLemmas.{coded_more}
use Rattle.sq_coded.proofs.open_lists.flush.Goals as goal

pub returns-clause-words : goal.returns-clause-words
returns-clause-words c =
    let entries = postings_of c.args.pool.now c.args.chain.now in
    let block = c.args.block.now in
    let some : 0 < length block = grind (arith, nat_tests, c.if-is_empty.ensures) in
    c.in_ok-append.ensures.words
    ∙ ap (λ words. words ++ c.deref.result.now) c.requires.kept.code
    ∙ ap (λ words. coded entries ++ words) (c.deref.ensures.value ∙ c.in_ok-words.ensures.words)
    ∙ sym (coded_more entries block c.requires.kept.whole some c.in_ok-words.ensures.most)
