use Rattle.std.proofs.Common.{◌+◌}
use Rattle.std.proofs.lemmas.List.{take_rest}
use Rattle.sq_lex.proofs.FqlWholeLemmas.{string_whole}
use Rattle.sq_lex.proofs.fql.string_at.Goals as goal

pub returns-in-Some-clause-whole : goal.returns-in-Some-clause-whole
returns-in-Some-clause-whole c =
    let same = c.as_bytes.ensures.value in
    let rest = take_rest c.as_bytes.result.now (c.args.at + 1) in
    rw c.lexeme.ensures (string_whole c.args.text.now c.args.at c.in-Some.close c.utf8.text c.requires.quote (rw (rest, same) at c.in-Some.ensures.within)
    (rw (rest, same) at c.in-Some.ensures.quote))
