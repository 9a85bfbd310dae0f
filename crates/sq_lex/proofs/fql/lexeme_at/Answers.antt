use Rattle.std.proofs.Common.{◌+◌}
use Rattle.sq_lex.proofs.FqlWholeLemmas.{mark_whole}
use Rattle.sq_lex.proofs.fql.lexeme_at.Goals as goal

pub returns-in-Some-clause-whole : goal.returns-in-Some-clause-whole
returns-in-Some-clause-whole c =
    rw c.lexeme.ensures (mark_whole c.args.text.now c.args.at c.in-Some.kind c.utf8.text c.requires.between c.requires.within (rw (← c.byte_at-byte.ensures.value) c.in-Some.ensures.ascii)
    (c.in-Some.ensures.whole c.args.text.now c.args.at (c.args.at + 1)))
