use Rattle.std.proofs.Common.{ap, ◌∙◌, arith}
use Rattle.sq_collect.specs.Counted.{numbers_at}
use Rattle.sq_engine.specs.Answer.{key_among}
use Rattle.sq_service.proofs.KeyLemmas.{all_from, passed}
use Rattle.sq_service.proofs.keys.Column.key.Goals as goal

pub key_among-requires : goal.key_among-requires
key_among-requires g c = rw c.seek.ensures.left (all_from c.args.row c.args.self.now.values)

pub returns-clause-value : goal.returns-clause-value
returns-clause-value g c =
    c.key_among.ensures.value
    ∙ ap (λ pairs. key_among c.args.self.now.direction (numbers_at c.args.row pairs)) c.seek.ensures.left
    ∙ ap (key_among c.args.self.now.direction) (passed c.args.row c.args.row c.args.self.now.values (omega arith))

pub returns-clause-later : goal.returns-clause-later
returns-clause-later g c = λ r l.
    ap (key_among c.args.self.now.direction)
    (c.key_among.ensures.later r l ∙ ap (numbers_at r) c.seek.ensures.left ∙ passed c.args.row r c.args.self.now.values (omega (arith, l)))
