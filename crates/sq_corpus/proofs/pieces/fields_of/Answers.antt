use Rattle.std.proofs.Common.{lit<, rules}
use Rattle.sq_corpus.proofs.PieceLemmas.{fields-cut, fields-whole}
use Rattle.sq_corpus.proofs.pieces.fields_of.Goals as goal

pub loop-field-preserved : goal.loop-field-preserved
loop-field-preserved c =
    let cut = c.in-Some.ensures.byte (lit< tt) (λ w o h. h) in (
      search rules,
      rw c.in_ok-push.ensures.items (fields-cut c.loop-field.fields.items c.in-Some.field c.loop-field.rest.now c.in-Some.behind.now _ c.loop-field.invariant.1 cut.0 cut.1 cut.2),
    )

pub returns : goal.returns
returns c = rw c.in_ok-push-2.ensures.items
    (fields-whole c.loop-field.fields.items c.loop-field.rest _ c.loop-field.invariant.1 (c.in_default.ensures.byte (lit< tt) (λ w o h. h)))
