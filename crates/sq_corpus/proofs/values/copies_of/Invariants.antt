use Rattle.std.proofs.Common.{◌≡◌, ◌++◌, map, drop}
use Rattle.sq_corpus.proofs.values.copies_of.Given as goal

abbrev pub invariant-loop-field : goal.invariant-loop-field
invariant-loop-field l =
    l.texts.items ++ map (λ field. field.now) (drop l.field-index l.fields) ≡ map (λ field. field.now) l.fields
