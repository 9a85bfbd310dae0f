use Rattle.std.proofs.Common.{◌≡◌, map, drop}
use Rattle.std.specs.List.{list_all}
use Rattle.sq_model.specs.Valid.{is_name}
use Rattle.sq_corpus.proofs.values.are_names.Given as goal

abbrev pub invariant-loop-field : goal.invariant-loop-field
invariant-loop-field l =
    list_all is_name (map (λ field. field.now) (drop l.field-index l.fields)) ≡ list_all is_name (map (λ field. field.now) l.fields)
