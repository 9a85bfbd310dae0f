use Rattle.std.proofs.Common.{sym, subst}
use Rattle.std.specs.List.{AllPass}
use Rattle.std.proofs.lemmas.List.Sums.{AllPass-from_list_all}
use Rattle.sq_model.specs.Valid.{has_short_texts}
use Rattle.sq_build.proofs.build.parts_of.Goals as goal

pub dictionary_of-requires-clause-short : goal.dictionary_of-requires-clause-short
dictionary_of-requires-clause-short c =
    subst (AllPass has_short_texts) (sym c.as_slice-items.ensures)
    (AllPass-from_list_all has_short_texts c.args.corpus.now.items (c.valid_texts_are_short.ensures c.args.corpus.now c.requires))
