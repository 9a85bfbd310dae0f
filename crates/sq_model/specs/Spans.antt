-- The matches of a proximity expression in a passage.
use Rattle.std.specs.Prelude.{List, [], ◌∷◌}
use Rattle.sq_model.specs.Lists.{joined}
use Rattle.sq_model.specs.Passages.{Passage}
use Rattle.sq_model.specs.Triples.{of_phrase, near}
use Rattle.sq_model.specs.declared.triple.Triple.{Triple}
use Rattle.sq_model.specs.declared.fql.SpanTree.{SpanTree, Leaf, Union', Near', Row_of-SpanTree, end_of-SpanTree, more_of-SpanTree}

abbrev mutual
  pub triples : Passage → SpanTree → List Triple
  triples passage (Leaf leaf) = of_phrase leaf.pattern passage
  triples passage (Union' shape parts) = joined (triples_each passage parts)
  triples passage (Near' shape parts n ordered) = near n ordered (triples_each passage parts)

  pub triples_each : {m : _} → Passage → Row_of-SpanTree m → List (List Triple)
  triples_each passage end_of-SpanTree = []
  triples_each passage (more_of-SpanTree part rest) = triples passage part ∷ triples_each passage rest
