-- Proximity expressions of FQL in which no list is empty.
use Rattle.std.specs.Prelude.{Bool, true, false, ◌&&◌}
use Rattle.sq_model.specs.declared.fql.SpanTree.{SpanTree, Leaf, Union', Near', Row_of-SpanTree, end_of-SpanTree, more_of-SpanTree}

abbrev mutual
  -- no list of parts is empty
  pub is_filled : SpanTree → Bool
  is_filled (Leaf leaf) = true
  is_filled (Union' shape parts) = are_filled parts
  is_filled (Near' shape parts n ordered) = are_filled parts

  -- there is a part, and all are filled
  pub are_filled : {m : _} → Row_of-SpanTree m → Bool
  are_filled end_of-SpanTree = false
  are_filled (more_of-SpanTree part rest) = is_filled part && each_filled rest

  pub each_filled : {m : _} → Row_of-SpanTree m → Bool
  each_filled end_of-SpanTree = true
  each_filled (more_of-SpanTree part rest) = is_filled part && each_filled rest
