-- Which FQL trees are sound for a schema: what typing gives.
use Rattle.std.specs.Prelude.{◌≡◌, ℕ, ◌+◌, ◌<◌, nat_le, Bool, true, List, [], ◌∷◌, length, sum}
use Rattle.sq_base.specs.Limits.{greatest_distance, xrank_bound}
use Rattle.sq_schema.specs.declared.property.Property.{Property}
use Rattle.sq_model.specs.Copies.{copies}
use Rattle.sq_model.specs.Limits.{most_copies, token_bound}
use Rattle.sq_model.specs.Kinds.{is_text_property, is_number_property, is_boost}
use Rattle.sq_model.specs.Sums.{Counts, sum_of_leaves, sums_of_leaves, sum_over, sums_over}
use Rattle.sq_model.specs.declared.leaf.Leaf.{Leaf as Literal}
use Rattle.sq_model.specs.declared.fql.Look.{Look}
use Rattle.sq_model.specs.declared.fql.Look.TheVariants.{Searchable, One}
use Rattle.sq_model.specs.declared.fql.SpanTree.{SpanTree, Leaf, Union', Near', Row_of-SpanTree, end_of-SpanTree, more_of-SpanTree}
use Rattle.sq_model.specs.declared.fql.FTree.{FTree, All, Spans, Count, Edge, Within, And', Or', AndNot', Not', Filter', Xrank', Row_of-FTree, end_of-FTree, more_of-FTree}

abbrev pub pattern_tokens : Literal → ℕ
pattern_tokens leaf = length leaf.pattern.texts

abbrev pub is_look : List Property → Look → Bool
is_look schema Searchable = true
is_look schema (One property) = is_text_property schema property

abbrev mutual
  -- no list is empty, and each distance is within its limit
  pub SpansSound : SpanTree → Type 0
  SpansSound (Leaf leaf) = Unit {0}
  SpansSound (Union' shape parts) = SomeSpansSound parts
  SpansSound (Near' shape parts n ordered) = (nat_le n greatest_distance ≡ true) × SomeSpansSound parts

  -- there is a part, and all are sound
  pub SomeSpansSound : {m : _} → Row_of-SpanTree m → Type 0
  SomeSpansSound end_of-SpanTree = ⊥
  SomeSpansSound (more_of-SpanTree part rest) = SpansSound part × EachSpansSound rest

  pub EachSpansSound : {m : _} → Row_of-SpanTree m → Type 0
  EachSpansSound end_of-SpanTree = Unit {0}
  EachSpansSound (more_of-SpanTree part rest) = SpansSound part × EachSpansSound rest

abbrev mutual
  -- no list is empty, and each part is as its schema and the limits want
  pub PartsSound : List Property → FTree → Type 0
  PartsSound schema All = Unit {0}
  PartsSound schema (Spans look tree) = (is_look schema look ≡ true) × SpansSound tree × (nat_le (copies tree) most_copies ≡ true)
  PartsSound schema (Count look leaf from to) = is_look schema look ≡ true
  PartsSound schema (Edge look leaf starts ends) = is_look schema look ≡ true
  PartsSound schema (Within property first last) = is_number_property schema property ≡ true
  PartsSound schema (And' shape parts) = SomeSound schema parts
  PartsSound schema (Or' shape parts) = SomeSound schema parts
  PartsSound schema (AndNot' s first t others) = SomeSound schema first × SomeSound schema others
  PartsSound schema (Not' s inner) = SomeSound schema inner
  PartsSound schema (Filter' s inner) = SomeSound schema inner
  PartsSound schema (Xrank' s matched t ranks cb) = SomeSound schema matched × SomeSound schema ranks × (is_boost cb ≡ true)

  -- there is a part, and all are sound
  pub SomeSound : {m : _} → List Property → Row_of-FTree m → Type 0
  SomeSound schema end_of-FTree = ⊥
  SomeSound schema (more_of-FTree part rest) = PartsSound schema part × EachSound schema rest

  pub EachSound : {m : _} → List Property → Row_of-FTree m → Type 0
  EachSound schema end_of-FTree = Unit {0}
  EachSound schema (more_of-FTree part rest) = PartsSound schema part × EachSound schema rest

-- how many tokens the patterns have together
abbrev pub tokens_in_spans : SpanTree → ℕ
tokens_in_spans tree = sum_of_leaves pattern_tokens tree

abbrev pub tokens_of_parts : {m : _} → Row_of-SpanTree m → List ℕ
tokens_of_parts parts = sums_of_leaves pattern_tokens parts

abbrev pub token_counts : Counts
token_counts = record {
  spans = λ look tree. tokens_in_spans tree;
  leaf = λ look leaf. pattern_tokens leaf;
  range = λ property. 0;
  xrank = λ n. n;
}

abbrev pub tokens_in : FTree → ℕ
tokens_in tree = sum_over token_counts tree

abbrev pub tokens_each : {m : _} → Row_of-FTree m → List ℕ
tokens_each parts = sums_over token_counts parts

abbrev pub xrank_counts : Counts
xrank_counts = record {
  spans = λ look tree. 0;
  leaf = λ look leaf. 0;
  range = λ property. 0;
  xrank = λ n. 1 + n;
}

abbrev pub xranks_in : FTree → ℕ
xranks_in tree = sum_over xrank_counts tree

abbrev pub xranks_each : {m : _} → Row_of-FTree m → List ℕ
xranks_each parts = sums_over xrank_counts parts

pub record IsSound (schema : List Property) (tree : FTree) : Type 0 where
  pub parts : PartsSound schema tree
  pub tokens : tokens_in tree < token_bound
  pub xranks : xranks_in tree < xrank_bound
