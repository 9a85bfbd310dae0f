-- The nodes of expressions that have no parts.
use Rattle.std.proofs.Common.{◌≡◌, ℕ, ◌+◌, ◌*◌, ◌<◌, ◌≤◌, true, List, length, Option, Some, None, refl, ap, ap₂, ◌∙◌, arith, Vec}
use Rattle.std.proofs.Math.Nat.{mul-le-mul_right}
use Rattle.std.proofs.lemmas.Bool.Decides.{nat_tests}
use Rattle.std.proofs.lemmas.Option.{slice_get_within}
use Rattle.std.specs.Prelude.{ℤ, slice_get}
use Rattle.std.specs.declared.alloc.Global.{Global}
use Rattle.sq_cursor.specs.Entries.{entries_behind}
use Rattle.sq_model.specs.Copies.{copies}
use Rattle.sq_model.specs.Cost.{spans_count}
use Rattle.sq_model.specs.Kinds.{is_number_property, is_number_kind, kind_of}
use Rattle.sq_model.specs.Passages.{some_within}
use Rattle.sq_model.specs.declared.corpus.Corpus.{Corpus}
use Rattle.sq_model.specs.declared.leaf.Leaf.{Leaf}
use Rattle.sq_model.specs.declared.fql.Look.{Look}
use Rattle.sq_model.specs.declared.fql.SpanTree.{SpanTree}
use Rattle.sq_model.specs.declared.fql.FTree.TheVariants as tree
use Rattle.sq_near.specs.declared.stream.Stream.{Stream}
use Rattle.sq_nodes.specs.Leaves.{plain, spans_left, spans_rest, streams_rest, numbers_in}
use Rattle.sq_nodes.specs.Scores.{node_rest}
use Rattle.sq_nodes.specs.declared.node.Node.TheVariants as node
use Rattle.sq_nodes.specs.declared.node.Edges.{Edges}
use Rattle.sq_nodes.specs.declared.node.Ranged.{Ranged}
use Rattle.sq_postings.specs.Indexed.{Indexed, values_in}
use Rattle.sq_postings.specs.declared.posts.PostCursor.{PostCursor}
use Rattle.sq_schema.specs.declared.property.Property.{Property}
use Rattle.sq_streams.specs.Pattern.{ArePlaces, IsWithinCount}
use Rattle.sq_streams.specs.Tree.{IsWithinCopies}
use Rattle.sq_eval.specs.Nodes.{IsNodeOf, IsWithinTree}
use Rattle.sq_eval.proofs.EdgeLemmas.{few_spans}
use Rattle.sq_eval.proofs.NodeEquations.{score_within, rest_edge, rest_within}
use Rattle.sq_eval.proofs.NumberLemmas.{within_row, length_numbers}

module _ (index : Indexed) where
  few_copies : (corpus : Corpus) (look : Look) (spans : SpanTree) → copies spans ≤ 256 → copies spans * spans_count corpus look spans ≤ 256 * spans_count corpus look spans
  few_copies corpus look spans few = mul-le-mul_right (spans_count corpus look spans) few

  pub spans_refused : (look : Look) (spans : SpanTree) (before after : ℕ) → IsWithinCopies index look spans before after → IsWithinTree index (tree.Spans look spans) before after
  spans_refused look spans before after within = λ corpus valid stands sound.
      let few : copies spans ≤ 256 = let test = sound.2 in grind (arith, nat_tests) in
      omega (arith, within corpus valid stands sound.1, few_copies corpus look spans few)

  -- each span may read a length
  pub edge_cost : (look : Look) (leaf : Leaf) (e : Edges) (before after : ℕ) → ArePlaces index look leaf.pattern (spans_left e.stream) → 0 < length leaf.pattern.texts →
      IsWithinCount index look leaf.pattern before (after + spans_rest e.stream) →
      IsWithinTree index (tree.Edge look leaf e.starts e.ends) before (after + node_rest (node.Edge e))
  edge_cost look leaf e before after are some within = λ corpus valid stands sound.
      omega (arith, within corpus valid stands, rest_edge e, few_spans index look leaf.pattern (spans_left e.stream) are some corpus valid stands)

  pub has_property : (schema : List Property) (property : ℕ) → is_number_property schema property ≡ true → property < length schema
  has_property schema property is = at (slice_get schema property) refl is
    where
      at : (o : Option Property) → slice_get schema property ≡ o → is_number_kind (kind_of schema property) ≡ true → property < length schema
      at None e is = cc
      at (Some p) e is = slice_get_within schema property p e

  pub within_scored : (property : ℕ) (first last : ℤ) (r : Ranged) → r.first ≡ first → r.last ≡ last → r.values ≡ values_in index property → IsNodeOf index (tree.Within property first last) (node.Within r)
  within_scored property first last r from to is = λ corpus valid stands sound row.
      score_within r row
      ∙ ap₂ (λ m n. plain (some_within m n (numbers_in row r.values))) from to
      ∙ ap (λ pairs. plain (some_within first last (numbers_in row pairs))) (is ∙ stands.values property (has_property corpus.schema property sound))
      ∙ ap plain (within_row corpus.items row property first last)

  pub within_count : (property before after : ℕ) (values : List (ℕ × ℤ)) → values ≡ values_in index property → after + entries_behind values ≡ before + length values →
      (first last : ℤ) → IsWithinTree index (tree.Within property first last) before (after + entries_behind values)
  within_count property before after values is counted first last = λ corpus valid stands sound.
      let all = ap length (is ∙ stands.values property (has_property corpus.schema property sound)) ∙ length_numbers 0 property corpus.items in
      omega (arith, all, counted)

  pub within_cost : (property before after : ℕ) (first last : ℤ) (r : Ranged) → r.values ≡ values_in index property → after + entries_behind r.values ≡ before + length r.values →
      IsWithinTree index (tree.Within property first last) before (after + node_rest (node.Within r))
  within_cost property before after first last r is counted = λ corpus valid stands sound.
      omega (arith, within_count property before after r.values is counted first last corpus valid stands sound, rest_within r)

  pub spans_less : (look : Look) (spans : SpanTree) (streams : Vec (Stream PostCursor) Global) (before after : ℕ) → IsWithinCopies index look spans before (after + streams_rest streams.items) →
      IsWithinTree index (tree.Spans look spans) before after
  spans_less look spans streams before after within = λ corpus valid stands sound.
      omega (arith, spans_refused look spans before (after + streams_rest streams.items) within corpus valid stands sound)

  pub within_less : (property before after : ℕ) (values : List (ℕ × ℤ)) → values ≡ values_in index property → after + entries_behind values ≡ before + length values →
      (first last : ℤ) → IsWithinTree index (tree.Within property first last) before after
  within_less property before after values is counted first last = λ corpus valid stands sound.
      omega (arith, within_count property before after values is counted first last corpus valid stands sound)
