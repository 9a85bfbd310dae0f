-- The typed tree of a lowered tree.
use Rattle.std.specs.Prelude.{ℕ, true, false, List, [], ◌∷◌, ◌++◌, map, slice_get, Option, Some, None, ℤ}
use Rattle.sq_schema.specs.declared.interval.Interval.{Interval}
use Rattle.sq_schema.specs.declared.property.Kind.{Kind}
use Rattle.sq_schema.specs.declared.property.Kind.TheVariants as kind
use Rattle.sq_schema.specs.declared.property.Property.{Property}
use Rattle.sq_schema.specs.Intervals.{single}
use Rattle.sq_model.specs.Kql.{role}
use Rattle.sq_model.specs.declared.leaf.Leaf.{Leaf}
use Rattle.sq_model.specs.declared.kql.Relation.{Relation}
use Rattle.sq_model.specs.declared.kql.Relation.TheVariants as relation
use Rattle.sq_model.specs.declared.kql.Joiner.{Joiner}
use Rattle.sq_model.specs.declared.kql.KTree.{KTree, Free, All, Words, Group', TextTest, ValueTest, Near', Run', And', Or', Xrank', Row_of-KTree, end_of-KTree, more_of-KTree, Row_of-KOperand, end_of-KOperand, more_of-KOperand}
use Rattle.sq_model.specs.declared.fql.Look.TheVariants.{Searchable, One}
use Rattle.sq_model.specs.declared.fql.SpanTree.{SpanTree}
use Rattle.sq_model.specs.declared.fql.SpanTree.TheVariants as s
use Rattle.sq_model.specs.declared.fql.FTree.{FTree}
use Rattle.sq_model.specs.declared.fql.FTree.TheVariants as f
use Rattle.sq_schema.specs.Bounds.{least_number, greatest_number}
use Rattle.sq_typing.specs.FqlNumbers.{between, within}
use Rattle.sq_lower.specs.Runs.{Connectives, Form, run_form}

abbrev mutual
  -- a proximity expression
  pub spans : KTree → SpanTree
  spans (Free leaf) = s.Leaf leaf
  spans (Words leaves) = s.Union (map s.Leaf leaves)
  spans (Group' p (more_of-KTree inside end_of-KTree)) = spans inside
  spans (Or' shape parts) = s.Union (spans_each parts)
  spans (Near' p left q right n ordered) = s.Near (spans_each left ++ spans_each right) n ordered
  spans _ = s.Union []

  pub spans_each : {m : _} → Row_of-KTree m → List SpanTree
  spans_each end_of-KTree = []
  spans_each (more_of-KTree part rest) = spans part ∷ spans_each rest

abbrev pub text_tree : ℕ → Relation → Leaf → FTree
text_tree property relation.Equal leaf = f.Edge (One property) leaf true true
text_tree property relation.Unequal leaf = f.Not (f.Edge (One property) leaf true true)
text_tree property _ leaf = f.Spans (One property) (s.Leaf leaf)

abbrev pub meant : Kind → ℤ → ℤ → Interval
meant kind.DateTime first last = between false false (single first) (single last)
meant k first last = single first

-- the interval that a restriction's values come from, but for `<>`
abbrev pub related : Kind → Relation → ℤ → ℤ → Interval
related k relation.Less first last = between false true (single least_number) (single first)
related k relation.More first last = between true false (single last) (single greatest_number)
related k relation.AtMost first last = between false false (single least_number) (single last)
related k relation.AtLeast first last = between false false (single first) (single greatest_number)
related k relation.Range first last = between false false (single first) (single last)
related k _ first last = meant k first last

abbrev pub value_tree : ℕ → Kind → Relation → ℤ → ℤ → FTree
value_tree property k relation.Unequal first last = f.Not (within property (related k relation.Unequal first last))
value_tree property k r first last = within property (related k r first last)

abbrev pub value_tree_of : ℕ → Option Property → Relation → ℤ → ℤ → FTree
value_tree_of property None r first last = f.All
value_tree_of property (Some row) r first last = value_tree property row.kind r first last

abbrev pub tree_connectives : Connectives FTree
tree_connectives = record { all = f.And; any = f.Or; negated = f.Not; without = f.AndNot }

module _ (schema : List Property) (joiner : Joiner) where
  abbrev mutual
    pub form : KTree → FTree
    form (Free leaf) = f.Spans Searchable (s.Leaf leaf)
    form All = f.All
    form (Words leaves) = f.Spans Searchable (s.Union (map s.Leaf leaves))
    form (Group' p (more_of-KTree inside end_of-KTree)) = form inside
    form (TextTest property r leaf) = text_tree property r leaf
    form (ValueTest property r first last) = value_tree_of property (slice_get schema property) r first last
    form (Near' p left q right n ordered) = f.Spans Searchable (spans (Near' p left q right n ordered))
    form (Run' shape operands) = run_form tree_connectives joiner (operand_forms operands)
    form (And' shape parts) = f.And (form_each parts)
    form (Or' shape parts) = f.Or (form_each parts)
    form (Xrank' p (more_of-KTree matched end_of-KTree) q ranked cb) = f.Xrank (form matched) (form_each ranked) cb

    pub form_each : {m : _} → Row_of-KTree m → List FTree
    form_each end_of-KTree = []
    form_each (more_of-KTree part rest) = form part ∷ form_each rest

    pub operand_forms : {m : _} → Row_of-KOperand m → List (Form FTree)
    operand_forms end_of-KOperand = []
    operand_forms (more_of-KOperand sign tree rest) = record { sign = sign; role = role sign tree; form = form tree } ∷ operand_forms rest
