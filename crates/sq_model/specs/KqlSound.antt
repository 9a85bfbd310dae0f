-- Which KQL trees are sound for a schema: what typing gives.
use Rattle.std.specs.Prelude.{◌≡◌, ℕ, ◌+◌, ◌<◌, nat_le, Bool, true, false, ◌&&◌, List, [], ◌∷◌, length, sum, sum_by, Option, Some, None, ℤ, pos}
use Rattle.sq_base.specs.Limits.{greatest_distance, kql_byte_bound, kql_node_bound}
use Rattle.sq_schema.specs.declared.property.Kind.{Kind}
use Rattle.sq_schema.specs.declared.property.Kind.TheVariants as kind
use Rattle.sq_schema.specs.declared.property.Property.{Property}
use Rattle.sq_tokens.specs.Token.{text_tokens}
use Rattle.sq_tokens.specs.Pattern.{text_phrase, first_bad_star, without_good_star}
use Rattle.sq_model.specs.Lists.{is_empty}
use Rattle.sq_model.specs.Kinds.{kind_of, is_text_property, is_integer_value, is_moment_value, is_same, is_boost}
use Rattle.sq_model.specs.KqlCopies.{copies}
use Rattle.sq_model.specs.KqlSums.{Counts, sum_over, sums_over, operand_sums}
use Rattle.sq_model.specs.Valid.{is_from_to}
use Rattle.sq_model.specs.declared.leaf.Leaf.{Leaf}
use Rattle.sq_model.specs.declared.kql.Relation.{Relation}
use Rattle.sq_model.specs.declared.kql.Relation.TheVariants.{Has, Equal, Unequal, Range}
use Rattle.sq_model.specs.declared.kql.KTree.{KTree, Free, All, Words, Group', TextTest, ValueTest, Near', Run', And', Or', Xrank', Row_of-KTree, end_of-KTree, more_of-KTree, Row_of-KOperand, end_of-KOperand, more_of-KOperand}
use Rattle.sq_model.specs.Limits.{most_copies}

-- the leaf's pattern is that of its text
pub record LeafSound (leaf : Leaf) : Type 0 where
  pub pattern : leaf.pattern ≡ text_phrase leaf.text
  pub stars : first_bad_star leaf.text ≡ None
  pub tokens : is_empty (text_tokens (without_good_star leaf.text)) ≡ false

abbrev pub LeavesSound : List Leaf → Type 0
LeavesSound [] = Unit {0}
LeavesSound (leaf ∷ rest) = LeafSound leaf × LeavesSound rest

-- `:`, `=` and `<>`
abbrev pub reads_text : Relation → Bool
reads_text Has = true
reads_text Equal = true
reads_text Unequal = true
reads_text _ = false

-- the kind has the relation and values from first to last
abbrev pub is_value_test : Kind → Relation → ℤ → ℤ → Bool
is_value_test kind.Text relation first last = false
is_value_test kind.YesNo relation first last = reads_text relation && is_same first last && is_from_to (pos 0) (pos 1) first
is_value_test kind.Integer Range first last = is_integer_value first && is_integer_value last
is_value_test kind.Integer relation first last = is_integer_value first && is_same first last
is_value_test kind.DateTime relation first last = is_moment_value first && is_moment_value last

abbrev pub is_value_test_of : Option Kind → Relation → ℤ → ℤ → Bool
is_value_test_of None relation first last = false
is_value_test_of (Some kind) relation first last = is_value_test kind relation first last

abbrev mutual
  -- what may stand below NEAR and ONEAR: free text, lists of words, OR, groups, NEAR and ONEAR
  pub is_proximity : KTree → Bool
  is_proximity (Free leaf) = true
  is_proximity (Words leaves) = true
  is_proximity (Group' s inside) = are_proximity inside
  is_proximity (Or' shape parts) = are_proximity parts
  is_proximity (Near' s left t right n ordered) = are_proximity left && are_proximity right
  is_proximity _ = false

  pub are_proximity : {m : _} → Row_of-KTree m → Bool
  are_proximity end_of-KTree = true
  are_proximity (more_of-KTree part rest) = is_proximity part && are_proximity rest

abbrev mutual
  -- no list is empty, and each part is as its schema and the limits want
  pub PartsSound : List Property → KTree → Type 0
  PartsSound schema (Free leaf) = LeafSound leaf
  PartsSound schema All = Unit {0}
  PartsSound schema (Words leaves) = (is_empty leaves ≡ false) × LeavesSound leaves
  PartsSound schema (Group' s inside) = SomeSound schema inside
  PartsSound schema (TextTest property relation leaf) = (is_text_property schema property ≡ true) × (reads_text relation ≡ true) × LeafSound leaf
  PartsSound schema (ValueTest property relation first last) = is_value_test_of (kind_of schema property) relation first last ≡ true
  PartsSound schema (Near' s left t right n ordered) =
      SomeSound schema left × SomeSound schema right × (is_proximity (Near' s left t right n ordered) ≡ true)
      × (nat_le n greatest_distance ≡ true) × (nat_le (copies (Near' s left t right n ordered)) most_copies ≡ true)
  PartsSound schema (Run' shape operands) = SomeOperandsSound schema operands
  PartsSound schema (And' shape parts) = SomeSound schema parts
  PartsSound schema (Or' shape parts) = SomeSound schema parts
  PartsSound schema (Xrank' s matched t ranked cb) = SomeSound schema matched × SomeSound schema ranked × (is_boost cb ≡ true)

  -- there is a part, and all are sound
  pub SomeSound : {m : _} → List Property → Row_of-KTree m → Type 0
  SomeSound schema end_of-KTree = ⊥
  SomeSound schema (more_of-KTree part rest) = PartsSound schema part × EachSound schema rest

  pub EachSound : {m : _} → List Property → Row_of-KTree m → Type 0
  EachSound schema end_of-KTree = Unit {0}
  EachSound schema (more_of-KTree part rest) = PartsSound schema part × EachSound schema rest

  pub SomeOperandsSound : {m : _} → List Property → Row_of-KOperand m → Type 0
  SomeOperandsSound schema end_of-KOperand = ⊥
  SomeOperandsSound schema (more_of-KOperand sign tree rest) = PartsSound schema tree × EachOperandSound schema rest

  pub EachOperandSound : {m : _} → List Property → Row_of-KOperand m → Type 0
  EachOperandSound schema end_of-KOperand = Unit {0}
  EachOperandSound schema (more_of-KOperand sign tree rest) = PartsSound schema tree × EachOperandSound schema rest

-- how many bytes the leaves' texts have together
abbrev pub byte_counts : Counts
byte_counts = record {
  leaf = λ leaf. length leaf.text;
  words = λ leaves. sum_by (λ leaf. length leaf.text) leaves;
  whole = λ n. n;
}

abbrev pub text_bytes : KTree → ℕ
text_bytes tree = sum_over byte_counts tree

abbrev pub text_bytes_each : {m : _} → Row_of-KTree m → List ℕ
text_bytes_each parts = sums_over byte_counts parts

abbrev pub text_bytes_of : {m : _} → Row_of-KOperand m → List ℕ
text_bytes_of operands = operand_sums byte_counts operands

abbrev pub node_counts : Counts
node_counts = record {
  leaf = λ leaf. 0;
  words = λ leaves. 0;
  whole = λ n. 1 + n;
}

abbrev pub nodes : KTree → ℕ
nodes tree = sum_over node_counts tree

abbrev pub nodes_each : {m : _} → Row_of-KTree m → List ℕ
nodes_each parts = sums_over node_counts parts

abbrev pub nodes_of : {m : _} → Row_of-KOperand m → List ℕ
nodes_of operands = operand_sums node_counts operands

pub record IsSound (schema : List Property) (tree : KTree) : Type 0 where
  pub parts : PartsSound schema tree
  pub texts : text_bytes tree < kql_byte_bound
  pub nodes : nodes tree < kql_node_bound
