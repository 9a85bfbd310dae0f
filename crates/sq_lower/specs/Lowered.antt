-- The FQL tree that says what a typed KQL tree says under a joiner. Each place is 0, and names are spelled as in the schema.
use Rattle.std.specs.Prelude.{ℕ, Bool, true, false, if◌then◌else◌, List, [], ◌∷◌, ◌++◌, map, slice_get, codes, Option, Some, None, ℤ, pos}
use Rattle.std.specs.Ordering.{int_eq}
use Rattle.std.specs.Fmt.{signed_decimal}
use Rattle.sq_schema.specs.declared.property.Kind.{Kind}
use Rattle.sq_schema.specs.declared.property.Kind.TheVariants as kind
use Rattle.sq_schema.specs.declared.property.Property.{Property}
use Rattle.sq_schema.specs.Moments.{text_of_moment}
use Rattle.sq_model.specs.Kql.{role}
use Rattle.sq_model.specs.declared.leaf.Leaf.{Leaf}
use Rattle.sq_model.specs.declared.kql.Joiner.{Joiner}
use Rattle.sq_model.specs.declared.kql.KOperand.{KOperand}
use Rattle.sq_model.specs.declared.kql.Relation.{Relation}
use Rattle.sq_model.specs.declared.kql.Relation.TheVariants as relation
use Rattle.sq_model.specs.declared.kql.KTree.{KTree, Free, All, Words, Group', TextTest, ValueTest, Near', Run', And', Or', Xrank', Row_of-KTree, end_of-KTree, more_of-KTree, Row_of-KOperand, end_of-KOperand, more_of-KOperand}
use Rattle.sq_fql.specs.declared.raw.FRaw.{FRaw}
use Rattle.sq_fql.specs.declared.raw.FRaw.TheVariants as raw
use Rattle.sq_fql.specs.declared.raw.Mode.TheVariants as mode
use Rattle.sq_fql.specs.declared.raw.Op.{Op}
use Rattle.sq_fql.specs.declared.raw.Op.TheVariants as op
use Rattle.sq_fql.specs.Limits.{fql_distance}
use Rattle.sq_lower.specs.Runs.{Connectives, Form, run_form}

-- ---- parts of FQL trees

abbrev pub apply : Op → List FRaw → FRaw
apply o operands = raw.Apply 0 o operands

abbrev pub literal : List ℕ → FRaw
literal text = raw.Literal (record { at = 0; text = text })

abbrev pub scope : List ℕ → FRaw → FRaw
scope name inner = raw.Scope 0 name inner

abbrev pub negated : FRaw → FRaw
negated form = apply op.Not (form ∷ [])

-- `string("..")`
abbrev pub phrase : Leaf → FRaw
phrase leaf = apply (op.Str mode.Phrase fql_distance) (literal leaf.text ∷ [])

-- `words("..","..")`
abbrev pub words : List Leaf → FRaw
words leaves = apply op.Words (map (λ leaf. literal leaf.text) leaves)

abbrev pub near : ℕ → Bool → List FRaw → FRaw
near n false parts = apply (op.Near n) parts
near n true parts = apply (op.Onear n) parts

-- from a value on, or above it; to a value, or below it
abbrev pub range : Bool → Bool → List ℕ → List ℕ → FRaw
range above below lower upper = apply (op.Range above below) (literal lower ∷ literal upper ∷ [])

-- ---- restrictions

abbrev pub text_form : List ℕ → Relation → Leaf → FRaw
text_form name relation.Equal leaf = scope name (apply op.Equals (phrase leaf ∷ []))
text_form name relation.Unequal leaf = negated (scope name (apply op.Equals (phrase leaf ∷ [])))
text_form name _ leaf = scope name (phrase leaf)

-- 1 is yes
abbrev pub flag_text : ℤ → List ℕ
flag_text n = if int_eq n (pos 1) then codes "true" else codes "false"

-- a number as a value of the kind is written
abbrev pub number_text : Kind → ℤ → List ℕ
number_text kind.DateTime n = text_of_moment n
number_text kind.YesNo n = flag_text n
number_text _ n = signed_decimal n

-- the values that are meant: those of a date are an interval, another value is alone
abbrev pub value_meant : Kind → ℤ → ℤ → FRaw
value_meant kind.DateTime first last = range false false (number_text kind.DateTime first) (number_text kind.DateTime last)
value_meant k first last = literal (number_text k first)

-- the values that stand in the relation, but for `<>`, which is that of those that are meant
abbrev pub values_related : Kind → Relation → ℤ → ℤ → FRaw
values_related k relation.Less first last = range false true (codes "min") (number_text k first)
values_related k relation.More first last = range true false (number_text k last) (codes "max")
values_related k relation.AtMost first last = range false false (codes "min") (number_text k last)
values_related k relation.AtLeast first last = range false false (number_text k first) (codes "max")
values_related k relation.Range first last = range false false (number_text k first) (number_text k last)
values_related k _ first last = value_meant k first last

abbrev pub value_form : List ℕ → Kind → Relation → ℤ → ℤ → FRaw
value_form name k relation.Unequal first last = negated (scope name (values_related k relation.Unequal first last))
value_form name k r first last = scope name (values_related k r first last)

-- A sound tree names rows of its schema alone.
abbrev pub text_test : Option Property → Relation → Leaf → FRaw
text_test None r leaf = raw.All 0
text_test (Some row) r leaf = text_form row.name r leaf

abbrev pub value_test : Option Property → Relation → ℤ → ℤ → FRaw
value_test None r first last = raw.All 0
value_test (Some row) r first last = value_form row.name row.kind r first last

-- ---- trees

abbrev pub raw_connectives : Connectives FRaw
raw_connectives = record {
  all = apply op.And;
  any = apply op.Or;
  negated = negated;
  without = λ form others. apply op.AndNot (form ∷ others);
}

module _ (schema : List Property) (joiner : Joiner) where
  abbrev mutual
    pub lowered : KTree → FRaw
    lowered (Free leaf) = phrase leaf
    lowered All = raw.All 0
    lowered (Words leaves) = words leaves
    lowered (Group' s (more_of-KTree inside end_of-KTree)) = lowered inside
    lowered (TextTest property r leaf) = text_test (slice_get schema property) r leaf
    lowered (ValueTest property r first last) = value_test (slice_get schema property) r first last
    lowered (Near' s left t right n ordered) = near n ordered (lowered_each left ++ lowered_each right)
    lowered (Run' shape operands) = run_form raw_connectives joiner (forms operands)
    lowered (And' shape parts) = apply op.And (lowered_each parts)
    lowered (Or' shape parts) = apply op.Or (lowered_each parts)
    lowered (Xrank' s matched t ranked cb) = apply (op.Xrank cb) (lowered_each matched ++ lowered_each ranked)

    pub lowered_each : {m : _} → Row_of-KTree m → List FRaw
    lowered_each end_of-KTree = []
    lowered_each (more_of-KTree part rest) = lowered part ∷ lowered_each rest

    pub forms : {m : _} → Row_of-KOperand m → List (Form FRaw)
    forms end_of-KOperand = []
    forms (more_of-KOperand sign tree rest) = record { sign = sign; role = role sign tree; form = lowered tree } ∷ forms rest

  -- an operand of a run, with its form
  abbrev pub operand_form : KOperand → Form FRaw
  operand_form operand = record { sign = operand.sign; role = role operand.sign operand.tree; form = lowered operand.tree }
