-- Lowering keeps the meaning.
use Rattle.std.specs.Prelude.{◌≡◌, true, List, Ok}
use Rattle.std.specs.List.{list_all}
use Rattle.sq_schema.specs.declared.property.Property.{Property}
use Rattle.sq_schema.specs.Properties.{IsSchema}
use Rattle.sq_model.specs.Fql as fql
use Rattle.sq_model.specs.Kql as kql
use Rattle.sq_model.specs.KqlSound.{IsSound}
use Rattle.sq_model.specs.Valid.{is_value}
use Rattle.sq_model.specs.declared.corpus.Value.{Value}
use Rattle.sq_model.specs.declared.fql.FTree.{FTree}
use Rattle.sq_model.specs.declared.kql.Joiner.{Joiner}
use Rattle.sq_model.specs.declared.kql.KTree.{KTree}
use Rattle.sq_typing.specs.Fql.{fql_typed}
use Rattle.sq_lower.specs.Lowered.{lowered}

-- both trees hold of the same items, and give them the same boosts
pub record IsSame (schema : List Property) (values : List Value) (joiner : Joiner) (k : KTree) (t : FTree) : Type 0 where
  pub holds : fql.holds schema values t ≡ kql.holds schema values joiner k
  pub boost : fql.boost schema values t ≡ kql.boost schema values joiner k

-- Under each joiner, of every item with values of the schema, as the items of a valid corpus are.
abbrev pub LoweringKeepsMeaning : Type 0
LoweringKeepsMeaning = (schema : List Property) (joiner : Joiner) (k : KTree) (t : FTree) (values : List Value)
    → IsSchema schema → IsSound schema k → fql_typed schema (lowered schema joiner k) ≡ Ok t → list_all (is_value schema) values ≡ true → IsSame schema values joiner k t
