-- Trees that mean what a query means.
use Rattle.std.proofs.Common.{◌≡◌, List, Ok, refl}
use Rattle.sq_schema.specs.declared.property.Property.{Property}
use Rattle.sq_schema.specs.Properties.{IsSchema}
use Rattle.sq_model.specs.declared.kql.Joiner.{Joiner}
use Rattle.sq_model.specs.declared.kql.KTree.{KTree}
use Rattle.sq_model.specs.declared.fql.FTree.{FTree}
use Rattle.sq_model.specs.KqlSound.{IsSound}
use Rattle.sq_typing.specs.Fql.{fql_typed}
use Rattle.sq_lower.specs.Lowered.{lowered}
use Rattle.sq_lower.specs.Law.{LoweringKeepsMeaning}
use Rattle.sq_engine.specs.Query.{Kql, Fql, Means}

pub means_itself : (schema : List Property) (side : Joiner) (tree : FTree) → Means schema side (Fql tree) tree
means_itself schema side tree = record {
  same_hits = λ values fit. refl;
  same_boost = λ values fit. refl;
}

pub means_kql : LoweringKeepsMeaning → (schema : List Property) (side : Joiner) (k : KTree) (t : FTree) → IsSchema schema → IsSound schema k
    → fql_typed schema (lowered schema side k) ≡ Ok t → Means schema side (Kql k) t
means_kql law schema side k t good sound typed = record {
  same_hits = λ values fit. (law schema side k t values good sound typed fit).holds;
  same_boost = λ values fit. (law schema side k t values good sound typed fit).boost;
}
