-- Queries of both languages, typed for a schema and a moment, their meaning, and the tree by which they are answered.
use Rattle.std.specs.Prelude.{◌≡◌, ℕ, Bool, true, if◌then◌else◌, List, ℤ, Result, Ok, Err}
use Rattle.std.specs.List.{list_all}
use Rattle.sq_base.specs.declared.faults.Fault.{Fault}
use Rattle.sq_base.specs.declared.faults.Fault.TheVariants as fault
use Rattle.sq_schema.specs.declared.property.Property.{Property}
use Rattle.sq_model.specs.declared.corpus.Value.{Value}
use Rattle.sq_model.specs.declared.kql.Joiner.{Joiner}
use Rattle.sq_model.specs.declared.kql.Joiner.TheVariants as joiner
use Rattle.sq_model.specs.declared.kql.KTree.{KTree}
use Rattle.sq_model.specs.declared.fql.FTree.{FTree}
use Rattle.sq_model.specs.Kql as kql
use Rattle.sq_model.specs.Fql as fql
use Rattle.sq_model.specs.Valid.{is_value}
use Rattle.sq_base.specs.Outcome.{Outcome, ◌>>=◌}
use Rattle.sq_kql.specs.Tree as kql_tree
use Rattle.sq_fql.specs.Read as fql_tree
use Rattle.sq_fql.specs.Canon.{canon}
use Rattle.sq_typing.specs.Kql.{typed}
use Rattle.sq_typing.specs.Fql.{fql_typed}
use Rattle.sq_lower.specs.Lowered.{lowered}
use Rattle.sq_packet.specs.declared.request.Language.{Language}
use Rattle.sq_packet.specs.declared.request.Language.TheVariants as language
use Rattle.sq_packet.specs.declared.request.Request.{Request}

pub data Query : Type 0 where
  Kql : KTree → Query
  Fql : FTree → Query

-- the typed tree of a KQL text
abbrev pub kql_typed : List Property → ℤ → List ℕ → Outcome KTree
kql_typed schema moment text = kql_tree.read_of text >>= typed schema moment

-- the typed tree of a text, or its first fault: of reading, and else of typing
unfoldable pub query_of : List Property → ℤ → Language → List ℕ → Outcome Query
query_of schema moment language.Kql text = kql_typed schema moment text >>= (λ tree. Ok (Kql tree))
query_of schema moment language.Fql text = fql_tree.read_of text >>= fql_typed schema >>= (λ tree. Ok (Fql tree))

-- how operands that stand side by side in a KQL text are joined
abbrev pub joiner_of : Request → Joiner
joiner_of request = if request.implicit_and then joiner.All else joiner.Any

-- whether the query holds of an item with these values
abbrev pub holds : List Property → Joiner → Query → List Value → Bool
holds schema side (Kql tree) values = kql.holds schema values side tree
holds schema side (Fql tree) values = fql.holds schema values tree

-- and the boost that it gives
abbrev pub boost : List Property → Joiner → Query → List Value → ℤ
boost schema side (Kql tree) values = kql.boost schema values side tree
boost schema side (Fql tree) values = fql.boost schema values tree

-- The FQL tree by which a text is answered: of KQL, the typed tree of the lowered text.
unfoldable pub tree_of : List Property → ℤ → Joiner → Language → List ℕ → Outcome FTree
tree_of schema moment side language.Kql text = kql_typed schema moment text >>= (λ tree. fql_typed schema (lowered schema side tree))
tree_of schema moment side language.Fql text = fql_tree.read_of text >>= fql_typed schema

-- The canonical FQL text that says what a KQL text says, or the text's first fault: of reading, and else of typing.
unfoldable pub lowered_of : List Property → ℤ → Joiner → List ℕ → Outcome (List ℕ)
lowered_of schema moment side text = kql_typed schema moment text >>= (λ tree. Ok (canon (lowered schema side tree)))

-- The tree means what the query means: of each item with values of the schema.
pub record Means (schema : List Property) (side : Joiner) (query : Query) (tree : FTree) : Type 0 where
  pub same_hits : (values : List Value) → list_all (is_value schema) values ≡ true → fql.holds schema values tree ≡ holds schema side query values
  pub same_boost : (values : List Value) → list_all (is_value schema) values ≡ true → fql.boost schema values tree ≡ boost schema side query values

-- A call answers a tree that means what the query means, or the fault. Want of memory may come in its place.
abbrev pub GivesTree : List Property → Joiner → Outcome Query → Result FTree Fault → Type 0
GivesTree schema side outcome (Ok tree) = (query : Query) × (outcome ≡ Ok query) × Means schema side query tree
GivesTree schema side outcome (Err (fault.Query refused)) = outcome ≡ Err refused
GivesTree schema side outcome (Err fault.NoMemory) = Unit {0}
