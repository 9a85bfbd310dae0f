-- What contracts see of a holding.
use Rattle.std.specs.Prelude.{List}
use Rattle.sq_schema.specs.declared.property.Property.{Property}
use Rattle.sq_model.specs.declared.corpus.Caller.{Caller}
use Rattle.sq_postings.specs.Indexed.{Indexed}
use Rattle.sq_stored.specs.Stored.{StoredItem}

pub record Held : Type 0 where
  pub schema : List Property
  pub callers : List Caller
  pub index : Indexed
  pub stored : List StoredItem

abbrev pub held_of : List Property → List Caller → Indexed → List StoredItem → Held
held_of schema callers index stored = record { schema = schema; callers = callers; index = index; stored = stored }
