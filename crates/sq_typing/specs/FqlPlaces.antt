-- Where an expression of FQL stands, and which scopes may stand there.
use Rattle.std.specs.Prelude.{ℕ, List, Bool, true, false, if◌then◌else◌, position, Option, option_map, option_and_then, Ok, Err}
use Rattle.sq_base.specs.declared.faults.QueryFault.{QueryFault}
use Rattle.sq_schema.specs.declared.property.Kind.{Kind}
use Rattle.sq_schema.specs.declared.property.Kind.TheVariants as kind
use Rattle.sq_schema.specs.declared.property.Property.{Property}
use Rattle.sq_schema.specs.Properties.{has_name}
use Rattle.sq_model.specs.Kinds.{kind_of}
use Rattle.sq_model.specs.declared.fql.Look.{Look}
use Rattle.sq_model.specs.declared.fql.Look.TheVariants.{Searchable, One}
use Rattle.sq_base.specs.Outcome.{Outcome, refused, or_refused, ◌>>=◌}
use Rattle.sq_typing.specs.declared.codes.TheConstants.{UNKNOWN_PROPERTY}
use Rattle.sq_typing.specs.declared.fql_codes.TheConstants.{NESTED_SCOPE}
use Rattle.sq_typing.specs.declared.fql_place.Measure.TheVariants as measure
use Rattle.sq_typing.specs.declared.fql_place.Place.{Place}
use Rattle.sq_typing.specs.declared.fql_place.Place.TheVariants as place

-- the place in the scope of a property of this row and kind
abbrev pub place_of : ℕ → Kind → Place
place_of row kind.Text = place.Texts (One row)
place_of row kind.Integer = place.Numbers row measure.Integer
place_of row kind.DateTime = place.Numbers row measure.DateTime
place_of row kind.YesNo = place.YesNo row

-- the place in the scope of the property of this name, if the schema has it
unfoldable pub opened : List Property → List ℕ → Option Place
opened schema name = option_and_then (λ row. option_map (place_of row) (kind_of schema row)) (position (has_name name) schema)

abbrev pub named : List Property → ℕ → List ℕ → Outcome Place
named schema at name = or_refused (opened schema name) UNKNOWN_PROPERTY at

abbrev pub is_outside : Place → Bool
is_outside (place.Texts Searchable) = true
is_outside (place.Texts (One row)) = false
is_outside (place.Numbers row m) = false
is_outside (place.YesNo row) = false

-- the place in a scope, which may stand only outside of all others
unfoldable pub entered : List Property → Place → ℕ → List ℕ → Outcome Place
entered schema here at name = named schema at name >>= (λ inside. if is_outside here then Ok inside else refused NESTED_SCOPE at)

abbrev pub fault : ℕ → ℕ → QueryFault
fault code at = record { code = code; at = at }

abbrev pub fault_or : Outcome Place → QueryFault → QueryFault
fault_or (Ok inside) other = other
fault_or (Err e) other = e

-- the fault of a scope where none may stand: its name's, or else this one
abbrev pub misplaced : List Property → ℕ → ℕ → List ℕ → QueryFault
misplaced schema code at name = fault_or (named schema at name) (fault code at)

-- the fault of what may not stand outside of every scope, nor in a text scope
abbrev pub barred : Look → ℕ → ℕ → ℕ → QueryFault
barred Searchable outside inside at = fault outside at
barred (One row) outside inside at = fault inside at
