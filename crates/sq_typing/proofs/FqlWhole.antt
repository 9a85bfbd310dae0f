-- What typing FQL gives of a well-formed tree is sound.
use Rattle.std.proofs.Common.{ℕ, ◌<◌, ◌≤◌, List, arith}
use Rattle.std.specs.Prelude.{Ok, Err, IfOk}
use Rattle.sq_schema.specs.declared.property.Property.{Property}
use Rattle.sq_model.specs.FqlSound.{PartsSound, tokens_in, xranks_in, IsSound}
use Rattle.sq_model.specs.declared.fql.Look.TheVariants.{Searchable}
use Rattle.sq_model.specs.declared.fql.FTree.{FTree}
use Rattle.sq_base.specs.Outcome.{Outcome}
use Rattle.sq_fql.specs.declared.raw.FRaw.{FRaw}
use Rattle.sq_fql.specs.WellFormed.{IsWellFormed, bytes, xranks}
use Rattle.sq_typing.specs.declared.fql_place.Place.TheVariants as place
use Rattle.sq_typing.specs.Fql.{fql_typed}
use Rattle.sq_typing.proofs.FqlSound.{parts_sound}
use Rattle.sq_typing.proofs.FqlTokens as tokens
use Rattle.sq_typing.proofs.FqlXranks as xranks

module _ (schema : List Property) where
  together_sound : (x : Outcome FTree) (m n : ℕ) → m < 100_000_000 → n < 1_000_000 → IfOk x (PartsSound schema) → IfOk x (λ t. tokens_in t ≤ m) → IfOk x (λ t. xranks_in t ≤ n) →
      IfOk x (IsSound schema)
  together_sound (Ok t) m n short few parts bytes xranks = record { parts = parts; tokens = omega (arith, short, bytes); xranks = omega (arith, few, xranks) }
  together_sound (Err e) m n short few parts bytes xranks = tt

  pub whole_sound : (t : FRaw) → IsWellFormed t → IfOk (fql_typed schema t) (IsSound schema)
  whole_sound t formed =
      together_sound (fql_typed schema t) (bytes t) (xranks t) formed.few_bytes formed.few_xranks
      (parts_sound schema t formed.form) (tokens.typed_few schema (place.Texts Searchable) t) (xranks.typed_few schema (place.Texts Searchable) t)
