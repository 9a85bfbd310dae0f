-- Typing of an FQL tree by its operands as a list, as lowering makes them.
use Rattle.std.proofs.Common.{◌≡◌, ℕ, true, false, List, map, refl, ◌∙◌}
use Rattle.sq_schema.specs.declared.property.Property.{Property}
use Rattle.sq_model.specs.declared.fql.Look.{Look}
use Rattle.sq_fql.specs.declared.raw.Op.{Op}
use Rattle.sq_fql.specs.declared.raw.FRaw.{FRaw, Apply}
use Rattle.sq_typing.specs.Fql.{joins, joined_all, lone, proximity, proximate, is_for_all, combined_all, in_scope, typed_at}
use Rattle.sq_typing.specs.Together.{all_of}
use Rattle.sq_typing.proofs.FqlEquations.{proximate_apply, proximity_joined, applied_to_all, applied_in_scope, typed_apply}

module _ (schema : List Property) (look : Look) where
  pub proximity_lone : (at : ℕ) (o : Op) (operands : List FRaw) → joins o ≡ false →
      proximity look at o operands (map (proximate schema look) operands) ≡ lone look at o operands
  unfolding proximity
  proximity_lone at o operands alone = rw alone refl

  -- an operator that joins proximity expressions, and another
  pub proximate_joined : (at : ℕ) (o : Op) (operands : List FRaw) → joins o ≡ true →
      proximate schema look (Apply at o operands) ≡ joined_all o (all_of (map (proximate schema look) operands))
  proximate_joined at o operands joining =
      proximate_apply schema look at o operands ∙ proximity_joined look at o operands (map (proximate schema look) operands) joining

  pub proximate_lone : (at : ℕ) (o : Op) (operands : List FRaw) → joins o ≡ false → proximate schema look (Apply at o operands) ≡ lone look at o operands
  proximate_lone at o operands alone = proximate_apply schema look at o operands ∙ proximity_lone at o operands alone

module _ (schema : List Property) where
  -- an operator for all kinds, and another
  pub typed_for_all : (here : _) (at : ℕ) (o : Op) (operands : List FRaw) → is_for_all o ≡ true →
      typed_at schema here (Apply at o operands) ≡ combined_all o (all_of (map (typed_at schema here) operands))
  typed_for_all here at o operands for_all =
      typed_apply schema here at o operands ∙ applied_to_all schema here at o operands (map (typed_at schema here) operands) for_all

  pub typed_in_scope : (here : _) (at : ℕ) (o : Op) (operands : List FRaw) → is_for_all o ≡ false →
      typed_at schema here (Apply at o operands) ≡ in_scope schema here at o operands
  typed_in_scope here at o operands alone =
      typed_apply schema here at o operands ∙ applied_in_scope schema here at o operands (map (typed_at schema here) operands) alone
