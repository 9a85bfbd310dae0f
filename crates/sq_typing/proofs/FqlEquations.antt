-- Typing of FQL by the operands of a tree as a list, as code meets them.
use Rattle.std.proofs.Common.{◌≡◌, ℕ, true, false, List, ◌∷◌, map, refl, ap, ◌∙◌}
use Rattle.std.specs.Prelude.{Ok, Err}
use Rattle.sq_base.specs.declared.faults.QueryFault.{QueryFault}
use Rattle.sq_schema.specs.declared.property.Property.{Property}
use Rattle.sq_model.specs.declared.fql.Look.{Look}
use Rattle.sq_model.specs.declared.fql.SpanTree.{SpanTree}
use Rattle.sq_model.specs.declared.fql.FTree.{FTree}
use Rattle.sq_base.specs.Outcome.{Outcome, ◌>>=◌}
use Rattle.sq_fql.specs.declared.raw.Op.{Op}
use Rattle.sq_fql.specs.declared.raw.FRaw.{FRaw, Scope, Apply, Row_of-FRaw, end_of-FRaw, more_of-FRaw, items-the_row-FRaw, items_hidden-the_row-FRaw-1}
use Rattle.sq_fql.specs.declared.raw.FRaw.TheBlock.{shape-the_row-FRaw-0, hidden-the_row-FRaw-0, hidden-the_row-FRaw-1}
use Rattle.sq_typing.specs.declared.fql_place.Measure.{Measure}
use Rattle.sq_typing.specs.declared.fql_place.Place.{Place}
use Rattle.sq_typing.specs.FqlPlaces.{entered}
use Rattle.sq_typing.specs.FqlTexts.{phrase_of, one_pattern}
use Rattle.sq_typing.specs.FqlNumbers.{literal_value, bound}
use Rattle.sq_typing.specs.Fql.{joins, joined_all, proximity, proximate, proximate_each, is_for_all, combined_all, in_scope, applied, typed_at, typed_each}
use Rattle.sq_typing.specs.Together.{all_of}

pub pattern_apply : (schema : List Property) (at : ℕ) (o : Op) (operands : List FRaw) → one_pattern schema (Apply at o operands) ≡ phrase_of at o operands
pattern_apply schema at o operands = ap (phrase_of at o) (items_hidden-the_row-FRaw-1 operands)

pub bound_apply : (schema : List Property) (m : Measure) (at : ℕ) (o : Op) (operands : List FRaw) → bound schema m (Apply at o operands) ≡ literal_value m at o operands
bound_apply schema m at o operands = ap (literal_value m at o) (items_hidden-the_row-FRaw-1 operands)

pub ruleset bound_rules = (pattern_apply, bound_apply)

module _ (schema : List Property) (look : Look) where
  proximate_of_row : {m : _} (row : Row_of-FRaw m) → proximate_each schema look row ≡ map (proximate schema look) (items-the_row-FRaw m row)
  proximate_of_row end_of-FRaw = refl
  proximate_of_row (more_of-FRaw part rest) = ap (λ r. proximate schema look part ∷ r) (proximate_of_row rest)

  pub proximate_apply : (at : ℕ) (o : Op) (operands : List FRaw) →
      proximate schema look (Apply at o operands) ≡ proximity look at o operands (map (proximate schema look) operands)
  proximate_apply at o operands =
      ap (proximity look at o (items-the_row-FRaw _ (hidden-the_row-FRaw-1 operands)))
      (proximate_of_row (hidden-the_row-FRaw-1 operands))
      ∙ ap (λ os. proximity look at o os (map (proximate schema look) os)) (items_hidden-the_row-FRaw-1 operands)

pub ruleset proximate_rules = (proximate_apply)

pub proximity_joined : (look : Look) (at : ℕ) (o : Op) (operands : List FRaw) (parts : List (Outcome SpanTree)) → joins o ≡ true →
    proximity look at o operands parts ≡ joined_all o (all_of parts)
unfolding proximity
proximity_joined look at o operands parts joining = rw joining refl

pub applied_to_all : (schema : List Property) (here : Place) (at : ℕ) (o : Op) (operands : List FRaw) (parts : List (Outcome FTree)) → is_for_all o ≡ true →
    applied schema here at o operands parts ≡ combined_all o (all_of parts)
unfolding applied
applied_to_all schema here at o operands parts for_all = rw for_all refl

pub applied_in_scope : (schema : List Property) (here : Place) (at : ℕ) (o : Op) (operands : List FRaw) (parts : List (Outcome FTree)) → is_for_all o ≡ false →
    applied schema here at o operands parts ≡ in_scope schema here at o operands
unfolding applied
applied_in_scope schema here at o operands parts alone = rw alone refl

module _ (schema : List Property) where
  typed_of_row : {m : _} (here : Place) (row : Row_of-FRaw m) → typed_each schema here row ≡ map (typed_at schema here) (items-the_row-FRaw m row)
  typed_of_row here end_of-FRaw = refl
  typed_of_row here (more_of-FRaw part rest) = ap (λ r. typed_at schema here part ∷ r) (typed_of_row here rest)

  pub typed_scope : (here : Place) (at : ℕ) (name : List ℕ) (inner : FRaw) →
      typed_at schema here (Scope at name inner) ≡ (entered schema here at name >>= (λ inside. typed_at schema inside inner))
  unfolding shape-the_row-FRaw-0 hidden-the_row-FRaw-0 denote.Hole.Carrier.hidden
  typed_scope here at name inner = refl

  pub typed_apply : (here : Place) (at : ℕ) (o : Op) (operands : List FRaw) →
      typed_at schema here (Apply at o operands) ≡ applied schema here at o operands (map (typed_at schema here) operands)
  typed_apply here at o operands =
      ap (applied schema here at o (items-the_row-FRaw _ (hidden-the_row-FRaw-1 operands)))
      (typed_of_row here (hidden-the_row-FRaw-1 operands))
      ∙ ap (λ os. applied schema here at o os (map (typed_at schema here) os)) (items_hidden-the_row-FRaw-1 operands)

  pub scope_typed : (here inside : Place) (at : ℕ) (name : List ℕ) (inner : FRaw) → entered schema here at name ≡ Ok inside →
      typed_at schema here (Scope at name inner) ≡ typed_at schema inside inner
  scope_typed here inside at name inner known = typed_scope here at name inner ∙ ap (λ place. place >>= (λ p. typed_at schema p inner)) known

  pub scope_refused : (here : Place) (at : ℕ) (name : List ℕ) (inner : FRaw) (fault : QueryFault) → entered schema here at name ≡ Err fault →
      typed_at schema here (Scope at name inner) ≡ Err fault
  scope_refused here at name inner fault shut = typed_scope here at name inner ∙ ap (λ place. place >>= (λ p. typed_at schema p inner)) shut

pub ruleset typed_rules = (typed_scope, typed_apply)
