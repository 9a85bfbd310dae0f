-- What code has seen of a run.
use Rattle.std.proofs.Common.{◌≡◌, ℕ, ◌+◌, ◌<◌, Bool, true, false, not, ◌||◌, cond, List, [], ◌∷◌, ◌++◌, map, take, length, get_or, Option, Some, None, refl, ap, ap₂, sym, subst, ◌∙◌}
use Rattle.std.proofs.lemmas.Bool.{false≢true, true≢false}
use Rattle.std.proofs.lemmas.List.{append-nil, take_more, map-append}
use Rattle.std.proofs.lemmas.List.Elements.{filter-append}
use Rattle.std.proofs.lemmas.List.Folds.{list_any-append}
use Rattle.std.specs.List.{list_any, filter}
use Rattle.std.specs.Option.{unwrap_or}
use Rattle.std.specs.Prelude.{MatchOption, if◌then◌else◌, is_some}
use Rattle.sq_schema.specs.declared.property.Property.{Property}
use Rattle.sq_model.specs.Kql.{restricted}
use Rattle.sq_model.specs.declared.kql.Joiner.{Joiner}
use Rattle.sq_model.specs.declared.kql.KOperand.{KOperand}
use Rattle.sq_fql.specs.declared.raw.FRaw.{FRaw}
use Rattle.sq_fql.specs.declared.raw.Op.TheVariants as op
use Rattle.sq_lower.specs.declared.runs.Run.{Run}
use Rattle.sq_lower.specs.Runs.{Form, is_required, is_subtracted, is_gathered, restricts, properties, forms_of, alone_or, less, in_one_place, gathered_form}
use Rattle.sq_lower.specs.Lowered.{apply, operand_form, raw_connectives}
use Rattle.sq_lower.proofs.Groups.{grouped, groups, forms_of_more, groups_more, groups_same, map_groups}
use Rattle.sq_lower.proofs.RunTests.{or-false, or-true}

-- the operands that were seen have these forms
pub record HasForms (run : Run) (forms : List (Form FRaw)) : Type 0 where
  pub required : run.required ≡ forms_of is_required forms
  pub restrictions : run.restrictions.entries ≡ groups forms
  pub subtracted : run.subtracted ≡ forms_of is_subtracted forms

groups_with : (run : List (Form FRaw)) (o : Form FRaw) (x : Option ℕ) → (restricted o.role) ≡ x → (old new : List (ℕ × List FRaw)) → old ≡ groups run →
    MatchOption x (new ≡ old) (λ p. new ≡ grouped old p o.form) → new ≡ groups (run ++ o ∷ [])
groups_with run o None is old new before after = after ∙ (before ∙ sym (groups_same run o is))
groups_with run o (Some p) is old new before after = after ∙ (ap (λ es. grouped es p o.form) before ∙ sym (groups_more run o p is))

-- one operand more
pub more_forms : (run new : Run) (forms : List (Form FRaw)) (o : Form FRaw) → HasForms run forms → new.required ≡ run.required ++ forms_of is_required (o ∷ []) →
    MatchOption (restricted o.role) (new.restrictions.entries ≡ run.restrictions.entries) (λ p. new.restrictions.entries ≡ grouped run.restrictions.entries p o.form) →
    new.subtracted ≡ run.subtracted ++ forms_of is_subtracted (o ∷ []) → HasForms new (forms ++ o ∷ [])
more_forms run new forms o before required restrictions subtracted = record {
  required = required ∙ (ap (λ l. l ++ forms_of is_required (o ∷ [])) before.required ∙ sym (forms_of_more is_required forms o));
  restrictions = groups_with forms o (restricted o.role) refl run.restrictions.entries new.restrictions.entries before.restrictions restrictions;
  subtracted = subtracted ∙ (ap (λ l. l ++ forms_of is_subtracted (o ∷ [])) before.subtracted ∙ sym (forms_of_more is_subtracted forms o));
}

-- all operands were seen
pub whole_run : (run : Run) (forms : List (Form FRaw)) → HasForms run forms →
    less raw_connectives (run.required ++ map (λ group. alone_or (apply op.Or) group.1) run.restrictions.entries) run.subtracted ≡ gathered_form raw_connectives forms
whole_run run forms seen =
    let one_each = ap (map (λ group. alone_or (apply op.Or) group.1)) seen.restrictions
    ∙ map_groups (alone_or (apply op.Or)) (λ k. forms_of (restricts k) forms) (properties forms) in
    ap₂ (less raw_connectives) (ap₂ (λ a b. a ++ b) seen.required one_each) seen.subtracted

-- ---- one operand in the place of those that pass a test

module _ {A : Type 0} (test : Form A → Bool) (form : A) where
  -- what stands at an operand, by whether the ones before it have their place
  abbrev pub placed : Bool → Form A → List (Form A)
  placed before o = if test o then (if before then [] else record o { form = form } ∷ []) else o ∷ []

  behind : (o : Form A) → filter (λ p. not (test p)) (o ∷ []) ≡ placed true o
  behind o = by (test o)
    where
      by : (b : Bool) → cond (not b) (o ∷ []) [] ≡ cond b [] (o ∷ [])
      by true = refl
      by false = refl

  -- one operand more
  pub placed_more : (run : List (Form A)) (o : Form A) → in_one_place test form (run ++ o ∷ []) ≡ in_one_place test form run ++ placed (list_any test run) o
  placed_more [] o = refl
  placed_more (r ∷ run) o = by (placed_more run o) (test r)
    where
      by : in_one_place test form (run ++ o ∷ []) ≡ in_one_place test form run ++ placed (list_any test run) o → (b : Bool) →
          cond b (record r { form = form } ∷ filter (λ p. not (test p)) (run ++ o ∷ [])) (r ∷ in_one_place test form (run ++ o ∷ []))
          ≡ cond b (record r { form = form } ∷ filter (λ p. not (test p)) run) (r ∷ in_one_place test form run) ++ placed (b || list_any test run) o
      by rest true = ap (λ l. record r { form = form } ∷ l) (filter-append (λ p. not (test p)) run (o ∷ []) ∙ ap (λ l. filter (λ p. not (test p)) run ++ l) (behind o))
      by rest false = ap (λ l. r ∷ l) rest

-- ---- the operands of a run, one after another

-- What code has seen of a run: the operands up to a place, of which those that are gathered have one form in the place of
-- the first, and the form where it has no place yet.
pub record HasPlaced (joiner : Joiner) (form : FRaw) (run : Run) (rest : Option FRaw) (forms : List (Form FRaw)) : Type 0 where
  pub seen : HasForms run (in_one_place (is_gathered joiner) form forms)
  pub left : rest ≡ (if list_any (is_gathered joiner) forms then None else Some form)

no_place : {X : Type 0} (b : Bool) (x y : X) → (if b then None else Some x) ≡ Some y → (b ≡ false) × (x ≡ y)
no_place true x y e = absurd (false≢true (ap is_some e))
no_place false x y e = (refl, ap (λ o. unwrap_or o x) e)

has_place : {X : Type 0} (b : Bool) (x : X) → (if b then None else Some x) ≡ None → b ≡ true
has_place true x e = refl
has_place false x e = absurd (true≢false (ap is_some e))

module _ (joiner : Joiner) (form : FRaw) where
  abbrev to_place : List (Form FRaw) → List (Form FRaw)
  to_place forms = in_one_place (is_gathered joiner) form forms

  abbrev some_gathered : List (Form FRaw) → Bool
  some_gathered forms = list_any (is_gathered joiner) forms

  some_more : (forms : List (Form FRaw)) (o : Form FRaw) → some_gathered (forms ++ o ∷ []) ≡ (some_gathered forms || is_gathered joiner o)
  some_more forms o = list_any-append (is_gathered joiner) forms (o ∷ []) ∙ ap (λ b. some_gathered forms || b) (or-false (is_gathered joiner o))

  module _ (run : Run) (rest : Option FRaw) (forms : List (Form FRaw)) (o : Form FRaw) (before : HasPlaced joiner form run rest forms) where
    -- an operand that isn't gathered
    pub other_more : (new : Run) → is_gathered joiner o ≡ false → HasForms new (to_place forms ++ o ∷ []) → HasPlaced joiner form new rest (forms ++ o ∷ [])
    other_more new is seen = record {
      seen = subst (HasForms new) (sym (placed_more (is_gathered joiner) form forms o
          ∙ ap (λ b. to_place forms ++ (if b then (if some_gathered forms then [] else record o { form = form } ∷ []) else o ∷ [])) is)) seen;
      left = before.left ∙ ap (λ b. if b then None else Some form) (sym (some_more forms o ∙ (ap (λ b. some_gathered forms || b) is ∙ or-false (some_gathered forms))));
    }

    -- the first one that is
    pub first_more : (new : Run) (after : Option FRaw) (taken : FRaw) → is_gathered joiner o ≡ true → rest ≡ Some taken → after ≡ None →
        HasForms new (to_place forms ++ record o { form = taken } ∷ []) → HasPlaced joiner form new after (forms ++ o ∷ [])
    first_more new after taken is here gone seen =
        let none = no_place (some_gathered forms) form taken (sym before.left ∙ here) in
        record {
          seen = subst (HasForms new) (sym (placed_more (is_gathered joiner) form forms o
              ∙ (ap₂ (λ b c. to_place forms ++ (if b then (if c then [] else record o { form = form } ∷ []) else o ∷ [])) is none.0
              ∙ ap (λ x. to_place forms ++ record o { form = x } ∷ []) none.1))) seen;
          left = gone ∙ ap (λ b. if b then None else Some form) (sym (some_more forms o ∙ (ap (λ b. some_gathered forms || b) is ∙ or-true (some_gathered forms))));
        }

    -- another one
    pub again_more : (after : Option FRaw) → is_gathered joiner o ≡ true → rest ≡ None → after ≡ None → HasPlaced joiner form run after (forms ++ o ∷ [])
    again_more after is here gone =
        let some = has_place (some_gathered forms) form (sym before.left ∙ here) in
        record {
          seen = subst (HasForms run) (sym (placed_more (is_gathered joiner) form forms o
              ∙ (ap₂ (λ b c. to_place forms ++ (if b then (if c then [] else record o { form = form } ∷ []) else o ∷ [])) is some
              ∙ append-nil (to_place forms)))) before.seen;
          left = gone ∙ ap (λ b. if b then None else Some form) (sym (some_more forms o ∙ ap (λ b. b || is_gathered joiner o) some));
        }

-- the operand at a place is the next one
pub next_form : (schema : List Property) (joiner : Joiner) (operands : List KOperand) (i : ℕ) (operand : KOperand) → i < length operands → operand ≡ get_or operands i operand →
    map (operand_form schema joiner) (take (i + 1) operands) ≡ map (operand_form schema joiner) (take i operands) ++ operand_form schema joiner operand ∷ []
next_form schema joiner operands i operand within is =
    ap (map (operand_form schema joiner)) (take_more operands i operand within ∙ ap (λ x. take i operands ++ x ∷ []) (sym is))
    ∙ map-append (operand_form schema joiner) (take i operands) (operand ∷ [])
