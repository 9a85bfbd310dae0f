-- The form of a run: operands side by side, of which restrictions of one property stand for one another, and under `Any`
-- loose operands.
use Rattle.std.specs.Prelude.{ℕ, Bool, true, false, not, ◌&&◌, if◌then◌else◌, nat_eq, List, [], ◌∷◌, ◌++◌, map, filter, Some, is_none}
use Rattle.std.specs.List.{cons_option}
use Rattle.std.specs.Option.{option_eq}
use Rattle.sq_model.specs.Kql.{restricted, is_loose}
use Rattle.sq_model.specs.declared.judged.Role.{Role}
use Rattle.sq_model.specs.declared.kql.Joiner.{Joiner}
use Rattle.sq_model.specs.declared.kql.Joiner.TheVariants as joiner
use Rattle.sq_model.specs.declared.kql.Sign.{Sign}
use Rattle.sq_model.specs.declared.kql.Sign.TheVariants.{Minus}

-- how trees are joined: all of them, one of them, not this one, and this one without those
pub record Connectives (A : Type 0) : Type 0 where
  pub all : List A → A
  pub any : List A → A
  pub negated : A → A
  pub without : A → List A → A

-- the form of an operand, with its sign and its role
pub record Form (A : Type 0) : Type 0 where
  pub sign : Sign
  pub role : Role
  pub form : A

abbrev pub is_minus : Sign → Bool
is_minus Minus = true
is_minus _ = false

-- under `Any` the loose operands are gathered to one
abbrev pub gathers : Joiner → Role → Bool
gathers joiner.All role = false
gathers joiner.Any role = is_loose role

module _ {A : Type 0} where
  abbrev pub is_gathered : Joiner → Form A → Bool
  is_gathered joiner o = gathers joiner o.role

  abbrev pub is_subtracted : Form A → Bool
  is_subtracted o = is_minus o.sign

  -- a plain or plus operand that is no plain restriction written with `:` or `=`, or a range
  abbrev pub is_required : Form A → Bool
  is_required o = not (is_minus o.sign) && is_none (restricted o.role)

  abbrev pub restricts : ℕ → Form A → Bool
  restricts property o = option_eq nat_eq (restricted o.role) (Some property)

  -- the forms of the operands that pass the test, in order
  abbrev pub forms_of : (Form A → Bool) → List (Form A) → List A
  forms_of test run = map (λ o. o.form) (filter test run)

  -- the properties that operands restrict, each once, in the order in which they are first seen
  abbrev pub properties : List (Form A) → List ℕ
  properties [] = []
  properties (o ∷ run) = cons_option (restricted o.role) (filter (λ p. not (option_eq nat_eq (restricted o.role) (Some p))) (properties run))

  -- one form stands for itself
  abbrev pub alone_or : (List A → A) → List A → A
  alone_or joined (form ∷ []) = form
  alone_or joined forms = joined forms

  -- the first operand that passes the test, with this form, and without the others that pass
  abbrev pub in_one_place : (Form A → Bool) → A → List (Form A) → List (Form A)
  in_one_place test form [] = []
  in_one_place test form (o ∷ run) = if test o then record o { form = form } ∷ filter (λ p. not (test p)) run else o ∷ in_one_place test form run

  module _ (connectives : Connectives A) where
    -- Where there are several gathered operands, the `or` of their forms stands in the place of the first of them.
    abbrev pub gathered : Joiner → List (Form A) → List (Form A)
    gathered joiner run = in_one_place (is_gathered joiner) (alone_or connectives.any (forms_of (is_gathered joiner) run)) run

    -- what must hold: each required operand, and for each restricted property one of its restrictions
    abbrev pub members : List (Form A) → List A
    members run = forms_of is_required run ++ map (λ p. alone_or connectives.any (forms_of (restricts p) run)) (properties run)

    -- the first forms, and none of the others
    abbrev pub less : List A → List A → A
    less [] minus = connectives.negated (alone_or connectives.any minus)
    less wanted [] = alone_or connectives.all wanted
    less wanted minus = connectives.without (alone_or connectives.all wanted) minus

    abbrev pub gathered_form : List (Form A) → A
    gathered_form run = less (members run) (forms_of is_subtracted run)

    abbrev pub run_form : Joiner → List (Form A) → A
    run_form joiner run = gathered_form (gathered joiner run)
