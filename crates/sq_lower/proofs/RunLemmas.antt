-- The form of a run is typed as the form of the run's typed operands.
use Rattle.std.proofs.Common.{◌≡◌, ℕ, Bool, true, false, not, ◌&&◌, ◌||◌, cond, List, [], ◌∷◌, ◌++◌, map, Option, Some, None, refl, sym, ap, ap₂, subst, ◌∙◌, eq-eqb}
use Rattle.std.specs.Prelude.{nat_eq, filter, is_none}
use Rattle.std.proofs.lemmas.Bool.{true≢false, false≢true}
use Rattle.std.specs.List.{list_any, AllByRecursion, cons_option}
use Rattle.std.specs.Option.{option_eq}
use Rattle.sq_schema.specs.declared.property.Property.{Property}
use Rattle.sq_model.specs.Lists.{is_empty}
use Rattle.sq_model.specs.declared.fql.FTree.{FTree}
use Rattle.sq_model.specs.Kql.{restricted}
use Rattle.sq_model.specs.declared.judged.Role.{Role}
use Rattle.sq_model.specs.declared.judged.Role.TheVariants.{Restricts, Loose, Other}
use Rattle.sq_model.specs.declared.kql.Joiner.{Joiner}
use Rattle.sq_model.specs.declared.kql.Sign.{Sign}
use Rattle.sq_model.specs.declared.kql.Sign.TheVariants.{Plain, Plus, Minus}
use Rattle.sq_fql.specs.declared.raw.FRaw.{FRaw}
use Rattle.sq_typing.specs.Fql.{fql_typed}
use Rattle.sq_lower.specs.Lowered.{raw_connectives}
use Rattle.sq_lower.specs.Runs.{Connectives, Form, is_minus, is_subtracted, is_required, restricts, forms_of, properties, alone_or, members, less, gathers, is_gathered, in_one_place, gathered, gathered_form, run_form}
use Rattle.sq_lower.proofs.Form.{tree_connectives}
use Rattle.sq_lower.proofs.JoinedLemmas.{IsTyped, AreTyped, given_append, and_typed, or_typed, not_typed, and_not_typed, alone_typed}

-- ---- lists

or_right : (a b : Bool) → b ≡ true → (a || b) ≡ true
or_right true b is = refl
or_right false b is = is

some_behind : {X Y : Type 0} (xs : List X) (f : Y → X) (ys : List Y) → is_empty ys ≡ false → is_empty (xs ++ map f ys) ≡ false
some_behind [] f [] some = some
some_behind [] f (y ∷ ys) some = refl
some_behind (x ∷ xs) f ys some = refl

all_weaker : {X : Type 0} (P Q : X → Type 0) → ((x : X) → P x → Q x) → (xs : List X) → AllByRecursion P xs → AllByRecursion Q xs
all_weaker P Q weaker [] all = tt
all_weaker P Q weaker (x ∷ xs) all = (weaker x all.0, all_weaker P Q weaker xs all.1)

all_kept : {X : Type 0} (P : X → Type 0) (kept : Bool) (x : X) (xs : List X) → P x → AllByRecursion P xs → AllByRecursion P (cond kept (x ∷ xs) xs)
all_kept P true x xs here all = (here, all)
all_kept P false x xs here all = all

all_filter : {X : Type 0} (P : X → Type 0) (test : X → Bool) (xs : List X) → AllByRecursion P xs → AllByRecursion P (filter test xs)
all_filter P test [] all = tt
all_filter P test (x ∷ xs) all = all_kept P (test x) x (filter test xs) all.0 (all_filter P test xs all.1)

all_cons_option : {X : Type 0} (P : X → Type 0) (first : Option X) (xs : List X) → ((x : X) → first ≡ Some x → P x) → AllByRecursion P xs → AllByRecursion P (cons_option first xs)
all_cons_option P None xs here all = all
all_cons_option P (Some x) xs here all = (here x refl, all)

-- ---- runs

module _ {A : Type 0} where
  some_kept : (kept more : Bool) (o : Form A) (os : List (Form A)) → (kept || more) ≡ true → (more ≡ true → is_empty (map (λ p. p.form) os) ≡ false) →
      is_empty (map (λ p. p.form) (cond kept (o ∷ os) os)) ≡ false
  some_kept true more o os found rest = refl
  some_kept false more o os found rest = rest found

  some_of_any : (test : Form A → Bool) (run : List (Form A)) → list_any test run ≡ true → is_empty (forms_of test run) ≡ false
  some_of_any test [] found = absurd (false≢true found)
  some_of_any test (o ∷ run) found = some_kept (test o) (list_any test run) o (filter test run) found (λ rest. some_of_any test run rest)

  -- each property of the run is restricted by one of its operands
  properties_found : (run : List (Form A)) → AllByRecursion (λ p. list_any (restricts p) run ≡ true) (properties run)
  properties_found [] = tt
  properties_found (o ∷ run) =
      all_cons_option (λ p. list_any (restricts p) (o ∷ run) ≡ true) (restricted o.role) _
      (λ p is. ap (λ b. b || list_any (restricts p) run) (ap (λ q. option_eq nat_eq q (Some p)) is ∙ eq-eqb p p refl))
      (all_filter (λ p. list_any (restricts p) (o ∷ run) ≡ true) _ (properties run)
      (all_weaker (λ p. list_any (restricts p) run ≡ true) _ (λ p found. or_right (restricts p o) _ found) (properties run) (properties_found run)))

  some_restrict : (run : List (Form A)) → AllByRecursion (λ p. is_empty (forms_of (restricts p) run) ≡ false) (properties run)
  some_restrict run = all_weaker (λ p. list_any (restricts p) run ≡ true) _ (λ p found. some_of_any (restricts p) run found) (properties run) (properties_found run)

  module _ (connectives : Connectives A) where
    some_members : (run : List (Form A)) → is_empty (properties run) ≡ false → is_empty (members connectives run) ≡ false
    some_members run some = some_behind (forms_of is_required run) (λ p. alone_or connectives.any (forms_of (restricts p) run)) (properties run) some

    -- a run of operands that are all subtracted has such an operand
    some_by_sign : (sign : Sign) (role : Role) (form : A) (run : List (Form A)) →
        is_empty (members connectives (record { sign = sign; role = role; form = form } ∷ run)) ≡ true →
        is_empty (forms_of is_subtracted (record { sign = sign; role = role; form = form } ∷ run)) ≡ false
    some_by_sign Minus role form run none = refl
    some_by_sign Plain Loose form run none = absurd (false≢true none)
    some_by_sign Plain Other form run none = absurd (false≢true none)
    some_by_sign Plus Loose form run none = absurd (false≢true none)
    some_by_sign Plus Other form run none = absurd (false≢true none)
    some_by_sign Plain (Restricts p) form run none =
        absurd (false≢true (sym (some_members (record { sign = Plain; role = Restricts p; form = form } ∷ run) refl) ∙ none))
    some_by_sign Plus (Restricts p) form run none = absurd (false≢true (sym (some_members (record { sign = Plus; role = Restricts p; form = form } ∷ run) refl) ∙ none))

    some_subtracted : (run : List (Form A)) → is_empty run ≡ false → is_empty (members connectives run) ≡ true → is_empty (forms_of is_subtracted run) ≡ false
    some_subtracted [] some none = absurd (true≢false some)
    some_subtracted (o ∷ run) some none = some_by_sign o.sign o.role o.form run none

-- ---- typing

module _ (schema : List Property) where
  pub record IsForm (o : Form FRaw) (p : Form FTree) : Type 0 where
    pub sign : o.sign ≡ p.sign
    pub role : o.role ≡ p.role
    pub form : IsTyped schema o.form p.form

  -- operands with the same signs and roles, and the forms of the first are typed as those of the second
  abbrev pub AreForms : List (Form FRaw) → List (Form FTree) → Type 0
  AreForms [] [] = Unit {0}
  AreForms (o ∷ os) (p ∷ ps) = IsForm o p × AreForms os ps
  AreForms _ _ = ⊥

  kept_typed : (a b : Bool) (o : Form FRaw) (p : Form FTree) (os : List (Form FRaw)) (ps : List (Form FTree)) → a ≡ b → IsTyped schema o.form p.form →
      AreTyped schema (map (λ o. o.form) os) (map (λ p. p.form) ps) →
      AreTyped schema (map (λ o. o.form) (cond a (o ∷ os) os)) (map (λ p. p.form) (cond b (p ∷ ps) ps))
  kept_typed true true o p os ps same here typed = (here, typed)
  kept_typed false false o p os ps same here typed = typed
  kept_typed true false o p os ps same here typed = absurd (true≢false same)
  kept_typed false true o p os ps same here typed = absurd (false≢true same)

  forms_typed : (test : Sign → Role → Bool) (run : List (Form FRaw)) (trees : List (Form FTree)) → AreForms run trees →
      AreTyped schema (forms_of (λ o. test o.sign o.role) run) (forms_of (λ p. test p.sign p.role) trees)
  forms_typed test [] [] are = tt
  forms_typed test (o ∷ os) (p ∷ ps) are =
      kept_typed (test o.sign o.role) (test p.sign p.role) o p (filter (λ o. test o.sign o.role) os) (filter (λ p. test p.sign p.role) ps)
      (ap₂ test are.0.sign are.0.role) are.0.form (forms_typed test os ps are.1)
  forms_typed test [] (p ∷ ps) are = absurd are
  forms_typed test (o ∷ os) [] are = absurd are

  properties_same : (run : List (Form FRaw)) (trees : List (Form FTree)) → AreForms run trees → properties run ≡ properties trees
  properties_same [] [] are = refl
  properties_same (o ∷ os) (p ∷ ps) are =
      ap₂ (λ property rest. cons_option property (filter (λ q. not (option_eq nat_eq property (Some q))) rest)) (ap restricted are.0.role) (properties_same os ps are.1)
  properties_same [] (p ∷ ps) are = absurd are
  properties_same (o ∷ os) [] are = absurd are

  restrictions_typed : (run : List (Form FRaw)) (trees : List (Form FTree)) → AreForms run trees →
      (ps : List ℕ) → AllByRecursion (λ p. is_empty (forms_of (restricts p) trees) ≡ false) ps →
      AreTyped schema (map (λ p. alone_or raw_connectives.any (forms_of (restricts p) run)) ps) (map (λ p. alone_or tree_connectives.any (forms_of (restricts p) trees)) ps)
  restrictions_typed run trees are [] some = tt
  restrictions_typed run trees are (p ∷ ps) some = (
    alone_typed schema raw_connectives.any tree_connectives.any (or_typed schema) _ _ (forms_typed (λ sign role. option_eq nat_eq (restricted role) (Some p)) run trees are) some.0,
    restrictions_typed run trees are ps some.1,
  )

  members_typed : (run : List (Form FRaw)) (trees : List (Form FTree)) → AreForms run trees → AreTyped schema (members raw_connectives run) (members tree_connectives trees)
  members_typed run trees are =
      given_append (fql_typed schema) (forms_of is_required run) (forms_of is_required trees) _ _
      (forms_typed (λ sign role. not (is_minus sign) && is_none (restricted role)) run trees are)
      (subst (λ ps. AreTyped schema (map (λ p. alone_or raw_connectives.any (forms_of (restricts p) run)) ps)
      (map (λ p. alone_or tree_connectives.any (forms_of (restricts p) trees)) (properties trees)))
      (sym (properties_same run trees are)) (restrictions_typed run trees are (properties trees) (some_restrict trees)))

  less_typed : (raws : List FRaw) (trees : List FTree) (minus : List FRaw) (without : List FTree) → AreTyped schema raws trees → AreTyped schema minus without →
      (is_empty trees ≡ true → is_empty without ≡ false) → IsTyped schema (less raw_connectives raws minus) (less tree_connectives trees without)
  less_typed [] [] minus without typed others some =
      not_typed schema _ _ (alone_typed schema raw_connectives.any tree_connectives.any (or_typed schema) minus without others (some refl))
  less_typed (r ∷ raws) (t ∷ trees) [] [] typed others some =
      alone_typed schema raw_connectives.all tree_connectives.all (and_typed schema) (r ∷ raws) (t ∷ trees) typed refl
  less_typed (r ∷ raws) (t ∷ trees) (m ∷ minus) (u ∷ without) typed others some =
      and_not_typed schema _ _ (m ∷ minus) (u ∷ without)
      (alone_typed schema raw_connectives.all tree_connectives.all (and_typed schema) (r ∷ raws) (t ∷ trees) typed refl) others refl
  less_typed [] (t ∷ trees) minus without typed others some = absurd typed
  less_typed (r ∷ raws) [] minus without typed others some = absurd typed
  less_typed (r ∷ raws) (t ∷ trees) [] (u ∷ without) typed others some = absurd others
  less_typed (r ∷ raws) (t ∷ trees) (m ∷ minus) [] typed others some = absurd others

  gathered_typed : (run : List (Form FRaw)) (trees : List (Form FTree)) → AreForms run trees → is_empty trees ≡ false →
      IsTyped schema (gathered_form raw_connectives run) (gathered_form tree_connectives trees)
  gathered_typed run trees are some =
      less_typed (members raw_connectives run) (members tree_connectives trees) (forms_of is_subtracted run) (forms_of is_subtracted trees)
      (members_typed run trees are) (forms_typed (λ sign role. is_minus sign) run trees are) (λ none. some_subtracted tree_connectives trees some none)

  -- ---- one operand in the place of those that pass a test

  module _ (test : Sign → Role → Bool) where
    abbrev passes : {A : Type 0} → Form A → Bool
    passes o = test o.sign o.role

    kept_forms : (a b : Bool) (o : Form FRaw) (p : Form FTree) (os : List (Form FRaw)) (ps : List (Form FTree)) → a ≡ b → IsForm o p → AreForms os ps →
        AreForms (cond a (o ∷ os) os) (cond b (p ∷ ps) ps)
    kept_forms true true o p os ps same here are = (here, are)
    kept_forms false false o p os ps same here are = are
    kept_forms true false o p os ps same here are = absurd (true≢false same)
    kept_forms false true o p os ps same here are = absurd (false≢true same)

    forms_without : (run : List (Form FRaw)) (trees : List (Form FTree)) → AreForms run trees → AreForms (filter (λ o. not (passes o)) run) (filter (λ p. not (passes p)) trees)
    forms_without [] [] are = tt
    forms_without (o ∷ os) (p ∷ ps) are =
        kept_forms (not (passes o)) (not (passes p)) o p (filter (λ o. not (passes o)) os) (filter (λ p. not (passes p)) ps)
        (ap not (ap₂ test are.0.sign are.0.role)) are.0 (forms_without os ps are.1)
    forms_without [] (p ∷ ps) are = absurd are
    forms_without (o ∷ os) [] are = absurd are

    module _ (raw : FRaw) (tree : FTree) where
      one_placed : (a b : Bool) (o : Form FRaw) (p : Form FTree) (os others : List (Form FRaw)) (ps rest : List (Form FTree)) → a ≡ b → IsForm o p → (b ≡ true → IsTyped schema raw tree) →
          AreForms os ps → AreForms others rest → AreForms (cond a (record o { form = raw } ∷ os) (o ∷ others)) (cond b (record p { form = tree } ∷ ps) (p ∷ rest))
      one_placed true true o p os others ps rest same here made are more = (record { sign = here.sign; role = here.role; form = made refl }, are)
      one_placed false false o p os others ps rest same here made are more = (here, more)
      one_placed true false o p os others ps rest same here made are more = absurd (true≢false same)
      one_placed false true o p os others ps rest same here made are more = absurd (false≢true same)

      placed_forms : (run : List (Form FRaw)) (trees : List (Form FTree)) → (list_any passes trees ≡ true → IsTyped schema raw tree) → AreForms run trees →
          AreForms (in_one_place passes raw run) (in_one_place passes tree trees)
      placed_forms [] [] made are = tt
      placed_forms (o ∷ os) (p ∷ ps) made are =
          one_placed (passes o) (passes p) o p (filter (λ o. not (passes o)) os) (in_one_place passes raw os) (filter (λ p. not (passes p)) ps) (in_one_place passes tree ps)
          (ap₂ test are.0.sign are.0.role) are.0 (λ here. made (ap (λ b. b || list_any passes ps) here))
          (forms_without os ps are.1) (placed_forms os ps (λ later. made (or_right (passes p) _ later)) are.1)
      placed_forms [] (p ∷ ps) made are = absurd are
      placed_forms (o ∷ os) [] made are = absurd are

    some_placed : (tree : FTree) (trees : List (Form FTree)) → is_empty trees ≡ false → is_empty (in_one_place passes tree trees) ≡ false
    some_placed tree [] some = absurd (true≢false some)
    some_placed tree (p ∷ ps) some = by (passes p)
      where
        by : (b : Bool) → is_empty (cond b (record p { form = tree } ∷ filter (λ o. not (passes o)) ps) (p ∷ in_one_place passes tree ps)) ≡ false
        by true = refl
        by false = refl

  pub run_typed : (joiner : Joiner) (run : List (Form FRaw)) (trees : List (Form FTree)) → AreForms run trees → is_empty trees ≡ false →
      IsTyped schema (run_form raw_connectives joiner run) (run_form tree_connectives joiner trees)
  run_typed joiner run trees are some =
      let test : Sign → Role → Bool = λ sign role. gathers joiner role in
      gathered_typed (gathered raw_connectives joiner run) (gathered tree_connectives joiner trees)
      (placed_forms test (alone_or raw_connectives.any (forms_of (is_gathered joiner) run)) (alone_or tree_connectives.any (forms_of (is_gathered joiner) trees)) run trees
      (λ found. alone_typed schema raw_connectives.any tree_connectives.any (or_typed schema) _ _ (forms_typed test run trees are) (some_of_any (is_gathered joiner) trees found)) are)
      (some_placed test (alone_or tree_connectives.any (forms_of (is_gathered joiner) trees)) trees some)
