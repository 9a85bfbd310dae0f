-- The form of a run is well formed, and each operand's form stands in it at most once.
use Rattle.std.proofs.Common.{◌≡◌, ℕ, ◌+◌, ◌<◌, Bool, true, false, not, ◌||◌, List, [], ◌∷◌, map, filter, length, Option, Some, None, refl, sym, ap, ◌∙◌, arith, inl, inr, length-append}
use Rattle.std.specs.Prelude.{if◌then◌else◌, nat_eq, is_none}
use Rattle.std.specs.List.{AllByRecursion, cons_option, list_any}
use Rattle.std.specs.Option.{option_eq}
use Rattle.std.proofs.lemmas.Bool.{cases_Bool, eq-eqb, false≢true}
use Rattle.sq_model.specs.Kql.{restricted}
use Rattle.sq_model.specs.declared.kql.Joiner.{Joiner}
use Rattle.sq_fql.specs.declared.raw.FRaw.{FRaw}
use Rattle.sq_fql.specs.declared.raw.Op.TheVariants as op
use Rattle.sq_fql.specs.WellFormed.{HasForm}
use Rattle.sq_lower.specs.Runs.{Form, is_minus, is_subtracted, is_required, restricts, forms_of, properties, alone_or, members, less, is_gathered, in_one_place, gathered, gathered_form, run_form}
use Rattle.sq_lower.specs.Lowered.{apply, negated, raw_connectives}
use Rattle.sq_lower.proofs.RawForms.{all-append, SomeOf, form_apply}

abbrev pub Formed : Form FRaw → Type 0
Formed o = HasForm o.form

-- what `AND`, `OR`, `NOT` and `ANDNOT` make of well-formed operands
and_formed : (t : FRaw) (ts : List FRaw) → HasForm t → AllByRecursion HasForm ts → HasForm (apply op.And (t ∷ ts))
and_formed t ts one all = form_apply 0 op.And (t ∷ ts) (omega arith) tt (λ are. absurd (false≢true are)) tt (one, all)

or_formed : (t : FRaw) (ts : List FRaw) → HasForm t → AllByRecursion HasForm ts → HasForm (apply op.Or (t ∷ ts))
or_formed t ts one all = form_apply 0 op.Or (t ∷ ts) (omega arith) tt (λ are. absurd (false≢true are)) tt (one, all)

pub negated_formed : (t : FRaw) → HasForm t → HasForm (negated t)
negated_formed t one = form_apply 0 op.Not (t ∷ []) (omega arith) (omega arith) (λ are. absurd (false≢true are)) tt (one, tt)

without_formed : (t u : FRaw) (us : List FRaw) → HasForm t → HasForm u → AllByRecursion HasForm us → HasForm (apply op.AndNot (t ∷ (u ∷ us)))
without_formed t u us one other all = form_apply 0 op.AndNot (t ∷ (u ∷ us)) (omega arith) tt (λ are. absurd (false≢true are)) tt (one, (other, all))

alone_or_all : (ts : List FRaw) → SomeOf HasForm ts → HasForm (alone_or (apply op.And) ts)
alone_or_all [] some = absurd some
alone_or_all (t ∷ []) some = some.0
alone_or_all (t ∷ (u ∷ us)) some = and_formed t (u ∷ us) some.0 some.1

alone_or_any : (ts : List FRaw) → SomeOf HasForm ts → HasForm (alone_or (apply op.Or) ts)
alone_or_any [] some = absurd some
alone_or_any (t ∷ []) some = some.0
alone_or_any (t ∷ (u ∷ us)) some = or_formed t (u ∷ us) some.0 some.1

less_formed : (wanted minus : List FRaw) → AllByRecursion HasForm wanted → AllByRecursion HasForm minus → 0 < length wanted + length minus → HasForm (less raw_connectives wanted minus)
less_formed [] [] all others some = absurd (omega (arith, some))
less_formed [] (u ∷ us) all others some = negated_formed _ (alone_or_any (u ∷ us) others)
less_formed (t ∷ ts) [] all others some = alone_or_all (t ∷ ts) all
less_formed (t ∷ ts) (u ∷ us) all others some = without_formed _ u us (alone_or_all (t ∷ ts) all) others.0 others.1

-- ---- operands that pass a test

kept_formed : (b : Bool) (o : Form FRaw) (rest : List (Form FRaw)) → Formed o → AllByRecursion HasForm (map (λ p. p.form) rest)
    → AllByRecursion HasForm (map (λ p. p.form) (if b then o ∷ rest else rest))
kept_formed true o rest one all = (one, all)
kept_formed false o rest one all = all

forms_formed : (test : Form FRaw → Bool) (run : List (Form FRaw)) → AllByRecursion Formed run → AllByRecursion HasForm (forms_of test run)
forms_formed test [] all = tt
forms_formed test (o ∷ run) all = kept_formed (test o) o (filter test run) all.0 (forms_formed test run all.1)

kept_some : (b : Bool) (o : Form FRaw) (rest : List (Form FRaw)) → Formed o → AllByRecursion HasForm (map (λ p. p.form) rest) → b ≡ true
    → SomeOf HasForm (map (λ p. p.form) (if b then o ∷ rest else rest))
kept_some true o rest one all is = (one, all)
kept_some false o rest one all is = absurd (false≢true is)

still_some : (b : Bool) (o : Form FRaw) (rest : List (Form FRaw)) → Formed o → SomeOf HasForm (map (λ p. p.form) rest)
    → SomeOf HasForm (map (λ p. p.form) (if b then o ∷ rest else rest))
still_some true o [] one some = absurd some
still_some true o (p ∷ rest) one some = (one, some)
still_some false o rest one some = some

-- ---- groups of restrictions

-- some operand restricts the property
abbrev HasGroup : List (Form FRaw) → ℕ → Type 0
HasGroup run p = SomeOf HasForm (forms_of (restricts p) run)

all_kept : {X : Type 0} (P : X → Type 0) (b : Bool) (x : X) (xs : List X) → P x → AllByRecursion P xs → AllByRecursion P (if b then x ∷ xs else xs)
all_kept P true x xs one all = (one, all)
all_kept P false x xs one all = all

pub all_filtered : {X : Type 0} (P : X → Type 0) (test : X → Bool) (xs : List X) → AllByRecursion P xs → AllByRecursion P (filter test xs)
all_filtered P test [] all = tt
all_filtered P test (x ∷ xs) all = all_kept P (test x) x (filter test xs) all.0 (all_filtered P test xs all.1)

all_weaker : {X : Type 0} (P Q : X → Type 0) (xs : List X) → ((x : X) → P x → Q x) → AllByRecursion P xs → AllByRecursion Q xs
all_weaker P Q [] weaker all = tt
all_weaker P Q (x ∷ xs) weaker all = (weaker x all.0, all_weaker P Q xs weaker all.1)

all_with : {X : Type 0} (P : X → Type 0) (property : Option X) (xs : List X) → ((x : X) → property ≡ Some x → P x) → AllByRecursion P xs → AllByRecursion P (cons_option property xs)
all_with P None xs one all = all
all_with P (Some x) xs one all = (one x refl, all)

same_property : (property : Option ℕ) (p : ℕ) → property ≡ Some p → option_eq nat_eq property (Some p) ≡ true
same_property property p is = ap (λ o. option_eq nat_eq o (Some p)) is ∙ eq-eqb p p refl

groups_formed : (run : List (Form FRaw)) → AllByRecursion Formed run → AllByRecursion (HasGroup run) (properties run)
groups_formed [] all = tt
groups_formed (o ∷ run) all =
    let rest : AllByRecursion (HasGroup (o ∷ run)) (properties run) =
    all_weaker (HasGroup run) (HasGroup (o ∷ run)) (properties run) (λ p some. still_some (restricts p o) o (filter (restricts p) run) all.0 some) (groups_formed run all.1) in
    all_with (HasGroup (o ∷ run)) (restricted o.role) _
    (λ p is. kept_some (restricts p o) o (filter (restricts p) run) all.0 (forms_formed (restricts p) run all.1) (same_property (restricted o.role) p is))
    (all_filtered (HasGroup (o ∷ run)) (λ p. not (option_eq nat_eq (restricted o.role) (Some p))) (properties run) rest)

any_formed : (run : List (Form FRaw)) (ps : List ℕ) → AllByRecursion (HasGroup run) ps → AllByRecursion HasForm (map (λ p. alone_or (apply op.Or) (forms_of (restricts p) run)) ps)
any_formed run [] all = tt
any_formed run (p ∷ ps) all = (alone_or_any (forms_of (restricts p) run) all.0, any_formed run ps all.1)

members_formed : (run : List (Form FRaw)) → AllByRecursion Formed run → AllByRecursion HasForm (members raw_connectives run)
members_formed run all =
    all-append HasForm (forms_of is_required run) _ (forms_formed is_required run all) (any_formed run (properties run) (groups_formed run all))

-- ---- some operand is a part of the form

kept_length : (b : Bool) (o : Form FRaw) (rest : List (Form FRaw)) → b ≡ true → 0 < length (map (λ p. p.form) (if b then o ∷ rest else rest))
kept_length true o rest is = omega arith
kept_length false o rest is = absurd (false≢true is)

with_length : (property : Option ℕ) (ps : List ℕ) (f : ℕ → FRaw) → is_none property ≡ false → 0 < length (map f (cons_option property ps))
with_length None ps f is = absurd (false≢true (sym is))
with_length (Some p) ps f is = omega arith

module _ (o : Form FRaw) (run : List (Form FRaw)) where
  some_part : 0 < length (members raw_connectives (o ∷ run)) + length (forms_of is_subtracted (o ∷ run))
  some_part =
      let groups = map (λ p. alone_or (apply op.Or) (forms_of (restricts p) (o ∷ run))) (properties (o ∷ run)) in
      let joined = length-append (forms_of is_required (o ∷ run)) groups in
      elim (cases_Bool (is_minus o.sign)) [
        | inl minus ↦ omega (arith, kept_length (is_subtracted o) o (filter is_subtracted run) minus)
        | inr plain ↦ elim (cases_Bool (is_none (restricted o.role))) [
          | inl none ↦ omega (arith, joined, kept_length (is_required o) o (filter is_required run) (rw (plain, none) refl))
          | inr some ↦ omega (arith, joined, with_length (restricted o.role) (filter (λ p. not (option_eq nat_eq (restricted o.role) (Some p))) (properties run)) (λ p. alone_or (apply op.Or) (forms_of (restricts p) (o ∷ run))) some)
        ]
      ]

gathered_formed : (run : List (Form FRaw)) → SomeOf Formed run → HasForm (gathered_form raw_connectives run)
gathered_formed [] some = absurd some
gathered_formed (o ∷ run) some =
    less_formed (members raw_connectives (o ∷ run)) (forms_of is_subtracted (o ∷ run)) (members_formed (o ∷ run) some) (forms_formed is_subtracted (o ∷ run) some) (some_part o run)

-- ---- one operand in the place of those that pass a test

first_some : (b more : Bool) (o : Form FRaw) (rest : List (Form FRaw)) → Formed o → AllByRecursion HasForm (map (λ p. p.form) rest) → (more ≡ true → SomeOf HasForm (map (λ p. p.form) rest))
    → (b || more) ≡ true → SomeOf HasForm (map (λ p. p.form) (if b then o ∷ rest else rest))
first_some true more o rest one all later found = (one, all)
first_some false more o rest one all later found = later found

some_formed : (test : Form FRaw → Bool) (run : List (Form FRaw)) → AllByRecursion Formed run → list_any test run ≡ true → SomeOf HasForm (forms_of test run)
some_formed test [] all found = absurd (false≢true found)
some_formed test (o ∷ run) all found =
    first_some (test o) (list_any test run) o (filter test run) all.0 (forms_formed test run all.1) (λ more. some_formed test run all.1 more) found

module _ (test : Form FRaw → Bool) (form : FRaw) where
  placed_formed : (run : List (Form FRaw)) → (list_any test run ≡ true → HasForm form) → AllByRecursion Formed run → AllByRecursion Formed (in_one_place test form run)
  placed_formed [] made all = tt
  placed_formed (o ∷ run) made all = by (λ more. placed_formed run more all.1) (test o) refl
    where
      by : ((list_any test run ≡ true → HasForm form) → AllByRecursion Formed (in_one_place test form run)) → (b : Bool) → test o ≡ b →
          AllByRecursion Formed (if b then record o { form = form } ∷ filter (λ p. not (test p)) run else o ∷ in_one_place test form run)
      by rest true is = (made (ap (λ b. b || list_any test run) is), all_filtered Formed (λ p. not (test p)) run all.1)
      by rest false is = (all.0, rest (λ more. made (ap (λ b. b || list_any test run) is ∙ more)))

  still_one : (b : Bool) (o p : Form FRaw) (os ps : List (Form FRaw)) → AllByRecursion Formed (if b then o ∷ os else p ∷ ps) → SomeOf Formed (if b then o ∷ os else p ∷ ps)
  still_one true o p os ps all = all
  still_one false o p os ps all = all

  some_placed : (run : List (Form FRaw)) → (list_any test run ≡ true → HasForm form) → SomeOf Formed run → SomeOf Formed (in_one_place test form run)
  some_placed [] made some = absurd some
  some_placed (o ∷ run) made some = still_one (test o) (record o { form = form }) o _ _ (placed_formed (o ∷ run) made some)

all_of_some : (run : List (Form FRaw)) → SomeOf Formed run → AllByRecursion Formed run
all_of_some [] some = absurd some
all_of_some (o ∷ run) some = some

pub run_formed : (joiner : Joiner) (run : List (Form FRaw)) → SomeOf Formed run → HasForm (run_form raw_connectives joiner run)
run_formed joiner run some =
    gathered_formed (gathered raw_connectives joiner run)
    (some_placed (is_gathered joiner) _ run (λ found. alone_or_any (forms_of (is_gathered joiner) run) (some_formed (is_gathered joiner) run (all_of_some run some) found)) some)
