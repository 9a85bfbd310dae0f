-- In the form of a run each operand's form stands once.
use Rattle.std.proofs.Common.{◌≡◌, ℕ, ◌+◌, ◌≤◌, Bool, true, false, not, ◌&&◌, List, [], ◌∷◌, map, filter, Option, Some, None, refl, sym, subst, ap₂, arith}
use Rattle.std.specs.Prelude.{if◌then◌else◌, nat_eq, is_none}
use Rattle.std.specs.List.{AllByRecursion, cons_option}
use Rattle.std.specs.Option.{option_eq}
use Rattle.std.proofs.lemmas.Bool.{eqb-true}
use Rattle.sq_model.specs.Kql.{restricted}
use Rattle.sq_model.specs.declared.kql.Joiner.{Joiner}
use Rattle.sq_model.specs.declared.kql.Sign.{Sign}
use Rattle.sq_model.specs.declared.kql.Sign.TheVariants.{Plain, Plus, Minus}
use Rattle.sq_fql.specs.declared.raw.FRaw.{FRaw}
use Rattle.sq_fql.specs.declared.raw.Op.{Op}
use Rattle.sq_fql.specs.declared.raw.Op.TheVariants as op
use Rattle.sq_fql.specs.WellFormed.{is_xrank}
use Rattle.sq_lower.specs.Runs.{Form, is_minus, is_subtracted, is_required, restricts, forms_of, properties, alone_or, members, less, is_gathered, in_one_place, gathered, gathered_form, run_form}
use Rattle.sq_lower.specs.Lowered.{apply, raw_connectives}
use Rattle.sq_lower.proofs.RawForms.{total, total-append}
use Rattle.sq_lower.proofs.RunForms.{all_filtered}

-- A minus operand restricts no property.
abbrev pub IsUngrouped : Form FRaw → Type 0
IsUngrouped o = is_minus o.sign ≡ true → (restricted o.role) ≡ None

-- ---- how often a property is restricted

-- what an operand that restricts this property adds to the groups of the properties
abbrev shares : Option ℕ → ℕ → List ℕ → ℕ
shares property n [] = 0
shares property n (p ∷ ps) = (if option_eq nat_eq property (Some p) then n else 0) + shares property n ps

shares_none : (n : ℕ) (ps : List ℕ) → shares None n ps ≡ 0
shares_none n [] = refl
shares_none n (p ∷ ps) = omega (arith, shares_none n ps)

kept_less : (property : Option ℕ) (n : ℕ) (b : Bool) (p : ℕ) (ps qs : List ℕ) → shares property n ps ≤ shares property n qs
    → shares property n (if b then p ∷ ps else ps) ≤ shares property n (p ∷ qs)
kept_less property n true p ps qs less = omega arith
kept_less property n false p ps qs less = omega arith

filter_less : (property : Option ℕ) (n : ℕ) (test : ℕ → Bool) (ps : List ℕ) → shares property n (filter test ps) ≤ shares property n ps
filter_less property n test [] = omega arith
filter_less property n test (p ∷ ps) = kept_less property n (test p) p (filter test ps) ps (filter_less property n test ps)

kept_none : (property : Option ℕ) (n : ℕ) (b : Bool) (p : ℕ) (ps : List ℕ) → option_eq nat_eq property (Some p) ≡ b → shares property n ps ≡ 0
    → shares property n (if not b then p ∷ ps else ps) ≡ 0
kept_none property n true p ps is none = none
kept_none property n false p ps is none = rw is (omega (arith, none))

-- without the property nothing is added
filter_none : (property : Option ℕ) (n : ℕ) (ps : List ℕ) → shares property n (filter (λ p. not (option_eq nat_eq property (Some p))) ps) ≡ 0
filter_none property n [] = refl
filter_none property n (p ∷ ps) = kept_none property n (option_eq nat_eq property (Some p)) p _ refl (filter_none property n ps)

first_share : (b : Bool) (n rest : ℕ) → (b ≡ true → rest ≡ 0) → rest ≤ n → (if b then n else 0) + rest ≤ n
first_share true n rest none few = omega (arith, none refl)
first_share false n rest none few = omega arith

joined_share : (property : Option ℕ) (q n : ℕ) (ps : List ℕ) → shares (Some q) n ps ≤ n
    → shares (Some q) n (cons_option property (filter (λ p. not (option_eq nat_eq property (Some p))) ps)) ≤ n
joined_share None q n ps few = omega (arith, filter_less (Some q) n (λ p. true) ps)
joined_share (Some x) q n ps few =
    let others = filter (λ p. not (nat_eq x p)) ps in
    first_share (nat_eq q x) n (shares (Some q) n others)
    (λ same. subst (λ y. shares (Some y) n others ≡ 0) (sym (eqb-true q x same)) (filter_none (Some x) n ps))
    (omega (arith, filter_less (Some q) n (λ p. not (nat_eq x p)) ps))

-- each property stands once
once : (run : List (Form FRaw)) (q n : ℕ) → shares (Some q) n (properties run) ≤ n
once [] q n = omega arith
once (o ∷ run) q n = joined_share (restricted o.role) q n (properties run) (once run q n)

-- ---- sums over a run

-- A sum over the literals or the operators of a tree, in which no operator counts but xrank.
pub record IsSum (weight : FRaw → ℕ) : Type 0 where
  pub flat : (o : Op) (ts : List FRaw) → is_xrank o ≡ 0 → weight (apply o ts) ≡ total weight ts

module _ (weight : FRaw → ℕ) (sum : IsSum weight) where
  alone_total : (o : Op) (ts : List FRaw) → is_xrank o ≡ 0 → weight (alone_or (apply o) ts) ≡ total weight ts
  alone_total o [] none = sum.flat o [] none
  alone_total o (t ∷ []) none = omega arith
  alone_total o (t ∷ (u ∷ us)) none = sum.flat o (t ∷ (u ∷ us)) none

  less_total : (wanted minus : List FRaw) → weight (less raw_connectives wanted minus) ≡ total weight wanted + total weight minus
  less_total [] minus = omega (arith, sum.flat op.Not (alone_or (apply op.Or) minus ∷ []) refl, alone_total op.Or minus refl)
  less_total (t ∷ ts) [] = omega (arith, alone_total op.And (t ∷ ts) refl)
  less_total (t ∷ ts) (u ∷ us) = omega (arith, sum.flat op.AndNot (alone_or (apply op.And) (t ∷ ts) ∷ (u ∷ us)) refl, alone_total op.And (t ∷ ts) refl)

  -- the restrictions of the properties
  abbrev groups : List (Form FRaw) → List ℕ → ℕ
  groups run [] = 0
  groups run (p ∷ ps) = total weight (forms_of (restricts p) run) + groups run ps

  kept_total : (b : Bool) (o : Form FRaw) (rest : List (Form FRaw)) →
      total weight (map (λ p. p.form) (if b then o ∷ rest else rest)) ≡ (if b then weight o.form else 0) + total weight (map (λ p. p.form) rest)
  kept_total true o rest = refl
  kept_total false o rest = omega arith

  one_more : (o : Form FRaw) (run : List (Form FRaw)) (ps : List ℕ) → groups (o ∷ run) ps ≡ shares (restricted o.role) (weight o.form) ps + groups run ps
  one_more o run [] = omega arith
  one_more o run (p ∷ ps) = omega (arith, kept_total (restricts p o) o (filter (restricts p) run), one_more o run ps)

  groups_of_none : (ps : List ℕ) → groups [] ps ≡ 0
  groups_of_none [] = refl
  groups_of_none (p ∷ ps) = omega (arith, groups_of_none ps)

  -- an operand is required, subtracted or a restriction
  one_part : (sign : Sign) (property : Option ℕ) (n : ℕ) (ps : List ℕ) → (is_minus sign ≡ true → property ≡ None) → ((q : ℕ) → shares (Some q) n ps ≤ n) →
      shares property n ps + ((if not (is_minus sign) && is_none property then n else 0) + (if is_minus sign then n else 0)) ≤ n
  one_part Minus None n ps alone few = omega (arith, shares_none n ps)
  one_part Plain None n ps alone few = omega (arith, shares_none n ps)
  one_part Plus None n ps alone few = omega (arith, shares_none n ps)
  one_part Plain (Some q) n ps alone few = omega (arith, few q)
  one_part Plus (Some q) n ps alone few = omega (arith, few q)
  one_part Minus (Some q) n ps alone few = let none = alone refl in absurd cc

  parts_total : (run : List (Form FRaw)) (ps : List ℕ) → ((q n : ℕ) → shares (Some q) n ps ≤ n) → AllByRecursion IsUngrouped run →
      groups run ps + (total weight (forms_of is_required run) + total weight (forms_of is_subtracted run)) ≤ total weight (map (λ o. o.form) run)
  parts_total [] ps few alone = omega (arith, groups_of_none ps)
  parts_total (o ∷ run) ps few alone =
      let first = one_part o.sign (restricted o.role) (weight o.form) ps alone.0 (λ q. few q (weight o.form)) in
      let rest = parts_total run ps few alone.1 in
      omega (arith, first, rest, one_more o run ps, kept_total (is_required o) o (filter is_required run), kept_total (is_subtracted o) o (filter is_subtracted run))

  any_total : (run : List (Form FRaw)) (ps : List ℕ) → total weight (map (λ p. alone_or (apply op.Or) (forms_of (restricts p) run)) ps) ≡ groups run ps
  any_total run [] = refl
  any_total run (p ∷ ps) = ap₂ (λ m n. m + n) (alone_total op.Or (forms_of (restricts p) run) refl) (any_total run ps)

  gathered_total : (run : List (Form FRaw)) → AllByRecursion IsUngrouped run → weight (gathered_form raw_connectives run) ≤ total weight (map (λ o. o.form) run)
  gathered_total run alone =
      let parts = parts_total run (properties run) (once run) alone in
      omega (
        arith,
        parts,
        less_total (members raw_connectives run) (forms_of is_subtracted run),
        total-append weight (forms_of is_required run) (map (λ p. alone_or (apply op.Or) (forms_of (restricts p) run)) (properties run)),
        any_total run (properties run),
      )

  -- operands that pass a test and the others
  parted : (b : Bool) (n : ℕ) → (if b then n else 0) + (if not b then n else 0) ≡ n
  parted true n = omega arith
  parted false n = omega arith

  parted_total : (test : Form FRaw → Bool) (run : List (Form FRaw)) →
      total weight (forms_of test run) + total weight (forms_of (λ o. not (test o)) run) ≡ total weight (map (λ o. o.form) run)
  parted_total test [] = refl
  parted_total test (o ∷ run) = omega (
    arith,
    parted_total test run,
    parted (test o) (weight o.form),
    kept_total (test o) o (filter test run),
    kept_total (not (test o)) o (filter (λ p. not (test p)) run),
  )

  placed_total : (test : Form FRaw → Bool) (form : FRaw) (run : List (Form FRaw)) →
      total weight (map (λ o. o.form) (in_one_place test form run)) ≤ weight form + total weight (forms_of (λ o. not (test o)) run)
  placed_total test form [] = omega arith
  placed_total test form (o ∷ run) = by (placed_total test form run) (test o)
    where
      by : total weight (map (λ o. o.form) (in_one_place test form run)) ≤ weight form + total weight (forms_of (λ o. not (test o)) run) → (b : Bool) →
          total weight (map (λ o. o.form) (if b then record o { form = form } ∷ filter (λ p. not (test p)) run else o ∷ in_one_place test form run))
          ≤ weight form + total weight (map (λ o. o.form) (if not b then o ∷ filter (λ p. not (test p)) run else filter (λ p. not (test p)) run))
      by rest true = omega arith
      by rest false = omega (arith, rest)

  placed_alone : (test : Form FRaw → Bool) (form : FRaw) (run : List (Form FRaw)) → AllByRecursion IsUngrouped run → AllByRecursion IsUngrouped (in_one_place test form run)
  placed_alone test form [] alone = tt
  placed_alone test form (o ∷ run) alone = by (placed_alone test form run alone.1) (test o)
    where
      by : AllByRecursion IsUngrouped (in_one_place test form run) → (b : Bool) →
          AllByRecursion IsUngrouped (if b then record o { form = form } ∷ filter (λ p. not (test p)) run else o ∷ in_one_place test form run)
      by rest true = (alone.0, all_filtered IsUngrouped (λ p. not (test p)) run alone.1)
      by rest false = (alone.0, rest)

  pub run_total : (joiner : Joiner) (run : List (Form FRaw)) → AllByRecursion IsUngrouped run → weight (run_form raw_connectives joiner run) ≤ total weight (map (λ o. o.form) run)
  run_total joiner run alone =
      let test = λ (o : Form FRaw). is_gathered joiner o in
      let form = alone_or (apply op.Or) (forms_of test run) in
      omega (
        arith,
        gathered_total (gathered raw_connectives joiner run) (placed_alone test form run alone),
        placed_total test form run,
        alone_total op.Or (forms_of test run) refl,
        parted_total test run,
      )
