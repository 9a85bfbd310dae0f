-- The restrictions of a run by their properties, one operand after another.
use Rattle.std.proofs.Common.{◌≡◌, ℕ, Bool, true, false, cond, not, ◌||◌, List, [], ◌∷◌, ◌++◌, map, filter, Option, Some, None, refl, ap, sym, subst, ◌∙◌}
use Rattle.std.specs.Prelude.{nat_eq, is_some}
use Rattle.std.specs.List.{list_any, cons_option}
use Rattle.std.specs.Map.{lookup, set_value}
use Rattle.std.specs.Option.{option_eq, unwrap_or}
use Rattle.std.proofs.lemmas.Bool.{eqb-true, eq-eqb, false≢true, true≢false}
use Rattle.std.proofs.lemmas.List.{append-nil, map-append}
use Rattle.std.proofs.lemmas.List.Elements.{filter-append}
use Rattle.indexmap.specs.IndexMap.{insert_entry}
use Rattle.sq_model.specs.Kql.{restricted}
use Rattle.sq_lower.specs.Runs.{Form, restricts, forms_of, properties}

-- ---- lists of numbers

-- whether the number is there
abbrev has : ℕ → List ℕ → Bool
has p ks = list_any (nat_eq p) ks

-- the number last, where it isn't there
abbrev put : List ℕ → ℕ → List ℕ
put ks p = cond (has p ks) ks (ks ++ p ∷ [])

abbrev differs : Option ℕ → ℕ → Bool
differs x p = not (option_eq nat_eq x (Some p))

same : (p : ℕ) → nat_eq p p ≡ true
same p = eq-eqb p p refl

-- a number is another from either side
turned : (p q : ℕ) (b : Bool) → nat_eq p q ≡ b → nat_eq q p ≡ b
turned p q true e = eq-eqb q p (sym (eqb-true p q e))
turned p q false e = by (nat_eq q p) refl
  where
    by : (b : Bool) → nat_eq q p ≡ b → nat_eq q p ≡ false
    by true k = absurd (true≢false (sym (eq-eqb p q (sym (eqb-true q p k))) ∙ e))
    by false k = k

all_kept : (ks : List ℕ) → filter (λ k. true) ks ≡ ks
all_kept [] = refl
all_kept (k ∷ ks) = ap (λ l. k ∷ l) (all_kept ks)

-- a number that differs stays
has_filter : (p q : ℕ) (ks : List ℕ) → nat_eq q p ≡ false → has p (filter (λ k. not (nat_eq q k)) ks) ≡ has p ks
has_filter p q [] e = refl
has_filter p q (k ∷ ks) e = by (has_filter p q ks e) (nat_eq q k) refl
  where
    by : has p (filter (λ k. not (nat_eq q k)) ks) ≡ has p ks → (b : Bool) → nat_eq q k ≡ b → has p (filter (λ k. not (nat_eq q k)) (k ∷ ks)) ≡ has p (k ∷ ks)
    by rest true f =
        let other : nat_eq p k ≡ false = ap (nat_eq p) (sym (eqb-true q k f)) ∙ turned q p false e in
        rw (f, other) rest
    by rest false f = rw f (ap (λ b. nat_eq p k || b) rest)

-- the numbers that differ from q
abbrev others : ℕ → List ℕ → List ℕ
others q ks = filter (λ k. not (nat_eq q k)) ks

filter_same : (p q : ℕ) (ks : List ℕ) → nat_eq q p ≡ true → others q (put ks p) ≡ others q ks
filter_same p q ks e = by (has p ks)
  where
    by : (b : Bool) → others q (cond b ks (ks ++ p ∷ [])) ≡ others q ks
    by true = refl
    by false = filter-append (λ k. not (nat_eq q k)) ks (p ∷ []) ∙ (ap (λ b. others q ks ++ cond (not b) (p ∷ []) []) e ∙ append-nil (others q ks))

filter_other : (p q : ℕ) (ks : List ℕ) → nat_eq q p ≡ false → others q (put ks p) ≡ put (others q ks) p
filter_other p q ks e = by (has p ks) ∙ ap (λ b. cond b (others q ks) (others q ks ++ p ∷ [])) (sym (has_filter p q ks e))
  where
    by : (b : Bool) → others q (cond b ks (ks ++ p ∷ [])) ≡ cond b (others q ks) (others q ks ++ p ∷ [])
    by true = refl
    by false = filter-append (λ k. not (nat_eq q k)) ks (p ∷ []) ∙ ap (λ b. others q ks ++ cond (not b) (p ∷ []) []) e

-- ---- the properties of a run with one operand more

onto : (q p : ℕ) (rest : List ℕ) (b : Bool) → (q ∷ cond b rest (rest ++ p ∷ [])) ≡ cond b (q ∷ rest) (q ∷ (rest ++ p ∷ []))
onto q p rest true = refl
onto q p rest false = refl

cons_put : (x : Option ℕ) (ks : List ℕ) (p : ℕ) → cons_option x (filter (differs x) (put ks p)) ≡ put (cons_option x (filter (differs x) ks)) p
cons_put None ks p = all_kept (put ks p) ∙ ap (λ l. put l p) (sym (all_kept ks))
cons_put (Some q) ks p = by (nat_eq q p) refl
  where
    by : (b : Bool) → nat_eq q p ≡ b → (q ∷ others q (put ks p)) ≡ put (q ∷ others q ks) p
    by true e =
        ap (λ l. q ∷ l) (filter_same p q ks e)
        ∙ ap (λ b. cond (b || has p (others q ks)) (q ∷ others q ks) (q ∷ (others q ks ++ p ∷ []))) (sym (turned q p true e))
    by false e =
        ap (λ l. q ∷ l) (filter_other p q ks e) ∙ (onto q p (others q ks) (has p (others q ks))
        ∙ ap (λ b. cond (b || has p (others q ks)) (q ∷ others q ks) (q ∷ (others q ks ++ p ∷ []))) (sym (turned q p false e)))

module _ {A : Type 0} where
  pub properties_more : (run : List (Form A)) (o : Form A) (p : ℕ) → (restricted o.role) ≡ Some p → properties (run ++ o ∷ []) ≡ put (properties run) p
  properties_more [] o p is = ap (λ x. cons_option x []) is
  properties_more (r ∷ run) o p is =
      ap (λ ks. cons_option (restricted r.role) (filter (differs (restricted r.role)) ks)) (properties_more run o p is) ∙ cons_put (restricted r.role) (properties run) p

  pub properties_same : (run : List (Form A)) (o : Form A) → (restricted o.role) ≡ None → properties (run ++ o ∷ []) ≡ properties run
  properties_same [] o is = ap (λ x. cons_option x []) is
  properties_same (r ∷ run) o is = ap (λ ks. cons_option (restricted r.role) (filter (differs (restricted r.role)) ks)) (properties_same run o is)

  pub forms_of_more : (test : Form A → Bool) (run : List (Form A)) (o : Form A) → forms_of test (run ++ o ∷ []) ≡ forms_of test run ++ forms_of test (o ∷ [])
  forms_of_more test run o = ap (map (λ o. o.form)) (filter-append test run (o ∷ [])) ∙ map-append (λ o. o.form) (filter test run) (filter test (o ∷ []))

  passing : (test : Form A → Bool) (o : Form A) (b : Bool) → test o ≡ b → forms_of test (o ∷ []) ≡ map (λ o. o.form) (cond b (o ∷ []) [])
  passing test o b is = ap (λ b. map (λ o. o.form) (cond b (o ∷ []) [])) is

  pub with_passed : (test : Form A → Bool) (run : List (Form A)) (o : Form A) → test o ≡ true → forms_of test (run ++ o ∷ []) ≡ forms_of test run ++ o.form ∷ []
  with_passed test run o is = forms_of_more test run o ∙ ap (λ l. forms_of test run ++ l) (passing test o true is)

  pub with_barred : (test : Form A → Bool) (run : List (Form A)) (o : Form A) → test o ≡ false → forms_of test (run ++ o ∷ []) ≡ forms_of test run
  with_barred test run o is = forms_of_more test run o ∙ (ap (λ l. forms_of test run ++ l) (passing test o false is) ∙ append-nil (forms_of test run))

-- ---- the properties of a run are distinct

abbrev Distinct : List ℕ → Type 0
Distinct [] = Unit {0}
Distinct (k ∷ ks) = (has k ks ≡ false) × Distinct ks

or_left : (a b : Bool) → (a || b) ≡ false → a ≡ false
or_left true b h = h
or_left false b h = refl

or_right : (a b : Bool) → (a || b) ≡ false → b ≡ false
or_right true b h = absurd (true≢false h)
or_right false b h = h

neither : (a b : Bool) → a ≡ false → b ≡ false → (a || b) ≡ false
neither a b h k = ap (λ a. a || b) h ∙ k

has_less : (test : ℕ → Bool) (p : ℕ) (ks : List ℕ) → has p ks ≡ false → has p (filter test ks) ≡ false
has_less test p [] h = refl
has_less test p (k ∷ ks) h = by (has_less test p ks (or_right (nat_eq p k) (has p ks) h)) (test k)
  where
    by : has p (filter test ks) ≡ false → (b : Bool) → has p (cond b (k ∷ filter test ks) (filter test ks)) ≡ false
    by rest true = neither (nat_eq p k) (has p (filter test ks)) (or_left (nat_eq p k) (has p ks) h) rest
    by rest false = rest

distinct_filter : (test : ℕ → Bool) (ks : List ℕ) → Distinct ks → Distinct (filter test ks)
distinct_filter test [] d = tt
distinct_filter test (k ∷ ks) d = by (distinct_filter test ks d.1) (test k)
  where
    by : Distinct (filter test ks) → (b : Bool) → Distinct (cond b (k ∷ filter test ks) (filter test ks))
    by rest true = (has_less test k ks d.0, rest)
    by rest false = rest

has_gone : (q : ℕ) (ks : List ℕ) → has q (others q ks) ≡ false
has_gone q [] = refl
has_gone q (k ∷ ks) = by (has_gone q ks) (nat_eq q k) refl
  where
    by : has q (others q ks) ≡ false → (b : Bool) → nat_eq q k ≡ b → has q (cond (not (nat_eq q k)) (k ∷ others q ks) (others q ks)) ≡ false
    by rest true e = ap (λ b. has q (cond (not b) (k ∷ others q ks) (others q ks))) e ∙ rest
    by rest false e = ap (λ b. has q (cond (not b) (k ∷ others q ks) (others q ks))) e ∙ neither (nat_eq q k) (has q (others q ks)) e rest

distinct_cons : (x : Option ℕ) (ks : List ℕ) → Distinct ks → Distinct (cons_option x (filter (differs x) ks))
distinct_cons None ks d = distinct_filter (λ k. true) ks d
distinct_cons (Some q) ks d = (has_gone q ks, distinct_filter (λ k. not (nat_eq q k)) ks d)

distinct_properties : {A : Type 0} (run : List (Form A)) → Distinct (properties run)
distinct_properties [] = tt
distinct_properties (r ∷ run) = distinct_cons (restricted r.role) (properties run) (distinct_properties run)

-- a property that isn't seen has no forms
not_seen_first : (x : Option ℕ) (p : ℕ) (ks : List ℕ) → has p (cons_option x (filter (differs x) ks)) ≡ false → (option_eq nat_eq x (Some p) ≡ false) × (has p ks ≡ false)
not_seen_first None p ks h = (refl, sym (ap (has p) (all_kept ks)) ∙ h)
not_seen_first (Some q) p ks h =
    let e = turned p q false (or_left (nat_eq p q) (has p (others q ks)) h) in
    (e, sym (has_filter p q ks e) ∙ or_right (nat_eq p q) (has p (others q ks)) h)

not_seen : {A : Type 0} (run : List (Form A)) (p : ℕ) → has p (properties run) ≡ false → forms_of (restricts p) run ≡ []
not_seen [] p h = refl
not_seen (r ∷ run) p h =
    let first = not_seen_first (restricted r.role) p (properties run) h in
    ap (λ b. map (λ o. o.form) (cond b (r ∷ filter (restricts p) run) (filter (restricts p) run))) first.0 ∙ not_seen run p first.1

-- ---- the groups of a run with one operand more

module _ {A : Type 0} where
  -- a form behind those of its key
  abbrev pub grouped : List (ℕ × List A) → ℕ → A → List (ℕ × List A)
  grouped entries p form = insert_entry nat_eq entries p (unwrap_or (lookup (nat_eq p) entries) [] ++ form ∷ [])

  abbrev each : (ℕ → List A) → List ℕ → List (ℕ × List A)
  each f ks = map (λ k. (k, f k)) ks

  module _ (f g : ℕ → List A) (p : ℕ) (form : A) (here : g p ≡ f p ++ form ∷ []) (elsewhere : (k : ℕ) → nat_eq p k ≡ false → g k ≡ f k) where
    each_elsewhere : (ks : List ℕ) → has p ks ≡ false → each g ks ≡ each f ks
    each_elsewhere [] h = refl
    each_elsewhere (k ∷ ks) h =
        let first = elsewhere k (or_left (nat_eq p k) (has p ks) h) in
        let rest = each_elsewhere ks (or_right (nat_eq p k) (has p ks) h) in
        λ i. (k, first i) ∷ rest i

    each_put : (ks : List ℕ) → Distinct ks → (has p ks ≡ false → f p ≡ []) → each g (put ks p) ≡ grouped (each f ks) p form
    each_put [] d none = ap (λ l. (p, l) ∷ []) (here ∙ ap (λ l. l ++ form ∷ []) (none refl))
    each_put (k ∷ ks) d none =
        by (λ e. each_put ks d.1 (λ h. none (neither (nat_eq p k) (has p ks) e h))) (nat_eq p k) refl
      where
        by : (nat_eq p k ≡ false → each g (put ks p) ≡ grouped (each f ks) p form) → (b : Bool) → nat_eq p k ≡ b → each g (put (k ∷ ks) p) ≡ grouped (each f (k ∷ ks)) p form
        by rest true e =
            let is : p ≡ k = eqb-true p k e in
            let first : g k ≡ f k ++ form ∷ [] = subst (λ q. g q ≡ f q ++ form ∷ []) is here in
            let others = each_elsewhere ks (ap (λ q. has q ks) is ∙ d.0) in
            rw e (λ i. (k, first i) ∷ others i)
        by rest false e =
            rw e (sym (ap (each g) (onto k p ks (has p ks))) ∙ (ap (λ l. (k, l) ∷ each g (put ks p)) (elsewhere k e) ∙ ap (λ l. (k, f k) ∷ l) (rest e)))

  -- the properties of a run, with the forms of each
  abbrev pub groups : List (Form A) → List (ℕ × List A)
  groups run = each (λ k. forms_of (restricts k) run) (properties run)

  pub groups_more : (run : List (Form A)) (o : Form A) (p : ℕ) → (restricted o.role) ≡ Some p → groups (run ++ o ∷ []) ≡ grouped (groups run) p o.form
  groups_more run o p is =
      let at : (k : ℕ) → restricts k o ≡ nat_eq p k = λ k. ap (λ x. option_eq nat_eq x (Some k)) is in
      ap (each (λ k. forms_of (restricts k) (run ++ o ∷ []))) (properties_more run o p is)
      ∙ each_put (λ k. forms_of (restricts k) run) (λ k. forms_of (restricts k) (run ++ o ∷ [])) p o.form
      (with_passed (restricts p) run o (at p ∙ same p)) (λ k e. with_barred (restricts k) run o (at k ∙ e))
      (properties run) (distinct_properties run) (not_seen run p)

  pub groups_same : (run : List (Form A)) (o : Form A) → (restricted o.role) ≡ None → groups (run ++ o ∷ []) ≡ groups run
  groups_same run o is =
      let barred = λ (k : ℕ). with_barred (restricts k) run o (ap (λ x. option_eq nat_eq x (Some k)) is) in
      ap (each (λ k. forms_of (restricts k) (run ++ o ∷ []))) (properties_same run o is) ∙ (λ i. each (λ k. barred k i) (properties run))

  -- what is made of each group
  pub map_groups : {B : Type 0} (h : List A → B) (f : ℕ → List A) (ks : List ℕ) → map (λ e. h e.1) (each f ks) ≡ map (λ k. h (f k)) ks
  map_groups h f [] = refl
  map_groups h f (k ∷ ks) = ap (λ l. h (f k) ∷ l) (map_groups h f ks)

  -- a key that is there keeps its place
  pub set_present : (es : List (ℕ × List A)) (p : ℕ) (v w : List A) → lookup (nat_eq p) es ≡ Some v → set_value (nat_eq p) es w ≡ insert_entry nat_eq es p w
  set_present [] p v w h = absurd (false≢true (ap is_some h))
  set_present (e ∷ es) p v w h = by (set_present es p v w) (nat_eq p e.0) refl
    where
      by : (lookup (nat_eq p) es ≡ Some v → set_value (nat_eq p) es w ≡ insert_entry nat_eq es p w) → (b : Bool) → nat_eq p e.0 ≡ b →
          set_value (nat_eq p) (e ∷ es) w ≡ insert_entry nat_eq (e ∷ es) p w
      by rest true k = rw k refl
      by rest false k = rw k (ap (λ l. e ∷ l) (rest (sym (ap (λ b. cond b (Some e.1) (lookup (nat_eq p) es)) k) ∙ h)))
