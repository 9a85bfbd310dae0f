-- A lowered tree is well formed.
use Rattle.std.proofs.Common.{◌≡◌, ℕ, ◌+◌, ◌*◌, ◌≤◌, Bool, true, false, List, [], ◌∷◌, ◌++◌, map, length, Option, Some, None, refl, sym, subst, arith, codes, ℤ, pos, neg_ℤ, int_le, length-append}
use Rattle.std.specs.Prelude.{nat_le, slice_get, option_map, sum, sum_by, unsigned_abs}
use Rattle.std.specs.List.{AllByRecursion}
use Rattle.std.proofs.lemmas.Bool.{false≢true, and_parts, leb-true}
use Rattle.std.proofs.lemmas.Int.{ints}
use Rattle.std.proofs.lemmas.List.Sums.{sum_by-cons}
use Rattle.sq_base.specs.Limits.{greatest_boost}
use Rattle.sq_schema.specs.declared.property.Kind.{Kind}
use Rattle.sq_schema.specs.declared.property.Kind.TheVariants as kind
use Rattle.sq_schema.specs.declared.property.Property.{Property}
use Rattle.sq_schema.specs.Properties.{IsSchema}
use Rattle.sq_model.specs.Kinds.{is_boost}
use Rattle.sq_model.specs.Kql.{restricted, role}
use Rattle.sq_model.specs.KqlSound.{LeafSound, LeavesSound, is_value_test_of, PartsSound, SomeSound, EachSound, SomeOperandsSound, EachOperandSound, IsSound, text_bytes, text_bytes_each, text_bytes_of, nodes, nodes_each, nodes_of}
use Rattle.sq_model.specs.Lists.{is_empty}
use Rattle.sq_model.specs.declared.leaf.Leaf.{Leaf}
use Rattle.sq_model.specs.declared.kql.Joiner.{Joiner}
use Rattle.sq_model.specs.declared.kql.Relation.{Relation}
use Rattle.sq_model.specs.declared.kql.Relation.TheVariants as relation
use Rattle.sq_model.specs.declared.kql.Sign.{Sign}
use Rattle.sq_model.specs.declared.kql.Sign.TheVariants.{Plain, Plus, Minus}
use Rattle.sq_model.specs.declared.kql.KTree.{KTree, Free, All, Words, Group', TextTest, ValueTest, Near', Run', And', Or', Xrank', Row_of-KTree, end_of-KTree, more_of-KTree, Row_of-KOperand, end_of-KOperand, more_of-KOperand}
use Rattle.sq_fql.specs.declared.raw.FRaw.{FRaw}
use Rattle.sq_fql.specs.declared.raw.Mode.TheVariants as mode
use Rattle.sq_fql.specs.declared.raw.Op.{Op}
use Rattle.sq_fql.specs.declared.raw.Op.TheVariants as op
use Rattle.sq_fql.specs.WellFormed.{IsName, HasForm, IsWellFormed, bytes, xranks, is_xrank}
use Rattle.sq_fql.specs.Limits.{fql_distance}
use Rattle.sq_lower.specs.Runs.{Form, is_minus, run_form}
use Rattle.sq_lower.specs.Lowered.{apply, literal, scope, negated, phrase, words, near, range, text_form, text_test, number_text, value_meant, values_related, value_form, value_test, raw_connectives, lowered, lowered_each, forms}
use Rattle.sq_lower.proofs.RawForms.{IsLiteral, total, total-append, all-append, SomeOf, form_apply, bytes_apply, xranks_apply, form_scope, bytes_scope, xranks_scope}
use Rattle.sq_lower.proofs.RunForms.{Formed, negated_formed, run_formed}
use Rattle.sq_lower.proofs.RunWeights.{IsUngrouped, IsSum, run_total}
use Rattle.sq_lower.proofs.TextForms.{IsShort, no_bad_star, min_short, max_short, numbers_short, row_name}

-- well formed, with at most so many bytes and xranks
record Fits (most_bytes most_xranks : ℕ) (t : FRaw) : Type 0 where
  form : HasForm t
  few_bytes : bytes t ≤ most_bytes
  few_xranks : xranks t ≤ most_xranks

record FitEach (most_bytes most_xranks : ℕ) (ts : List FRaw) : Type 0 where
  form : AllByRecursion HasForm ts
  few_bytes : total bytes ts ≤ most_bytes
  few_xranks : total xranks ts ≤ most_xranks

wider : (b x c y : ℕ) (t : FRaw) → b ≤ c → x ≤ y → Fits b x t → Fits c y t
wider b x c y t more_bytes more_xranks h = record { form = h.form; few_bytes = omega (arith, h.few_bytes); few_xranks = omega (arith, h.few_xranks) }

-- an operator with well-formed operands, whose number is right
ranked_fits : (o : Op) (b x : ℕ) (ts : List FRaw) → HasForm (apply o ts) → FitEach b x ts → Fits b (is_xrank o + x) (apply o ts)
ranked_fits o b x ts form h = record {
  form = form;
  few_bytes = omega (arith, bytes_apply 0 o ts, h.few_bytes);
  few_xranks = omega (arith, xranks_apply 0 o ts, h.few_xranks);
}

applied : (o : Op) (b x : ℕ) (ts : List FRaw) → is_xrank o ≡ 0 → HasForm (apply o ts) → FitEach b x ts → Fits b x (apply o ts)
applied o b x ts none form h =
    let fit = ranked_fits o b x ts form h in
    record { form = fit.form; few_bytes = fit.few_bytes; few_xranks = omega (arith, fit.few_xranks, none) }

scoped : (b x : ℕ) (name : List ℕ) (t : FRaw) → IsName name → Fits b x t → Fits b x (scope name t)
scoped b x name t is h = record {
  form = form_scope 0 name t is h.form;
  few_bytes = omega (arith, bytes_scope 0 name t, h.few_bytes);
  few_xranks = omega (arith, xranks_scope 0 name t, h.few_xranks);
}

fit_none : FitEach 0 0 []
fit_none = record { form = tt; few_bytes = omega arith; few_xranks = omega arith }

fit_more : (b x c y : ℕ) (t : FRaw) (ts : List FRaw) → Fits b x t → FitEach c y ts → FitEach (b + c) (x + y) (t ∷ ts)
fit_more b x c y t ts h k = record {
  form = (h.form, k.form);
  few_bytes = omega (arith, h.few_bytes, k.few_bytes);
  few_xranks = omega (arith, h.few_xranks, k.few_xranks);
}

fit_alone : (b x : ℕ) (t : FRaw) → Fits b x t → FitEach b x (t ∷ [])
fit_alone b x t h = record { form = (h.form, tt); few_bytes = omega (arith, h.few_bytes); few_xranks = omega (arith, h.few_xranks) }

fit_both : (b x c y : ℕ) (ts us : List FRaw) → FitEach b x ts → FitEach c y us → FitEach (b + c) (x + y) (ts ++ us)
fit_both b x c y ts us h k = record {
  form = all-append HasForm ts us h.form k.form;
  few_bytes = omega (arith, total-append bytes ts us, h.few_bytes, k.few_bytes);
  few_xranks = omega (arith, total-append xranks ts us, h.few_xranks, k.few_xranks);
}

negated_fits : (b x : ℕ) (t : FRaw) → Fits b x t → Fits b x (negated t)
negated_fits b x t h = applied op.Not b x (t ∷ []) refl (negated_formed t h.form) (fit_alone b x t h)

-- ---- free text, lists of words and restrictions

leaf_fits : (leaf : Leaf) → LeafSound leaf → Fits (length leaf.text) 0 (literal leaf.text)
leaf_fits leaf sound = record { form = sound.stars; few_bytes = omega arith; few_xranks = omega arith }

phrase_fits : (leaf : Leaf) → LeafSound leaf → Fits (length leaf.text) 0 (phrase leaf)
phrase_fits leaf sound =
    applied (op.Str mode.Phrase fql_distance) (length leaf.text) 0 (literal leaf.text ∷ []) refl
    (form_apply 0 (op.Str mode.Phrase fql_distance) (literal leaf.text ∷ []) (omega arith) (omega arith) (λ are. (refl, tt)) refl (sound.stars, tt))
    (fit_alone (length leaf.text) 0 (literal leaf.text) (leaf_fits leaf sound))

are_literals : (leaves : List Leaf) → AllByRecursion IsLiteral (map (λ leaf. literal leaf.text) leaves)
are_literals [] = tt
are_literals (leaf ∷ rest) = (refl, are_literals rest)

leaves_fit : (leaves : List Leaf) → LeavesSound leaves → FitEach (sum_by (λ leaf. length leaf.text) leaves) 0 (map (λ leaf. literal leaf.text) leaves)
leaves_fit [] sound = fit_none
leaves_fit (leaf ∷ rest) sound =
    subst (λ n. FitEach n 0 (map (λ l. literal l.text) (leaf ∷ rest))) (sym (sum_by-cons (λ l. length l.text) leaf rest))
    (fit_more (length leaf.text) 0 _ 0 (literal leaf.text) _ (leaf_fits leaf sound.0) (leaves_fit rest sound.1))

words_fit : (leaves : List Leaf) → is_empty leaves ≡ false → LeavesSound leaves → Fits (sum_by (λ leaf. length leaf.text) leaves) 0 (words leaves)
words_fit [] some sound = absurd (false≢true (sym some))
words_fit (leaf ∷ rest) some sound =
    let texts = map (λ l. literal l.text) (leaf ∷ rest) in
    let fit = leaves_fit (leaf ∷ rest) sound in
    applied op.Words _ 0 texts refl (form_apply 0 op.Words texts (omega arith) tt (λ are. are_literals (leaf ∷ rest)) tt fit.form) fit

edge_fits : (leaf : Leaf) → LeafSound leaf → Fits (length leaf.text) 0 (apply op.Equals (phrase leaf ∷ []))
edge_fits leaf sound =
    let inner = phrase_fits leaf sound in
    applied op.Equals (length leaf.text) 0 (phrase leaf ∷ []) refl
    (form_apply 0 op.Equals (phrase leaf ∷ []) (omega arith) (omega arith) (λ are. absurd (false≢true are)) tt (inner.form, tt))
    (fit_alone (length leaf.text) 0 (phrase leaf) inner)

text_form_fits : (name : List ℕ) (r : Relation) (leaf : Leaf) → IsName name → LeafSound leaf → Fits (length leaf.text) 0 (text_form name r leaf)
text_form_fits name relation.Equal leaf is sound = scoped _ 0 name _ is (edge_fits leaf sound)
text_form_fits name relation.Unequal leaf is sound = negated_fits _ 0 _ (scoped _ 0 name _ is (edge_fits leaf sound))
text_form_fits name relation.Has leaf is sound = scoped _ 0 name _ is (phrase_fits leaf sound)
text_form_fits name relation.Less leaf is sound = scoped _ 0 name _ is (phrase_fits leaf sound)
text_form_fits name relation.More leaf is sound = scoped _ 0 name _ is (phrase_fits leaf sound)
text_form_fits name relation.AtMost leaf is sound = scoped _ 0 name _ is (phrase_fits leaf sound)
text_form_fits name relation.AtLeast leaf is sound = scoped _ 0 name _ is (phrase_fits leaf sound)
text_form_fits name relation.Range leaf is sound = scoped _ 0 name _ is (phrase_fits leaf sound)

short_fits : (text : List ℕ) → IsShort text → Fits 20 0 (literal text)
short_fits text h = record { form = no_bad_star text h; few_bytes = h.short; few_xranks = omega arith }

range_fits : (above below : Bool) (lower upper : List ℕ) → IsShort lower → IsShort upper → Fits 40 0 (range above below lower upper)
range_fits above below lower upper low high =
    let both = fit_more 20 0 20 0 (literal lower) (literal upper ∷ []) (short_fits lower low) (fit_alone 20 0 (literal upper) (short_fits upper high)) in
    applied (op.Range above below) 40 0 (literal lower ∷ literal upper ∷ []) refl
    (form_apply 0 (op.Range above below) (literal lower ∷ literal upper ∷ []) (omega arith) (omega arith) (λ are. absurd (false≢true are)) tt both.form)
    both

module _ (k : Kind) (first last : ℤ) (low : IsShort (number_text k first)) (high : IsShort (number_text k last)) (meant_fits : Fits 40 0 (value_meant k first last)) where
  values_fit : (r : Relation) → Fits 40 0 (values_related k r first last)
  values_fit relation.Less = range_fits false true (codes "min") (number_text k first) min_short low
  values_fit relation.More = range_fits true false (number_text k last) (codes "max") high max_short
  values_fit relation.AtMost = range_fits false false (codes "min") (number_text k last) min_short high
  values_fit relation.AtLeast = range_fits false false (number_text k first) (codes "max") low max_short
  values_fit relation.Range = range_fits false false (number_text k first) (number_text k last) low high
  values_fit relation.Has = meant_fits
  values_fit relation.Equal = meant_fits
  values_fit relation.Unequal = meant_fits

  value_form_fits : (name : List ℕ) (r : Relation) → IsName name → Fits 40 0 (value_form name k r first last)
  value_form_fits name relation.Unequal is = negated_fits 40 0 _ (scoped 40 0 name _ is meant_fits)
  value_form_fits name relation.Less is = scoped 40 0 name _ is (values_fit relation.Less)
  value_form_fits name relation.More is = scoped 40 0 name _ is (values_fit relation.More)
  value_form_fits name relation.AtMost is = scoped 40 0 name _ is (values_fit relation.AtMost)
  value_form_fits name relation.AtLeast is = scoped 40 0 name _ is (values_fit relation.AtLeast)
  value_form_fits name relation.Range is = scoped 40 0 name _ is (values_fit relation.Range)
  value_form_fits name relation.Has is = scoped 40 0 name _ is (values_fit relation.Has)
  value_form_fits name relation.Equal is = scoped 40 0 name _ is (values_fit relation.Equal)

meant_fits : (k : Kind) (first last : ℤ) → IsShort (number_text k first) → IsShort (number_text k last) → Fits 40 0 (value_meant k first last)
meant_fits kind.DateTime first last low high = range_fits false false (number_text kind.DateTime first) (number_text kind.DateTime last) low high
meant_fits kind.Text first last low high = wider 20 0 40 0 _ (omega arith) (omega arith) (short_fits _ low)
meant_fits kind.Integer first last low high = wider 20 0 40 0 _ (omega arith) (omega arith) (short_fits _ low)
meant_fits kind.YesNo first last low high = wider 20 0 40 0 _ (omega arith) (omega arith) (short_fits _ low)

module _ (schema : List Property) (good : IsSchema schema) where
  text_test_fits : (property : ℕ) (found : Option Property) (r : Relation) (leaf : Leaf) → slice_get schema property ≡ found → LeafSound leaf →
      Fits (length leaf.text) 0 (text_test found r leaf)
  text_test_fits property None r leaf here sound = record { form = tt; few_bytes = omega arith; few_xranks = omega arith }
  text_test_fits property (Some row) r leaf here sound = text_form_fits row.name r leaf (row_name schema property row good here) sound

  value_test_fits : (property : ℕ) (found : Option Property) (r : Relation) (first last : ℤ) → slice_get schema property ≡ found →
      is_value_test_of (option_map (λ row. row.kind) found) r first last ≡ true → Fits 40 0 (value_test found r first last)
  value_test_fits property None r first last here is = absurd (false≢true is)
  value_test_fits property (Some row) r first last here is =
      let short = numbers_short row.kind r first last is in
      value_form_fits row.kind first last short.0 short.1 (meant_fits row.kind first last short.0 short.1) row.name r (row_name schema property row good here)

-- ---- runs

bytes_sum : IsSum bytes
bytes_sum = record { flat = λ o ts none. bytes_apply 0 o ts }

xranks_sum : IsSum xranks
xranks_sum = record { flat = λ o ts none. omega (arith, xranks_apply 0 o ts) }

-- the operands of a run
record FitOperands (most_bytes most_xranks : ℕ) (run : List (Form FRaw)) : Type 0 where
  form : AllByRecursion Formed run
  alone : AllByRecursion IsUngrouped run
  few_bytes : total bytes (map (λ o. o.form) run) ≤ most_bytes
  few_xranks : total xranks (map (λ o. o.form) run) ≤ most_xranks

run_fits : (b x : ℕ) (joiner : Joiner) (run : List (Form FRaw)) → SomeOf Formed run → FitOperands b x run → Fits b x (run_form raw_connectives joiner run)
run_fits b x joiner run some h = record {
  form = run_formed joiner run some;
  few_bytes = omega (arith, run_total bytes bytes_sum joiner run h.alone, h.few_bytes);
  few_xranks = omega (arith, run_total xranks xranks_sum joiner run h.alone, h.few_xranks);
}

minus_alone : (sign : Sign) (k : KTree) → is_minus sign ≡ true → restricted (role sign k) ≡ None
minus_alone Minus k is = refl
minus_alone Plain k is = absurd (false≢true is)
minus_alone Plus k is = absurd (false≢true is)

-- ---- trees

-- forty bytes more for each node than its texts have
abbrev room : ℕ → ℕ → ℕ
room texts count = texts + 40 * count

boost_few : (cb : ℤ) → is_boost cb ≡ true → unsigned_abs cb ≤ greatest_boost
boost_few cb h =
    let parts = and_parts (int_le (neg_ℤ (pos 1_000_000)) cb) (int_le cb (pos 1_000_000)) h in
    grind (arith, ints, parts.0, parts.1)

near_form : (n : ℕ) (ordered : Bool) (ts : List FRaw) → nat_le n 1_000 ≡ true → 2 ≤ length ts → AllByRecursion HasForm ts → HasForm (near n ordered ts)
near_form n false ts few two form = form_apply 0 (op.Near n) ts two tt (λ are. absurd (false≢true are)) (leb-true n 1_000 few) form
near_form n true ts few two form = form_apply 0 (op.Onear n) ts two tt (λ are. absurd (false≢true are)) (leb-true n 1_000 few) form

near_fits : (b x n : ℕ) (ordered : Bool) (ts : List FRaw) → HasForm (near n ordered ts) → FitEach b x ts → Fits b x (near n ordered ts)
near_fits b x n false ts form h = applied (op.Near n) b x ts refl form h
near_fits b x n true ts form h = applied (op.Onear n) b x ts refl form h

module _ (schema : List Property) (good : IsSchema schema) (joiner : Joiner) where
  -- the trees of a row, by the texts and the nodes of its parts
  abbrev RowFits : {m : _} → Row_of-KTree m → Type 0
  RowFits row = FitEach (room (sum (text_bytes_each row)) (sum (nodes_each row))) (sum (nodes_each row)) (lowered_each schema joiner row)

  row_some : {m : _} (row : Row_of-KTree m) → SomeSound schema row → 1 ≤ length (lowered_each schema joiner row)
  row_some end_of-KTree sound = absurd sound
  row_some (more_of-KTree part rest) sound = omega arith

  two_rows : {m n : _} (left : Row_of-KTree m) (right : Row_of-KTree n) → SomeSound schema left → SomeSound schema right →
      2 ≤ length (lowered_each schema joiner left ++ lowered_each schema joiner right)
  two_rows left right h k = omega (arith, length-append (lowered_each schema joiner left) (lowered_each schema joiner right), row_some left h, row_some right k)

  row_more : {m : _} (part : KTree) (rest : Row_of-KTree m) → Fits (room (text_bytes part) (nodes part)) (nodes part) (lowered schema joiner part) → RowFits rest →
      RowFits (more_of-KTree part rest)
  row_more part rest h k =
      let texts = sum_by-cons (λ n. n) (text_bytes part) (text_bytes_each rest) in
      let count = sum_by-cons (λ n. n) (nodes part) (nodes_each rest) in
      record {
        form = (h.form, k.form);
        few_bytes = omega (arith, texts, count, h.few_bytes, k.few_bytes);
        few_xranks = omega (arith, count, h.few_xranks, k.few_xranks);
      }

  abbrev OperandsFit : {m : _} → Row_of-KOperand m → Type 0
  OperandsFit row = FitOperands (room (sum (text_bytes_of row)) (sum (nodes_of row))) (sum (nodes_of row)) (forms schema joiner row)

  operands_more : {m : _} (sign : Sign) (tree : KTree) (rest : Row_of-KOperand m) → Fits (room (text_bytes tree) (nodes tree)) (nodes tree) (lowered schema joiner tree) →
      OperandsFit rest → OperandsFit (more_of-KOperand sign tree rest)
  operands_more sign tree rest h k =
      let texts = sum_by-cons (λ n. n) (text_bytes tree) (text_bytes_of rest) in
      let count = sum_by-cons (λ n. n) (nodes tree) (nodes_of rest) in
      record {
        form = (h.form, k.form);
        alone = (minus_alone sign tree, k.alone);
        few_bytes = omega (arith, texts, count, h.few_bytes, k.few_bytes);
        few_xranks = omega (arith, count, h.few_xranks, k.few_xranks);
      }

  some_operands : {m : _} (row : Row_of-KOperand m) → SomeOperandsSound schema row → OperandsFit row → SomeOf Formed (forms schema joiner row)
  some_operands end_of-KOperand sound fit = absurd sound
  some_operands (more_of-KOperand sign tree rest) sound fit = fit.form

  mutual
    tree_fits : (k : KTree) → PartsSound schema k → Fits (room (text_bytes k) (nodes k)) (nodes k) (lowered schema joiner k)
    tree_fits (Free leaf) sound = wider _ 0 _ _ _ (omega arith) (omega arith) (phrase_fits leaf sound)
    tree_fits All sound = record { form = tt; few_bytes = omega arith; few_xranks = omega arith }
    tree_fits (Words leaves) sound = wider _ 0 _ _ _ (omega arith) (omega arith) (words_fit leaves sound.0 sound.1)
    tree_fits (Group' s (more_of-KTree inside end_of-KTree)) sound = wider _ _ _ _ _ (omega arith) (omega arith) (tree_fits inside sound.0)
    tree_fits (TextTest property r leaf) sound =
        wider _ 0 _ _ _ (omega arith) (omega arith) (text_test_fits schema good property (slice_get schema property) r leaf refl sound.2)
    tree_fits (ValueTest property r first last) sound =
        wider 40 0 _ _ _ (omega arith) (omega arith) (value_test_fits schema good property (slice_get schema property) r first last refl sound)
    tree_fits (Near' s left t right n ordered) sound =
        let fit = fit_both _ _ _ _ (lowered_each schema joiner left) (lowered_each schema joiner right) (some_fit left sound.0) (some_fit right sound.1) in
        wider _ _ _ _ _ (omega arith) (omega arith)
        (near_fits _ _ n ordered _ (near_form n ordered _ sound.3 (two_rows left right sound.0 sound.1) fit.form) fit)
    tree_fits (Run' shape operands) sound =
        let fit = some_operands_fit operands sound in
        wider _ _ _ _ _ (omega arith) (omega arith) (run_fits _ _ joiner (forms schema joiner operands) (some_operands operands sound fit) fit)
    tree_fits (And' shape parts) sound =
        let fit = some_fit parts sound in
        wider _ _ _ _ _ (omega arith) (omega arith)
        (applied op.And _ _ (lowered_each schema joiner parts) refl
        (form_apply 0 op.And (lowered_each schema joiner parts) (row_some parts sound) tt (λ are. absurd (false≢true are)) tt fit.form) fit)
    tree_fits (Or' shape parts) sound =
        let fit = some_fit parts sound in
        wider _ _ _ _ _ (omega arith) (omega arith)
        (applied op.Or _ _ (lowered_each schema joiner parts) refl
        (form_apply 0 op.Or (lowered_each schema joiner parts) (row_some parts sound) tt (λ are. absurd (false≢true are)) tt fit.form) fit)
    tree_fits (Xrank' s matched t ranked cb) sound =
        let fit = fit_both _ _ _ _ (lowered_each schema joiner matched) (lowered_each schema joiner ranked) (some_fit matched sound.0) (some_fit ranked sound.1) in
        wider _ _ _ _ _ (omega arith) (omega arith)
        (ranked_fits (op.Xrank cb) _ _ (lowered_each schema joiner matched ++ lowered_each schema joiner ranked)
        (form_apply 0 (op.Xrank cb) _ (two_rows matched ranked sound.0 sound.1) tt (λ are. absurd (false≢true are)) (boost_few cb sound.2) fit.form) fit)

    some_fit : {m : _} (row : Row_of-KTree m) → SomeSound schema row → RowFits row
    some_fit end_of-KTree sound = absurd sound
    some_fit (more_of-KTree part rest) sound = row_more part rest (tree_fits part sound.0) (each_fit rest sound.1)

    each_fit : {m : _} (row : Row_of-KTree m) → EachSound schema row → RowFits row
    each_fit end_of-KTree sound = fit_none
    each_fit (more_of-KTree part rest) sound = row_more part rest (tree_fits part sound.0) (each_fit rest sound.1)

    some_operands_fit : {m : _} (row : Row_of-KOperand m) → SomeOperandsSound schema row → OperandsFit row
    some_operands_fit end_of-KOperand sound = absurd sound
    some_operands_fit (more_of-KOperand sign tree rest) sound = operands_more sign tree rest (tree_fits tree sound.0) (operands_fit rest sound.1)

    operands_fit : {m : _} (row : Row_of-KOperand m) → EachOperandSound schema row → OperandsFit row
    operands_fit end_of-KOperand sound = record { form = tt; alone = tt; few_bytes = omega arith; few_xranks = omega arith }
    operands_fit (more_of-KOperand sign tree rest) sound = operands_more sign tree rest (tree_fits tree sound.0) (operands_fit rest sound.1)

-- the tree of a sound KQL tree is well formed
pub lowered_formed : (schema : List Property) (joiner : Joiner) (k : KTree) → IsSchema schema → IsSound schema k → IsWellFormed (lowered schema joiner k)
lowered_formed schema joiner k good sound =
    let fit = tree_fits schema good joiner k sound.parts in
    record {
      form = fit.form;
      few_bytes = omega (arith, fit.few_bytes, sound.texts, sound.nodes);
      few_xranks = omega (arith, fit.few_xranks, sound.nodes);
    }
