-- A typed tree is sound for its schema, and no larger than what was read.
use Rattle.std.proofs.Common.{◌≡◌, ℕ, ◌+◌, ◌≤◌, Bool, true, false, ◌&&◌, List, ◌∷◌, length, Option, Some, None, ℤ, refl, sym, ap, ◌∙◌, subst, arith}
use Rattle.std.specs.Prelude.{Ok, Err, IfOk, is_some, unsigned_abs, nat_le, if◌then◌else◌, position, option_map, option_and_then}
use Rattle.std.specs.List.{AllByRecursion}
use Rattle.std.proofs.lemmas.Bool.Decides.{nat_tests}
use Rattle.sq_schema.specs.declared.interval.Interval.{Interval}
use Rattle.sq_schema.specs.declared.property.Kind.{Kind}
use Rattle.sq_schema.specs.declared.property.Kind.TheVariants as kind
use Rattle.sq_schema.specs.declared.property.Property.{Property}
use Rattle.sq_schema.specs.Properties.{has_name}
use Rattle.sq_tokens.specs.Token.{text_tokens}
use Rattle.sq_tokens.specs.Pattern.{without_good_star}
use Rattle.sq_model.specs.Lists.{is_empty}
use Rattle.sq_model.specs.Kinds.{kind_of}
use Rattle.sq_model.specs.KqlCopies.{copies}
use Rattle.sq_model.specs.KqlSound.{LeafSound, reads_text, is_value_test, PartsSound, SomeSound, EachSound, SomeOperandsSound, EachOperandSound, IsSound}
use Rattle.sq_model.specs.declared.leaf.Leaf.{Leaf}
use Rattle.sq_model.specs.declared.kql.Relation.{Relation}
use Rattle.sq_model.specs.declared.kql.Relation.TheVariants as relation
use Rattle.sq_model.specs.declared.kql.KOperand.{KOperand}
use Rattle.sq_model.specs.declared.kql.KTree.{KTree, Row_of-KTree, end_of-KTree, more_of-KTree, Row_of-KOperand, end_of-KOperand, more_of-KOperand, items-the_row-KTree, items_hidden-the_row-KTree-2, items-the_row-KOperand, items_hidden-the_row-KOperand-1}
use Rattle.sq_model.specs.declared.kql.KTree.TheVariants as tree
use Rattle.sq_model.specs.declared.kql.KTree.TheBlock.{shape-the_row-KTree-0, hidden-the_row-KTree-0, hidden-the_row-KTree-2, hidden-the_row-KOperand-1}
use Rattle.sq_lex.specs.declared.lexeme.Relation.{Relation as Spelled}
use Rattle.sq_lex.specs.declared.lexeme.Relation.TheVariants as spelled
use Rattle.sq_lex.specs.Shape.{is_range}
use Rattle.sq_base.specs.Outcome.{Outcome, refused, or_refused, ◌>>=◌}
use Rattle.sq_kql.specs.declared.raw.Piece.{Piece}
use Rattle.sq_kql.specs.declared.raw.KRaw.{KRaw, Free, All, Words, Group', Restrict, Near', Run', And', Or', Xrank', Row_of-KRaw, end_of-KRaw, more_of-KRaw, Row_of-KRawOperand, end_of-KRawOperand, more_of-KRawOperand}
use Rattle.sq_kql.specs.WellFormed.{IsStarless, HasForm, HaveForm, OperandsHaveForm, AreSome, AreSomeOperands, IsWellFormed, piece_bytes, upper_bytes, bytes, bytes_each, operand_bytes, nodes, nodes_each, operand_nodes}
use Rattle.sq_typing.specs.Forms.{ProximitySound}
use Rattle.sq_typing.specs.Together.{all_of, mapped}
use Rattle.sq_typing.specs.KqlValues.{found, has_relation, tested, relation_of, literal, leaf_of, text_value, value_test, test_of, restriction, bounds, number_value, moment_value, yes_no_value}
use Rattle.sq_typing.specs.Kql.{operand_of, proximate, proximate_each, with_few_copies, few_copies, typed, typed_each, typed_operands}
use Rattle.sq_typing.proofs.ProximateLemmas.{leaf_sound, words_sound, if_misplaced, proximate_sound}
use Rattle.sq_typing.proofs.SizeLemmas.{Small, SmallEach, SmallOperands, small_or, small_and, small_run, small_group, small_near, small_xrank, small_cons, small_operand_cons, small_words}
use Rattle.sq_typing.proofs.SoundLemmas.{sound_of_few}
use Rattle.sq_typing.proofs.TogetherLemmas.{if_mapped, if_together, if_weaker}
use Rattle.sq_typing.proofs.ValueLemmas.{boost_is, same_is, IsNumber, AreNumbers, number_is, numbers_are, AreMoments, Calendar, moments_are, IsYesNo, yes_no_is}

-- ---- proximity expressions

if_both : {A : Type 0} (x : Outcome A) (P Q : A → Type 0) → IfOk x P → IfOk x Q → IfOk x (λ a. P a × Q a)
if_both (Ok a) P Q h k = (h, k)
if_both (Err e) P Q h k = tt

if_then : {A B : Type 0} (x : Outcome A) (f : A → Outcome B) (P : A → Type 0) (Q : B → Type 0) → IfOk x P → ((a : A) → P a → IfOk (f a) Q) → IfOk (x >>= f) Q
if_then (Ok a) f P Q h k = k a h
if_then (Err e) f P Q h k = tt

few_are : (at : ℕ) (u : KTree) (P : KTree → Type 0) → P u → (b : Bool) → nat_le (copies u) 256 ≡ b →
    IfOk (if b then Ok u else refused 311 at) (λ v. P v × (copies v ≤ 256))
few_are at u P h true e = (h, grind (arith, nat_tests))
few_are at u P h false e = tt

if_few : (at : ℕ) (near : Outcome KTree) (P : KTree → Type 0) → IfOk near P → IfOk (few_copies at near) (λ u. P u × (copies u ≤ 256))
unfolding with_few_copies
if_few at (Ok u) P h = few_are at u P h (nat_le (copies u) 256) refl
if_few at (Err e) P h = tt

module _ (schema : List Property) where
  mutual
    proximate_small : (t : KRaw) → IfOk (proximate schema t) (Small (bytes t) (nodes t))
    proximate_small (Free p) = record { few_bytes = omega arith; few_nodes = omega arith }
    proximate_small (All at) = tt
    proximate_small (Words at ps) = small_words ps
    proximate_small (Group' at s (more_of-KRaw inside end_of-KRaw)) =
        if_mapped tree.Group (proximate schema inside) (Small (bytes inside) (nodes inside)) _ (proximate_small inside) (λ u h. small_group _ _ u h)
    proximate_small (Restrict at name r value upper) = if_misplaced (tested schema at name (relation_of r)) _ at _
    proximate_small (Near' at s (more_of-KRaw left end_of-KRaw) t (more_of-KRaw right end_of-KRaw) n ordered) =
        if_together (λ l r. tree.Near l r n ordered) (proximate schema left) (proximate schema right) (Small (bytes left) (nodes left)) (Small (bytes right) (nodes right)) _
        (proximate_small left) (proximate_small right) (λ l r h k. small_near _ _ _ _ l r n ordered h k)
    proximate_small (Run' at s operands) = tt
    proximate_small (And' at s parts) = tt
    proximate_small (Or' at s parts) =
        if_mapped tree.Or (all_of (proximate_each schema parts)) (SmallEach (bytes_each parts) (nodes_each parts)) _ (proximates_small parts) (λ us h. small_or _ _ us h)
    proximate_small (Xrank' at s matched t ranked cb) = tt

    proximates_small : {m : _} (row : Row_of-KRaw m) → IfOk (all_of (proximate_each schema row)) (SmallEach (bytes_each row) (nodes_each row))
    proximates_small end_of-KRaw = record { few_bytes = omega arith; few_nodes = omega arith }
    proximates_small (more_of-KRaw part rest) =
        if_together (λ x xs. x ∷ xs) (proximate schema part) (all_of (proximate_each schema rest)) (Small (bytes part) (nodes part)) (SmallEach (bytes_each rest) (nodes_each rest)) _
        (proximate_small part) (proximates_small rest) (λ u us h k. small_cons _ _ _ _ u us h k)

-- ---- restrictions

pub record IsTested (schema : List Property) (r : Relation) (row : ℕ × Kind) : Type 0 where
  pub kind : kind_of schema row.0 ≡ Some row.1
  pub has : has_relation row.1 r ≡ true

module _ (schema : List Property) where
  tested_if : (at : ℕ) (r : Relation) (row : ℕ) (k : Kind) → kind_of schema row ≡ Some k → (b : Bool) → has_relation k r ≡ b →
      IfOk (if b then Ok (row, k) else refused 302 at) (IsTested schema r)
  tested_if at r row k is true has = record { kind = is; has = has }
  tested_if at r row k is false has = tt

  tested_kind : (at : ℕ) (r : Relation) (row : ℕ) (k : Option Kind) → kind_of schema row ≡ k →
      IfOk (or_refused (option_map (λ kind. (row, kind)) k) 301 at >>= (λ found. if has_relation found.1 r then Ok found else refused 302 at)) (IsTested schema r)
  tested_kind at r row (Some k) is = tested_if at r row k is (has_relation k r) refl
  tested_kind at r row None is = tt

  tested_row : (at : ℕ) (r : Relation) (row : Option ℕ) →
      IfOk (or_refused (option_and_then (λ row. option_map (λ kind. (row, kind)) (kind_of schema row)) row) 301 at >>= (λ found. if has_relation found.1 r then Ok found else refused 302 at)) (IsTested schema r)
  tested_row at r (Some row) = tested_kind at r row (kind_of schema row) refl
  tested_row at r None = tt

  tested_is : (at : ℕ) (name : List ℕ) (r : Relation) → IfOk (tested schema at name r) (IsTested schema r)
  unfolding tested found
  tested_is at name r = tested_row at r (position (has_name name) schema)

record IsLeafOf (p : Piece) (leaf : Leaf) : Type 0 where
  pub sound : LeafSound leaf
  pub text : length leaf.text ≡ length p.text

text_if : (p : Piece) → IsStarless p → (b : Bool) → is_empty (text_tokens (without_good_star p.text)) ≡ b →
    IfOk (or_refused (if b then None else Some (leaf_of p.text)) 307 p.at) (IsLeafOf p)
text_if p starless true e = tt
text_if p starless false e = record { sound = record { pattern = refl; stars = starless; tokens = e }; text = refl }

text_is : (p : Piece) → IsStarless p → IfOk (text_value p) (IsLeafOf p)
unfolding text_value literal
text_is p starless = text_if p starless (is_empty (text_tokens (without_good_star p.text))) refl

all_true : (a b : Bool) → a ≡ true → b ≡ true → (a && b) ≡ true
all_true a b h k = rw (h, k) refl

number_test : (r : Relation) (i : Interval) → IsNumber i → is_value_test kind.Integer r i.first i.last ≡ true
number_test relation.Range i h = all_true _ _ h.first h.last
number_test relation.Has i h = all_true _ _ h.first (rw (sym h.same) (same_is i.first))
number_test relation.Equal i h = all_true _ _ h.first (rw (sym h.same) (same_is i.first))
number_test relation.Less i h = all_true _ _ h.first (rw (sym h.same) (same_is i.first))
number_test relation.More i h = all_true _ _ h.first (rw (sym h.same) (same_is i.first))
number_test relation.AtMost i h = all_true _ _ h.first (rw (sym h.same) (same_is i.first))
number_test relation.AtLeast i h = all_true _ _ h.first (rw (sym h.same) (same_is i.first))
number_test relation.Unequal i h = all_true _ _ h.first (rw (sym h.same) (same_is i.first))

moment_test : (r : Relation) (i : Interval) → AreMoments i → is_value_test kind.DateTime r i.first i.last ≡ true
moment_test r i h = all_true _ _ h.first h.last

yes_no_test : (r : Relation) (i : Interval) → reads_text r ≡ true → IsYesNo i → is_value_test kind.YesNo r i.first i.last ≡ true
yes_no_test r i reads h = all_true _ _ (all_true _ _ reads (rw (sym h.same) (same_is i.first))) h.within

module _ (schema : List Property) where
  -- a typed tree, sound and with at most so many bytes and nodes
  pub record Fits (m n : ℕ) (u : KTree) : Type 0 where
    pub sound : PartsSound schema u
    pub small : Small m n u

  test_fits : (row : ℕ) (k : Kind) (r : Relation) (m : ℕ) (i : Interval) → kind_of schema row ≡ Some k → is_value_test k r i.first i.last ≡ true →
      Fits m 1 (tree.ValueTest row r i.first i.last)
  test_fits row k r m i is test = record {
    sound = rw is test;
    small = record { few_bytes = omega arith; few_nodes = omega arith };
  }

  -- a range has an upper value, and another relation none
  numbers_fit : (row : ℕ) (r : Spelled) (value : Piece) (upper : Option Piece) (m : ℕ) → kind_of schema row ≡ Some kind.Integer → is_some upper ≡ is_range r →
      IfOk (value_test row (relation_of r) (bounds number_value value upper)) (Fits m 1)
  numbers_fit row r value None m is ranged = if_mapped _ (number_value value) IsNumber (Fits m 1) (number_is value)
      (λ i h. test_fits row kind.Integer (relation_of r) m i is (number_test (relation_of r) i h))
  numbers_fit row spelled.Range value (Some upper) m is ranged = if_mapped _ (bounds number_value value (Some upper)) AreNumbers (Fits m 1) (numbers_are value (Some upper))
      (λ i h. test_fits row kind.Integer relation.Range m i is (all_true _ _ h.first h.last))
  numbers_fit row spelled.Has value (Some upper) m is ranged = cc
  numbers_fit row spelled.Equal value (Some upper) m is ranged = cc
  numbers_fit row spelled.Less value (Some upper) m is ranged = cc
  numbers_fit row spelled.More value (Some upper) m is ranged = cc
  numbers_fit row spelled.AtMost value (Some upper) m is ranged = cc
  numbers_fit row spelled.AtLeast value (Some upper) m is ranged = cc
  numbers_fit row spelled.Unequal value (Some upper) m is ranged = cc

  module _ (now : ℤ) (calendar : Calendar now) where
    tests_fit : (r : Spelled) (value : Piece) (upper : Option Piece) (row : ℕ × Kind) → IsStarless value → is_some upper ≡ is_range r → IsTested schema (relation_of r) row →
        IfOk (test_of now (relation_of r) value upper row.0 row.1) (Fits (piece_bytes value + upper_bytes upper) 1)
    tests_fit r value upper (row, kind.Text) starless ranged is = if_mapped _ (text_value value) (IsLeafOf value) _ (text_is value starless)
        (λ leaf h. record { sound = (rw is.kind refl, is.has, h.sound); small = record { few_bytes = omega (arith, h.text); few_nodes = omega arith } })
    tests_fit r value upper (row, kind.Integer) starless ranged is = numbers_fit row r value upper _ is.kind ranged
    tests_fit r value upper (row, kind.DateTime) starless ranged is = if_mapped _ (bounds (moment_value now) value upper) AreMoments _ (moments_are now calendar value upper)
        (λ i h. test_fits row kind.DateTime (relation_of r) _ i is.kind (moment_test (relation_of r) i h))
    tests_fit r value upper (row, kind.YesNo) starless ranged is = if_mapped _ (yes_no_value value) IsYesNo _ (yes_no_is value)
        (λ i h. test_fits row kind.YesNo (relation_of r) _ i is.kind (yes_no_test (relation_of r) i is.has h))

    restriction_fits : (at : ℕ) (name : List ℕ) (r : Spelled) (value : Piece) (upper : Option Piece) → IsStarless value → is_some upper ≡ is_range r →
        IfOk (restriction schema now at name (relation_of r) value upper) (Fits (piece_bytes value + upper_bytes upper) 1)
    restriction_fits at name r value upper starless ranged =
        if_then (tested schema at name (relation_of r)) _ (IsTested schema (relation_of r)) _ (tested_is schema at name (relation_of r))
        (λ row is. tests_fit r value upper row starless ranged is)

  -- ---- built trees

  each_row : {m : _} (row : Row_of-KTree m) → AllByRecursion (PartsSound schema) (items-the_row-KTree m row) → EachSound schema row
  each_row end_of-KTree sound = tt
  each_row (more_of-KTree part rest) sound = (sound.0, each_row rest sound.1)

  some_row : {m : _} (row : Row_of-KTree m) → is_empty (items-the_row-KTree m row) ≡ false → AllByRecursion (PartsSound schema) (items-the_row-KTree m row) → SomeSound schema row
  some_row end_of-KTree some sound = cc
  some_row (more_of-KTree part rest) some sound = (sound.0, each_row rest sound.1)

  some_list : (us : List KTree) → is_empty us ≡ false → AllByRecursion (PartsSound schema) us → SomeSound schema (hidden-the_row-KTree-2 us)
  some_list us some sound =
      let items = items_hidden-the_row-KTree-2 us in
      some_row (hidden-the_row-KTree-2 us) (ap is_empty items ∙ some) (subst (AllByRecursion (PartsSound schema)) (sym items) sound)

  abbrev OperandSound : KOperand → Type 0
  OperandSound o = PartsSound schema o.tree

  each_operand_row : {m : _} (row : Row_of-KOperand m) → AllByRecursion OperandSound (items-the_row-KOperand m row) → EachOperandSound schema row
  each_operand_row end_of-KOperand sound = tt
  each_operand_row (more_of-KOperand s part rest) sound = (sound.0, each_operand_row rest sound.1)

  some_operand_row : {m : _} (row : Row_of-KOperand m) → is_empty (items-the_row-KOperand m row) ≡ false → AllByRecursion OperandSound (items-the_row-KOperand m row) →
      SomeOperandsSound schema row
  some_operand_row end_of-KOperand some sound = cc
  some_operand_row (more_of-KOperand s part rest) some sound = (sound.0, each_operand_row rest sound.1)

  some_operands : (os : List KOperand) → is_empty os ≡ false → AllByRecursion OperandSound os → SomeOperandsSound schema (hidden-the_row-KOperand-1 os)
  some_operands os some sound =
      let items = items_hidden-the_row-KOperand-1 os in
      some_operand_row (hidden-the_row-KOperand-1 os) (ap is_empty items ∙ some) (subst (AllByRecursion OperandSound) (sym items) sound)

  -- several of them
  record FitEach (m n : ℕ) (us : List KTree) : Type 0 where
    sound : AllByRecursion (PartsSound schema) us
    small : SmallEach m n us

  record FitSome (m n : ℕ) (us : List KTree) : Type 0 where
    some : is_empty us ≡ false
    each : FitEach m n us

  record FitOperands (m n : ℕ) (os : List KOperand) : Type 0 where
    sound : AllByRecursion OperandSound os
    small : SmallOperands m n os

  record FitSomeOperands (m n : ℕ) (os : List KOperand) : Type 0 where
    some : is_empty os ≡ false
    each : FitOperands m n os

  cons_fits : (m n i j : ℕ) (u : KTree) (us : List KTree) → Fits m n u → FitEach i j us → FitEach (m + i) (n + j) (u ∷ us)
  cons_fits m n i j u us h k = record { sound = (h.sound, k.sound); small = small_cons m n i j u us h.small k.small }

  record FitsOperand (m n : ℕ) (o : KOperand) : Type 0 where
    tree : Fits m n o.tree

  operand_cons_fits : (m n i j : ℕ) (o : KOperand) (os : List KOperand) → FitsOperand m n o → FitOperands i j os → FitOperands (m + i) (n + j) (o ∷ os)
  operand_cons_fits m n i j o os h k = record { sound = (h.tree.sound, k.sound); small = small_operand_cons m n i j o os h.tree.small k.small }

  group_fits : (m n : ℕ) (u : KTree) → Fits m n u → Fits (m + 0) (1 + (n + 0)) (tree.Group u)
  unfolding shape-the_row-KTree-0 hidden-the_row-KTree-0 denote.Hole.Carrier.hidden
  group_fits m n u h = record { sound = (h.sound, tt); small = small_group m n u h.small }

  xrank_fits : (m n i j : ℕ) (u v : KTree) (cb : ℤ) → unsigned_abs cb ≤ 1_000_000 → Fits m n u → Fits i j v →
      Fits ((m + 0) + (i + 0)) (1 + ((n + 0) + (j + 0))) (tree.Xrank u v cb)
  unfolding shape-the_row-KTree-0 hidden-the_row-KTree-0 denote.Hole.Carrier.hidden
  xrank_fits m n i j u v cb bound h k =
      record { sound = ((h.sound, tt), (k.sound, tt), boost_is cb bound); small = small_xrank m n i j u v cb h.small k.small }

  module _ (now : ℤ) (calendar : Calendar now) where
    mutual
      pub typed_fits : (t : KRaw) → HasForm t → IfOk (typed schema now t) (Fits (bytes t) (nodes t))
      typed_fits (Free p) form = record { sound = leaf_sound p form; small = record { few_bytes = omega arith; few_nodes = omega arith } }
      typed_fits (All at) form = record { sound = tt; small = record { few_bytes = omega arith; few_nodes = omega arith } }
      typed_fits (Words at ps) form = record { sound = words_sound ps form.0 form.1; small = small_words ps }
      typed_fits (Group' at s (more_of-KRaw inside end_of-KRaw)) form =
          if_mapped tree.Group (typed schema now inside) (Fits (bytes inside) (nodes inside)) _ (typed_fits inside form.0) (λ u h. group_fits _ _ u h)
      typed_fits (Restrict at name r value upper) form = restriction_fits now calendar at name r value upper form.0 form.2
      typed_fits (Near' at s left t right n ordered) form =
          let near = Near' at s left t right n ordered in
          if_weaker (few_copies at (proximate schema near)) _ _
          (if_few at (proximate schema near) (λ u. ProximitySound u × Small (bytes near) (nodes near) u)
          (if_both (proximate schema near) ProximitySound _ (proximate_sound schema near form) (proximate_small schema near)))
          (λ u h. record { sound = sound_of_few schema u h.0.0 h.1; small = h.0.1 })
      typed_fits (Run' at s operands) form = if_mapped tree.Run (all_of (typed_operands schema now operands)) (FitSomeOperands (operand_bytes operands) (operand_nodes operands)) _
          (some_operands_fit operands form.0 form.1)
          (λ os h. record { sound = some_operands os h.some h.each.sound; small = small_run _ _ os h.each.small })
      typed_fits (And' at s parts) form = if_mapped tree.And (all_of (typed_each schema now parts)) (FitSome (bytes_each parts) (nodes_each parts)) _ (some_fit parts form.0 form.1)
          (λ us h. record { sound = some_list us h.some h.each.sound; small = small_and _ _ us h.each.small })
      typed_fits (Or' at s parts) form = if_mapped tree.Or (all_of (typed_each schema now parts)) (FitSome (bytes_each parts) (nodes_each parts)) _ (some_fit parts form.0 form.1)
          (λ us h. record { sound = some_list us h.some h.each.sound; small = small_or _ _ us h.each.small })
      typed_fits (Xrank' at s (more_of-KRaw matched end_of-KRaw) t (more_of-KRaw ranked end_of-KRaw) cb) form =
          if_together (λ m r. tree.Xrank m r cb) (typed schema now matched) (typed schema now ranked) (Fits (bytes matched) (nodes matched)) (Fits (bytes ranked) (nodes ranked)) _
          (typed_fits matched form.0.0) (typed_fits ranked form.1.0) (λ u v h k. xrank_fits _ _ _ _ u v cb form.2 h k)

      each_fit : {m : _} (row : Row_of-KRaw m) → HaveForm row → IfOk (all_of (typed_each schema now row)) (FitEach (bytes_each row) (nodes_each row))
      each_fit end_of-KRaw form = record { sound = tt; small = record { few_bytes = omega arith; few_nodes = omega arith } }
      each_fit (more_of-KRaw part rest) form =
          if_together (λ x xs. x ∷ xs) (typed schema now part) (all_of (typed_each schema now rest)) (Fits (bytes part) (nodes part)) (FitEach (bytes_each rest) (nodes_each rest)) _
          (typed_fits part form.0) (each_fit rest form.1) (λ u us h k. cons_fits _ _ _ _ u us h k)

      some_fit : {m : _} (row : Row_of-KRaw m) → AreSome row → HaveForm row → IfOk (all_of (typed_each schema now row)) (FitSome (bytes_each row) (nodes_each row))
      some_fit end_of-KRaw some form = absurd some
      some_fit (more_of-KRaw part rest) some form =
          if_together (λ x xs. x ∷ xs) (typed schema now part) (all_of (typed_each schema now rest)) (Fits (bytes part) (nodes part)) (FitEach (bytes_each rest) (nodes_each rest)) _
          (typed_fits part form.0) (each_fit rest form.1) (λ u us h k. record { some = refl; each = cons_fits _ _ _ _ u us h k })

      operands_fit : {m : _} (row : Row_of-KRawOperand m) → OperandsHaveForm row → IfOk (all_of (typed_operands schema now row)) (FitOperands (operand_bytes row) (operand_nodes row))
      operands_fit end_of-KRawOperand form = record { sound = tt; small = record { few_bytes = omega arith; few_nodes = omega arith } }
      operands_fit (more_of-KRawOperand s at part rest) form =
          if_together (λ x xs. x ∷ xs) (mapped (operand_of s) (typed schema now part)) (all_of (typed_operands schema now rest)) (FitsOperand (bytes part) (nodes part))
          (FitOperands (operand_bytes rest) (operand_nodes rest)) _
          (if_mapped (operand_of s) (typed schema now part) (Fits (bytes part) (nodes part)) (FitsOperand (bytes part) (nodes part)) (typed_fits part form.0) (λ u h. record { tree = h }))
          (operands_fit rest form.1) (λ o os h k. operand_cons_fits _ _ _ _ o os h k)

      some_operands_fit : {m : _} (row : Row_of-KRawOperand m) → AreSomeOperands row → OperandsHaveForm row →
          IfOk (all_of (typed_operands schema now row)) (FitSomeOperands (operand_bytes row) (operand_nodes row))
      some_operands_fit end_of-KRawOperand some form = absurd some
      some_operands_fit (more_of-KRawOperand s at part rest) some form =
          if_together (λ x xs. x ∷ xs) (mapped (operand_of s) (typed schema now part)) (all_of (typed_operands schema now rest)) (FitsOperand (bytes part) (nodes part))
          (FitOperands (operand_bytes rest) (operand_nodes rest)) _
          (if_mapped (operand_of s) (typed schema now part) (Fits (bytes part) (nodes part)) (FitsOperand (bytes part) (nodes part)) (typed_fits part form.0) (λ u h. record { tree = h }))
          (operands_fit rest form.1) (λ o os h k. record { some = refl; each = operand_cons_fits _ _ _ _ o os h k })

    pub typed_sound : (t : KRaw) → IsWellFormed t → IfOk (typed schema now t) (IsSound schema)
    typed_sound t well = if_weaker (typed schema now t) (Fits (bytes t) (nodes t)) _ (typed_fits t well.form)
        (λ u h. record { parts = h.sound; texts = omega (arith, h.small.few_bytes, well.few_bytes); nodes = omega (arith, h.small.few_nodes, well.few_nodes) })
