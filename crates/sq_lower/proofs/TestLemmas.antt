-- Free text, lists of words and restrictions are typed as they are meant.
use Rattle.std.proofs.Common.{◌≡◌, ℕ, ◌≤◌, ◌≤ℤ◌, ◌⊎◌, Bool, true, false, List, [], ◌∷◌, map, length, Option, Some, None, refl, ap, ap₂, sym, subst, ◌∙◌, arith, inl, inr, w64, FitsSigned, codes}
use Rattle.std.specs.Prelude.{Ok, Err, ℤ, pos, neg_ℤ, int_le, if◌then◌else◌, is_some, nat_le, slice_get, option_map, position}
use Rattle.std.specs.Fmt.{signed_decimal}
use Rattle.std.specs.Str.{bytes_eq}
use Rattle.std.proofs.lemmas.Bool.{false≢true, false_from_ne_true, and_parts, le-leb}
use Rattle.std.proofs.lemmas.Int.{ints}
use Rattle.std.proofs.lemmas.Slice.Eq.{bytes_eq-Decides}
use Rattle.sq_schema.specs.declared.interval.Interval.{Interval}
use Rattle.sq_schema.specs.declared.property.Kind.{Kind}
use Rattle.sq_schema.specs.declared.property.Kind.TheVariants as kind
use Rattle.sq_schema.specs.declared.property.Property.{Property}
use Rattle.sq_schema.specs.declared.values.NumberFault.TheVariants.{Shape}
use Rattle.sq_schema.specs.Intervals.{single}
use Rattle.sq_schema.specs.Laws.{NamesFindRows, NumbersReadBack, MomentsReadBack, MomentsAreWritten}
use Rattle.sq_schema.specs.Moments.{IsMoment, text_of_moment, two_text, four_text}
use Rattle.sq_schema.specs.Properties.{IsSchema, has_name, is_text}
use Rattle.sq_schema.specs.Values.{number_of, is_numeral, behind_minus, yes_no_of}
use Rattle.sq_schema.specs.Words.{is_same_word}
use Rattle.sq_tokens.specs.Pattern.{Phrase, text_phrase, without_good_star}
use Rattle.sq_tokens.specs.Token.{text_tokens}
use Rattle.sq_model.specs.Copies.{copies, greatest}
use Rattle.sq_model.specs.Kinds.{kind_of, is_text_kind, is_text_property, is_same}
use Rattle.sq_model.specs.KqlSound.{LeafSound, LeavesSound, reads_text, is_value_test, is_value_test_of}
use Rattle.sq_model.specs.Lists.{is_empty}
use Rattle.sq_model.specs.declared.leaf.Leaf.{Leaf}
use Rattle.sq_model.specs.declared.kql.Relation.{Relation}
use Rattle.sq_model.specs.declared.kql.Relation.TheVariants as relation
use Rattle.sq_model.specs.declared.fql.Look.{Look}
use Rattle.sq_model.specs.declared.fql.Look.TheVariants.{Searchable, One}
use Rattle.sq_model.specs.declared.fql.SpanTree.{SpanTree}
use Rattle.sq_model.specs.declared.fql.SpanTree.TheVariants as s
use Rattle.sq_model.specs.declared.fql.FTree.{FTree}
use Rattle.sq_model.specs.declared.fql.FTree.TheVariants as f
use Rattle.sq_base.specs.Outcome.{Outcome, refused, or_refused}
use Rattle.sq_fql.specs.declared.raw.FPiece.{FPiece}
use Rattle.sq_fql.specs.declared.raw.FRaw.{FRaw}
use Rattle.sq_fql.specs.declared.raw.Mode.TheVariants as mode
use Rattle.sq_fql.specs.declared.raw.Op.TheVariants as op
use Rattle.sq_fql.specs.Limits.{fql_distance}
use Rattle.sq_typing.specs.declared.codes.TheConstants.{NO_TOKEN, BAD_DATE}
use Rattle.sq_typing.specs.FqlPlaces.{place_of, is_outside, opened, entered}
use Rattle.sq_typing.specs.FqlTexts.{unread, leaf as leaf_with, pattern_in, leaf_in, word_in, string_spans}
use Rattle.sq_schema.specs.Bounds.{is_from_to, is_integer_value, is_moment_value, least_number, greatest_number, least_moment, greatest_moment}
use Rattle.sq_typing.specs.FqlNumbers.{number_in, date_in, yes_no_in, within, lower_bound, upper_bound, between}
use Rattle.sq_typing.specs.Numbers.{number_at}
use Rattle.sq_typing.specs.Fql.{with_few_copies, few_copies, edge, lone, in_texts, combined_all, proximate, typed_at, fql_typed}
use Rattle.sq_typing.specs.Together.{mapped, together, all_of}
use Rattle.sq_typing.proofs.FqlEquations.{pattern_apply, scope_typed}
use Rattle.sq_typing.proofs.SpanLemmas.{copies_union}
use Rattle.sq_lower.specs.Lowered.{apply, literal, scope, negated, phrase, words, range, text_form, text_test, flag_text, number_text, value_meant, values_related, value_form, value_test}
use Rattle.sq_lower.proofs.Form.{text_tree, meant, related, value_tree, value_tree_of}
use Rattle.sq_lower.proofs.RawEquations.{proximity_lone, proximate_lone, typed_for_all, typed_in_scope}

-- ---- leaves

-- a literal as lowering writes it
abbrev piece : List ℕ → FPiece
piece text = record { at = 0; text = text }

-- the pattern of a literal, by its first bad star and whether it has no token
abbrev pattern_by : Option ℕ → Bool → Phrase → Outcome Phrase
pattern_by star none pattern = if is_some star then unread else (if none then refused NO_TOKEN 0 else Ok pattern)

pattern_is : (leaf : Leaf) → LeafSound leaf → pattern_in (piece leaf.text) ≡ Ok leaf.pattern
unfolding pattern_in
pattern_is leaf sound =
    ap (λ star. pattern_by star (is_empty (text_tokens (without_good_star leaf.text))) (text_phrase leaf.text)) sound.stars
    ∙ (ap (λ none. pattern_by None none (text_phrase leaf.text)) sound.tokens ∙ ap Ok (sym sound.pattern))

leaf_is : (leaf : Leaf) → LeafSound leaf → leaf_in (piece leaf.text) ≡ Ok leaf
leaf_is leaf sound = ap (mapped (leaf_with leaf.text)) (pattern_is leaf sound)

words_are : (leaves : List Leaf) → LeavesSound leaves → all_of (map word_in (map (λ leaf. literal leaf.text) leaves)) ≡ Ok (map s.Leaf leaves)
words_are [] sound = refl
words_are (leaf ∷ rest) sound = ap₂ (together (λ y ys. y ∷ ys)) (ap (mapped s.Leaf) (leaf_is leaf sound.0)) (words_are rest sound.1)

-- ---- copies

few_of_leaves : (leaves : List Leaf) → greatest (map copies (map s.Leaf leaves)) ≤ 1
few_of_leaves [] = omega arith
few_of_leaves (leaf ∷ rest) = omega (arith, few_of_leaves rest)

pub few_copies_is : (look : Look) (t : SpanTree) → copies t ≤ 256 → few_copies 0 look (Ok t) ≡ Ok (f.Spans look t)
unfolding with_few_copies
few_copies_is look t few = let test : nat_le (copies t) 256 ≡ true = le-leb (copies t) 256 few in rw test refl

-- ---- free text and lists of words

-- the literal of `string("..")`
abbrev pub phrase_in : Leaf → List FRaw
phrase_in leaf = literal leaf.text ∷ []

module _ (schema : List Property) (look : Look) where
  pub phrase_given : (leaf : Leaf) → LeafSound leaf → proximate schema look (phrase leaf) ≡ Ok (s.Leaf leaf)
  phrase_given leaf sound =
      proximate_lone schema look 0 (op.Str mode.Phrase fql_distance) (phrase_in leaf) refl ∙ ap (mapped (string_spans mode.Phrase fql_distance)) (leaf_is leaf sound)

  words_read : (leaves : List Leaf) → is_empty leaves ≡ false → LeavesSound leaves → lone look 0 op.Words (map (λ leaf. literal leaf.text) leaves) ≡ Ok (s.Union (map s.Leaf leaves))
  words_read [] some sound = absurd (false≢true (sym some))
  words_read (leaf ∷ rest) some sound = ap (mapped s.Union) (words_are (leaf ∷ rest) sound)

  pub words_given : (leaves : List Leaf) → is_empty leaves ≡ false → LeavesSound leaves → proximate schema look (words leaves) ≡ Ok (s.Union (map s.Leaf leaves))
  words_given leaves some sound = proximate_lone schema look 0 op.Words (map (λ leaf. literal leaf.text) leaves) refl ∙ words_read leaves some sound

  -- the same outside of near and onear
  phrase_found : (leaf : Leaf) → LeafSound leaf → in_texts schema look 0 (op.Str mode.Phrase fql_distance) (phrase_in leaf) ≡ Ok (f.Spans look (s.Leaf leaf))
  phrase_found leaf sound =
      ap (few_copies 0 look)
      (proximity_lone schema look 0 (op.Str mode.Phrase fql_distance) (phrase_in leaf) refl ∙ ap (mapped (string_spans mode.Phrase fql_distance)) (leaf_is leaf sound))
      ∙ few_copies_is look (s.Leaf leaf) (omega arith)

  words_found : (leaves : List Leaf) → is_empty leaves ≡ false → LeavesSound leaves →
      in_texts schema look 0 op.Words (map (λ leaf. literal leaf.text) leaves) ≡ Ok (f.Spans look (s.Union (map s.Leaf leaves)))
  words_found leaves some sound =
      ap (few_copies 0 look) (proximity_lone schema look 0 op.Words (map (λ leaf. literal leaf.text) leaves) refl ∙ words_read leaves some sound)
      ∙ few_copies_is look (s.Union (map s.Leaf leaves)) (omega (arith, copies_union (map s.Leaf leaves), few_of_leaves leaves))

  edge_found : (leaf : Leaf) → LeafSound leaf → in_texts schema look 0 op.Equals (phrase leaf ∷ []) ≡ Ok (f.Edge look leaf true true)
  edge_found leaf sound = ap (edge look true true) (pattern_apply schema 0 (op.Str mode.Phrase fql_distance) (phrase_in leaf) ∙ leaf_is leaf sound)

module _ (schema : List Property) where
  pub phrase_typed : (leaf : Leaf) → LeafSound leaf → fql_typed schema (phrase leaf) ≡ Ok (f.Spans Searchable (s.Leaf leaf))
  phrase_typed leaf sound = typed_in_scope schema _ 0 (op.Str mode.Phrase fql_distance) (phrase_in leaf) refl ∙ phrase_found schema Searchable leaf sound

  pub words_typed : (leaves : List Leaf) → is_empty leaves ≡ false → LeavesSound leaves → fql_typed schema (words leaves) ≡ Ok (f.Spans Searchable (s.Union (map s.Leaf leaves)))
  words_typed leaves some sound = typed_in_scope schema _ 0 op.Words (map (λ leaf. literal leaf.text) leaves) refl ∙ words_found schema Searchable leaves some sound

  negated_typed : (form : FRaw) (t : FTree) → fql_typed schema form ≡ Ok t → fql_typed schema (negated form) ≡ Ok (f.Not t)
  negated_typed form t typed = typed_for_all schema _ 0 op.Not (form ∷ []) refl ∙ ap (λ outcome. combined_all op.Not (all_of (outcome ∷ []))) typed

-- ---- scopes

-- outside of every scope the name of a row opens the scope of the row
scope_entered : (schema : List Property) (here : _) (property : ℕ) (row : Property) → is_outside here ≡ true → position (has_name row.name) schema ≡ Some property →
    slice_get schema property ≡ Some row → entered schema here 0 row.name ≡ Ok (place_of property row.kind)
unfolding entered opened
scope_entered schema here property row outside found at_row = rw (found, at_row, outside) refl

-- a scope of the name is that of the property, whose kind this is
abbrev Opens : List Property → List ℕ → ℕ → Kind → Type 0
Opens schema name property k = (inner : FRaw) → fql_typed schema (scope name inner) ≡ typed_at schema (place_of property k) inner

scope_opens : (schema : List Property) (property : ℕ) (row : Property) → position (has_name row.name) schema ≡ Some property → slice_get schema property ≡ Some row →
    Opens schema row.name property row.kind
scope_opens schema property row found at_row inner =
    scope_typed schema _ (place_of property row.kind) 0 row.name inner (scope_entered schema _ property row refl found at_row)

-- ---- restrictions of texts

text_kind : (k : Kind) → is_text k ≡ true → k ≡ kind.Text
text_kind kind.Text is = refl
text_kind kind.Integer is = absurd (false≢true is)
text_kind kind.DateTime is = absurd (false≢true is)
text_kind kind.YesNo is = absurd (false≢true is)

module _ (schema : List Property) (property : ℕ) (name : List ℕ) (opens : Opens schema name property kind.Text) where
  has_typed : (leaf : Leaf) → LeafSound leaf → fql_typed schema (scope name (phrase leaf)) ≡ Ok (f.Spans (One property) (s.Leaf leaf))
  has_typed leaf sound =
      opens (phrase leaf)
      ∙ (typed_in_scope schema (place_of property kind.Text) 0 (op.Str mode.Phrase fql_distance) (phrase_in leaf) refl ∙ phrase_found schema (One property) leaf sound)

  equals_typed : (leaf : Leaf) → LeafSound leaf → fql_typed schema (scope name (apply op.Equals (phrase leaf ∷ []))) ≡ Ok (f.Edge (One property) leaf true true)
  equals_typed leaf sound =
      opens (apply op.Equals (phrase leaf ∷ []))
      ∙ (typed_in_scope schema (place_of property kind.Text) 0 op.Equals (phrase leaf ∷ []) refl ∙ edge_found schema (One property) leaf sound)

  text_form_typed : (r : Relation) (leaf : Leaf) → reads_text r ≡ true → LeafSound leaf → fql_typed schema (text_form name r leaf) ≡ Ok (text_tree property r leaf)
  text_form_typed relation.Has leaf reads sound = has_typed leaf sound
  text_form_typed relation.Equal leaf reads sound = equals_typed leaf sound
  text_form_typed relation.Unequal leaf reads sound = negated_typed schema _ _ (equals_typed leaf sound)
  text_form_typed relation.Less leaf reads sound = absurd (false≢true reads)
  text_form_typed relation.More leaf reads sound = absurd (false≢true reads)
  text_form_typed relation.AtMost leaf reads sound = absurd (false≢true reads)
  text_form_typed relation.AtLeast leaf reads sound = absurd (false≢true reads)
  text_form_typed relation.Range leaf reads sound = absurd (false≢true reads)

-- ---- restrictions of numbers

-- the bounds of a range, where a literal is read so
abbrev low_of : (FPiece → Outcome Interval) → List ℕ → Outcome Interval
low_of read text = if bytes_eq text (codes "min") then Ok (single least_number) else read (piece text)

abbrev high_of : (FPiece → Outcome Interval) → List ℕ → Outcome Interval
high_of read text = if bytes_eq text (codes "max") then Ok (single greatest_number) else read (piece text)

-- how the scope of a property of this kind reads ranges
abbrev Ranges : List Property → ℕ → Kind → (FPiece → Outcome Interval) → Type 0
Ranges schema property k read =
    (above below : Bool) (lower upper : List ℕ) →
    typed_at schema (place_of property k) (range above below lower upper) ≡ mapped (within property) (together (between above below) (low_of read lower) (high_of read upper))

integer_ranges : (schema : List Property) (property : ℕ) → Ranges schema property kind.Integer number_in
unfolding lower_bound upper_bound
integer_ranges schema property above below lower upper =
    typed_in_scope schema (place_of property kind.Integer) 0 (op.Range above below) (literal lower ∷ literal upper ∷ []) refl

moment_ranges : (schema : List Property) (property : ℕ) → Ranges schema property kind.DateTime date_in
unfolding lower_bound upper_bound
moment_ranges schema property above below lower upper =
    typed_in_scope schema (place_of property kind.DateTime) 0 (op.Range above below) (literal lower ∷ literal upper ∷ []) refl

-- a number of the kind is written as a text that is read as this number, and that names no bound
record Reads (k : Kind) (read : FPiece → Outcome Interval) (n : ℤ) : Type 0 where
  value : read (piece (number_text k n)) ≡ Ok (single n)
  least : bytes_eq (number_text k n) (codes "min") ≡ false
  most : bytes_eq (number_text k n) (codes "max") ≡ false

module _ (k : Kind) (read : FPiece → Outcome Interval) (n : ℤ) (h : Reads k read n) where
  low_is : low_of read (number_text k n) ≡ Ok (single n)
  low_is = let e = h.least in rw e h.value

  high_is : high_of read (number_text k n) ≡ Ok (single n)
  high_is = let e = h.most in rw e h.value

module _ (schema : List Property) (property : ℕ) (k : Kind) (read : FPiece → Outcome Interval) (ranges : Ranges schema property k read)
    (first last : ℤ) (low : Reads k read first) (high : Reads k read last) where
  range_typed : (above below : Bool) (lower upper : List ℕ) (i j : Interval) → low_of read lower ≡ Ok i → high_of read upper ≡ Ok j →
      typed_at schema (place_of property k) (range above below lower upper) ≡ Ok (within property (between above below i j))
  range_typed above below lower upper i j from to = ranges above below lower upper ∙ ap₂ (λ x y. mapped (within property) (together (between above below) x y)) from to

  meant_range : typed_at schema (place_of property k) (range false false (number_text k first) (number_text k last)) ≡ Ok (within property (between false false (single first) (single last)))
  meant_range = range_typed false false _ _ _ _ (low_is k read first low) (high_is k read last high)

  values_typed : typed_at schema (place_of property k) (value_meant k first last) ≡ Ok (within property (meant k first last)) →
      (r : Relation) → typed_at schema (place_of property k) (values_related k r first last) ≡ Ok (within property (related k r first last))
  values_typed values relation.Less = range_typed false true (codes "min") _ _ _ refl (high_is k read first low)
  values_typed values relation.More = range_typed true false _ (codes "max") _ _ (low_is k read last high) refl
  values_typed values relation.AtMost = range_typed false false (codes "min") _ _ _ refl (high_is k read last high)
  values_typed values relation.AtLeast = range_typed false false _ (codes "max") _ _ (low_is k read first low) refl
  values_typed values relation.Range = meant_range
  values_typed values relation.Has = values
  values_typed values relation.Equal = values
  values_typed values relation.Unequal = values

module _ (schema : List Property) (property : ℕ) (name : List ℕ) (k : Kind) (opens : Opens schema name property k) where
  value_form_typed : (r : Relation) (first last : ℤ) → typed_at schema (place_of property k) (values_related k r first last) ≡ Ok (within property (related k r first last)) →
      fql_typed schema (value_form name k r first last) ≡ Ok (value_tree property k r first last)
  value_form_typed relation.Less first last typed = opens _ ∙ typed
  value_form_typed relation.More first last typed = opens _ ∙ typed
  value_form_typed relation.AtMost first last typed = opens _ ∙ typed
  value_form_typed relation.AtLeast first last typed = opens _ ∙ typed
  value_form_typed relation.Range first last typed = opens _ ∙ typed
  value_form_typed relation.Has first last typed = opens _ ∙ typed
  value_form_typed relation.Equal first last typed = opens _ ∙ typed
  value_form_typed relation.Unequal first last typed = negated_typed schema _ _ (opens _ ∙ typed)

-- ---- numbers of a kind

at_most : (m n : ℤ) → int_le m n ≡ true → m ≤ℤ n
at_most m n h = grind (arith, ints)

same_is : (m n : ℤ) → is_same m n ≡ true → m ≡ n
same_is m n h =
    let parts = and_parts (int_le m n) (int_le n m) h in
    omega (arith, ints, at_most m n parts.0, at_most n m parts.1)

pub integers_are : (r : Relation) (first last : ℤ) → is_value_test kind.Integer r first last ≡ true → (is_integer_value first ≡ true) × (is_integer_value last ≡ true)
integers_are relation.Range first last h = and_parts (is_integer_value first) (is_integer_value last) h
integers_are _ first last h =
    let parts = and_parts (is_integer_value first) (is_same first last) h in
    (parts.0, subst (λ n. is_integer_value n ≡ true) (same_is first last parts.1) parts.0)

integer_fits : (n : ℤ) → is_integer_value n ≡ true → FitsSigned w64 n
integer_fits n h =
    let parts = and_parts (int_le least_number n) (int_le n greatest_number) h in
    grind (arith, ints, parts.0, parts.1)

-- "min" and "max" are no numbers
other_word : (text word : List ℕ) (n : ℤ) → number_of text ≡ Ok n → number_of word ≡ Err Shape → bytes_eq text word ≡ false
other_word text word n reads shape =
    false_from_ne_true (bytes_eq text word) (λ e. let same = ap number_of ((bytes_eq-Decides text word).0 e) in cc)

word_shape : (number_of (codes "min") ≡ Err Shape) × (number_of (codes "max") ≡ Err Shape)
unfolding number_of is_numeral behind_minus
word_shape = (refl, refl)

-- YYYY-MM-DDThh:mm:ssZ
pub moment_length : (n : ℤ) → length (text_of_moment n) ≡ 20
unfolding text_of_moment two_text four_text
moment_length n = refl

other_length : (text word : List ℕ) → length text ≡ 20 → length word ≡ 3 → bytes_eq text word ≡ false
other_length text word long short =
    false_from_ne_true (bytes_eq text word) (λ e. let same = ap length ((bytes_eq-Decides text word).0 e) in absurd (omega (arith, same, long, short)))

flag_cases : (n : ℤ) → is_from_to (pos 0) (pos 1) n ≡ true → (n ≡ pos 0) ⊎ (n ≡ pos 1)
flag_cases n h =
    let parts = and_parts (int_le (pos 0) n) (int_le n (pos 1)) h in
    grind (arith, ints, parts.0, parts.1)

flags_read : (yes_no_in (piece (flag_text (pos 0))) ≡ Ok (single (pos 0))) × (yes_no_in (piece (flag_text (pos 1))) ≡ Ok (single (pos 1)))
unfolding yes_no_in yes_no_of is_same_word
flags_read = (refl, refl)

flag_reads : (n : ℤ) → is_from_to (pos 0) (pos 1) n ≡ true → yes_no_in (piece (flag_text n)) ≡ Ok (single n)
flag_reads n h =
    let Read = λ (i : ℤ). yes_no_in (piece (flag_text i)) ≡ Ok (single i) in
    elim (flag_cases n h) [
      | inl is_no ↦ subst Read (sym is_no) flags_read.0
      | inr is_yes ↦ subst Read (sym is_yes) flags_read.1
    ]

module _ (schema : List Property) (property : ℕ) where
  flag_typed : (r : Relation) (first last : ℤ) → is_value_test kind.YesNo r first last ≡ true →
      typed_at schema (place_of property kind.YesNo) (values_related kind.YesNo r first last) ≡ Ok (within property (related kind.YesNo r first last))
  flag_typed relation.Has first last h = ap (mapped (within property)) (flag_reads first (and_parts (is_same first last) (is_from_to (pos 0) (pos 1) first) h).1)
  flag_typed relation.Equal first last h = ap (mapped (within property)) (flag_reads first (and_parts (is_same first last) (is_from_to (pos 0) (pos 1) first) h).1)
  flag_typed relation.Unequal first last h = ap (mapped (within property)) (flag_reads first (and_parts (is_same first last) (is_from_to (pos 0) (pos 1) first) h).1)
  flag_typed relation.Less first last h = absurd (false≢true h)
  flag_typed relation.More first last h = absurd (false≢true h)
  flag_typed relation.AtMost first last h = absurd (false≢true h)
  flag_typed relation.AtLeast first last h = absurd (false≢true h)
  flag_typed relation.Range first last h = absurd (false≢true h)

-- ---- restrictions, by the laws of schemas

module _ (find : NamesFindRows) (numbers : NumbersReadBack) (dates : MomentsReadBack) (written : MomentsAreWritten) (schema : List Property) (good : IsSchema schema) where
  integer_reads : (n : ℤ) → is_integer_value n ≡ true → Reads kind.Integer number_in n
  unfolding number_in
  integer_reads n h =
      let reads = numbers n (integer_fits n h) in
      record {
        value = ap (number_at 0) reads;
        least = other_word (signed_decimal n) (codes "min") n reads word_shape.0;
        most = other_word (signed_decimal n) (codes "max") n reads word_shape.1;
      }

  moment_reads : (n : ℤ) → is_moment_value n ≡ true → Reads kind.DateTime date_in n
  unfolding date_in
  moment_reads n h =
      let parts = and_parts (int_le least_moment n) (int_le n greatest_moment) h in
      let lies : IsMoment n = (at_most least_moment n parts.0, at_most n greatest_moment parts.1) in
      record {
        value = ap (λ i. or_refused i BAD_DATE 0) (dates n (text_of_moment n) lies (written n lies));
        least = other_length (text_of_moment n) (codes "min") (moment_length n) refl;
        most = other_length (text_of_moment n) (codes "max") (moment_length n) refl;
      }

  module _ (property : ℕ) where
    integer_typed : (r : Relation) (first last : ℤ) → is_value_test kind.Integer r first last ≡ true →
        typed_at schema (place_of property kind.Integer) (values_related kind.Integer r first last) ≡ Ok (within property (related kind.Integer r first last))
    integer_typed r first last h =
        let are = integers_are r first last h in
        let low = integer_reads first are.0 in
        values_typed schema property kind.Integer number_in (integer_ranges schema property) first last low (integer_reads last are.1)
        (ap (mapped (within property)) low.value) r

    moment_typed : (r : Relation) (first last : ℤ) → is_value_test kind.DateTime r first last ≡ true →
        typed_at schema (place_of property kind.DateTime) (values_related kind.DateTime r first last) ≡ Ok (within property (related kind.DateTime r first last))
    moment_typed r first last h =
        let are = and_parts (is_moment_value first) (is_moment_value last) h in
        let low = moment_reads first are.0 in
        let high = moment_reads last are.1 in
        let ranges = moment_ranges schema property in
        values_typed schema property kind.DateTime date_in ranges first last low high (meant_range schema property kind.DateTime date_in ranges first last low high) r

    value_typed : (name : List ℕ) (k : Kind) (r : Relation) (first last : ℤ) → Opens schema name property k → is_value_test k r first last ≡ true →
        fql_typed schema (value_form name k r first last) ≡ Ok (value_tree property k r first last)
    value_typed name kind.Text r first last opens h = absurd (false≢true h)
    value_typed name kind.Integer r first last opens h = value_form_typed schema property name kind.Integer opens r first last (integer_typed r first last h)
    value_typed name kind.DateTime r first last opens h = value_form_typed schema property name kind.DateTime opens r first last (moment_typed r first last h)
    value_typed name kind.YesNo r first last opens h = value_form_typed schema property name kind.YesNo opens r first last (flag_typed schema property r first last h)

    found_text : (found : Option Property) (r : Relation) (leaf : Leaf) → slice_get schema property ≡ found → is_text_kind (option_map (λ row. row.kind) found) ≡ true →
        reads_text r ≡ true → LeafSound leaf → fql_typed schema (text_test found r leaf) ≡ Ok (text_tree property r leaf)
    found_text None r leaf here is reads sound = absurd (false≢true is)
    found_text (Some row) r leaf here is reads sound =
        let opens = scope_opens schema property row (find schema property row good here) here in
        text_form_typed schema property row.name (subst (Opens schema row.name property) (text_kind row.kind is) opens) r leaf reads sound

    found_value : (found : Option Property) (r : Relation) (first last : ℤ) → slice_get schema property ≡ found →
        is_value_test_of (option_map (λ row. row.kind) found) r first last ≡ true → fql_typed schema (value_test found r first last) ≡ Ok (value_tree_of property found r first last)
    found_value None r first last here is = absurd (false≢true is)
    found_value (Some row) r first last here is =
        value_typed row.name row.kind r first last (scope_opens schema property row (find schema property row good here) here) is

  pub text_test_typed : (property : ℕ) (r : Relation) (leaf : Leaf) → is_text_property schema property ≡ true → reads_text r ≡ true → LeafSound leaf →
      fql_typed schema (text_test (slice_get schema property) r leaf) ≡ Ok (text_tree property r leaf)
  text_test_typed property r leaf is reads sound = found_text property (slice_get schema property) r leaf refl is reads sound

  pub value_test_typed : (property : ℕ) (r : Relation) (first last : ℤ) → is_value_test_of (kind_of schema property) r first last ≡ true →
      fql_typed schema (value_test (slice_get schema property) r first last) ≡ Ok (value_tree_of property (slice_get schema property) r first last)
  value_test_typed property r first last is = found_value property (slice_get schema property) r first last refl is
