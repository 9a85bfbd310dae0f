-- How a text grows by what a writer adds.
use Rattle.std.proofs.Common.{◌≡◌, ℕ, zero, suc, ◌+◌, ◌-◌, ◌<◌, ◌≤◌, take, get_or, Bool, true, false, cond, List, [], ◌∷◌, ◌++◌, append_assoc, append-nil, drop, length, filter, refl, ap, sym, subst, ◌∙◌, arith, Some, None, slice_get, chars, encode_utf8, encode_utf8_all, IsUtf8}
use Rattle.std.specs.List.{flat_map, list_all}
use Rattle.std.proofs.lemmas.Str.{chars_past_char, chars-nil, encodes-append}
use Rattle.std.proofs.lemmas.List.{take_all, drop_all}
use Rattle.std.proofs.lemmas.Bool.Decides.{nat_tests}
use Rattle.std.proofs.lemmas.List.Concat.{flat_map-cons}
use Rattle.sq_schema.specs.declared.property.Property.{Property}
use Rattle.sq_model.specs.declared.corpus.Item.{Item}
use Rattle.sq_model.specs.declared.corpus.Value.{Value}
use Rattle.sq_model.specs.Laws.{ValuesAreShown}
use Rattle.sq_model.specs.Valid.{is_value, is_item}
use Rattle.sq_corpus.specs.Written.{value_line, row_lines, is_at, escape, property_line}
use Rattle.sq_corpus.specs.Writes.{is_shown, are_shown}
use Rattle.sq_corpus.proofs.CleanLemmas.{both_true, left_true, right_true}
use Rattle.sq_corpus.proofs.ValidLemmas.{parts}

-- the rows from one on
pub dropped : {A : Type 0} (xs : List A) (i : ℕ) (x : A) → slice_get xs i ≡ Some x → drop i xs ≡ x ∷ drop (suc i) xs
dropped [] i x e = cc
dropped (y ∷ xs) zero x e = let is : y ≡ x = cc in ap (λ z. z ∷ xs) is
dropped (y ∷ xs) (suc i) x e = dropped xs i x e

pub dropped-past : {A : Type 0} (xs : List A) (i : ℕ) → slice_get xs i ≡ None → drop (suc i) xs ≡ drop i xs
dropped-past [] zero e = refl
dropped-past [] (suc i) e = refl
dropped-past (y ∷ xs) zero e = cc
dropped-past (y ∷ xs) (suc i) e = dropped-past xs i e

-- a character of a text is written
pub step-spelled : (front now whole bytes rest : List ℕ) (c : ℕ) → IsUtf8 bytes → bytes ≡ encode_utf8 c ++ rest
    → now ≡ front ++ encode_utf8_all (escape c) → front ++ encode_utf8_all (flat_map escape (chars bytes)) ≡ whole
    → now ++ encode_utf8_all (flat_map escape (chars rest)) ≡ whole
step-spelled front now whole bytes rest c utf8 cut added kept =
    let first : chars bytes ≡ c ∷ chars rest = chars_past_char bytes rest c utf8 cut in
    let opened : flat_map escape (chars bytes) ≡ escape c ++ flat_map escape (chars rest) = ap (flat_map escape) first ∙ flat_map-cons escape c (chars rest) in
    ap (λ t. t ++ encode_utf8_all (flat_map escape (chars rest))) added
    ∙ append_assoc front (encode_utf8_all (escape c)) (encode_utf8_all (flat_map escape (chars rest)))
    ∙ ap (λ t. front ++ t) (sym (encodes-append (escape c) (flat_map escape (chars rest))) ∙ ap encode_utf8_all (sym opened))
    ∙ kept

pub end-spelled : (now whole rest : List ℕ) → length rest ≡ 0 → now ++ encode_utf8_all (flat_map escape (chars rest)) ≡ whole → now ≡ whole
end-spelled now whole [] none kept =
    let empty : encode_utf8_all (flat_map escape (chars [])) ≡ [] = ap (λ cs. encode_utf8_all (flat_map escape cs)) chars-nil in
    sym (ap (λ t. now ++ t) empty ∙ append-nil now) ∙ kept
end-spelled now whole (b ∷ rest) none kept = absurd (omega arith)

-- the first of the items that are left, and those behind it
pub first-and-rest : {A : Type 0} (xs : List A) (x : A) → 1 ≤ length xs → x ≡ get_or xs 0 x → xs ≡ x ∷ take (length xs - 1) (drop 1 xs)
first-and-rest [] x some is = absurd (omega arith)
first-and-rest (y ∷ xs) x some is =
    let all : length (y ∷ xs) - 1 ≡ length xs = omega arith in
    ap (λ z. z ∷ xs) (sym is) ∙ ap (λ rest. x ∷ rest) (sym (ap (λ n. take n xs) all ∙ take_all (length xs) xs (omega arith)))

-- one more is written
pub step-item : {A : Type 0} (f : A → List ℕ) (xs : List A) (x : A) (then now whole : List ℕ) → 1 ≤ length xs → x ≡ get_or xs 0 x
    → now ≡ then ++ f x → then ++ flat_map f xs ≡ whole → now ++ flat_map f (take (length xs - 1) (drop 1 xs)) ≡ whole
step-item f xs x then now whole some is added kept =
    ap (λ t. t ++ flat_map f (take (length xs - 1) (drop 1 xs))) added
    ∙ append_assoc then (f x) (flat_map f (take (length xs - 1) (drop 1 xs)))
    ∙ ap (λ t. then ++ t) (sym (ap (flat_map f) (first-and-rest xs x some is) ∙ flat_map-cons f x (take (length xs - 1) (drop 1 xs))))
    ∙ kept

-- nothing is left
pub ends-item : {A : Type 0} (f : A → List ℕ) (xs : List A) (now whole : List ℕ) → length xs < 1 → now ++ flat_map f xs ≡ whole → now ≡ whole
ends-item f [] now whole none kept = sym (append-nil now) ∙ kept
ends-item f (x ∷ xs) now whole none kept = absurd (omega arith)

pub rest-all : {A : Type 0} (test : A → Bool) (xs : List A) (x : A) → 1 ≤ length xs → x ≡ get_or xs 0 x → list_all test xs ≡ true
    → list_all test (take (length xs - 1) (drop 1 xs)) ≡ true
rest-all test xs x some is good =
    let P : List _ → Type 0 = λ items. list_all test items ≡ true in
    right_true (test x) (list_all test (take (length xs - 1) (drop 1 xs))) (subst P (first-and-rest xs x some is) good)

-- a value of the property comes to the text
kept-at : (t : Bool) (x : Value) (others : List Value) → t ≡ true → cond t (x ∷ others) others ≡ x ∷ others
kept-at true x others e = refl
kept-at false x others e = cc

pub step-kept : (f : Value → List ℕ) (property : ℕ) (xs : List Value) (x : Value) (then now whole : List ℕ)
    → 1 ≤ length xs → x ≡ get_or xs 0 x → x.property ≡ property
    → now ≡ then ++ f x → then ++ flat_map f (filter (is_at property) xs) ≡ whole
    → now ++ flat_map f (filter (is_at property) (take (length xs - 1) (drop 1 xs))) ≡ whole
step-kept f property xs x then now whole some is of added kept =
    let rest : List Value = filter (is_at property) (take (length xs - 1) (drop 1 xs)) in
    let test : is_at property x ≡ true = grind (arith, nat_tests, of) in
    let split : filter (is_at property) xs ≡ x ∷ rest = ap (filter (is_at property)) (first-and-rest xs x some is) ∙ kept-at (is_at property x) x rest test in
    ap (λ t. t ++ flat_map f rest) added
    ∙ append_assoc then (f x) (flat_map f rest)
    ∙ ap (λ t. then ++ t) (sym (ap (flat_map f) split ∙ flat_map-cons f x rest))
    ∙ kept

pub ends-kept : (f : Value → List ℕ) (property : ℕ) (xs : List Value) (now whole : List ℕ)
    → length xs < 1 → now ++ flat_map f (filter (is_at property) xs) ≡ whole → now ≡ whole
ends-kept f property [] now whole none kept = sym (append-nil now) ∙ kept
ends-kept f property (x ∷ xs) now whole none kept = absurd (omega arith)

-- a row comes to the text
pub step-row : (values : List Value) (at : ℕ) (rows : List Property) (row : Property) (then now whole : List ℕ)
    → slice_get rows at ≡ Some row → now ≡ then ++ flat_map (value_line row.name) (filter (is_at at) values)
    → then ++ row_lines values at (drop at rows) ≡ whole → now ++ row_lines values (at + 1) (drop (at + 1) rows) ≡ whole
step-row values at rows row then now whole here added kept =
    let next : suc at ≡ at + 1 = omega arith in
    let Q : ℕ → Type 0 = λ n. drop at rows ≡ row ∷ drop n rows in
    let split : drop at rows ≡ row ∷ drop (at + 1) rows = subst Q next (dropped rows at row here) in
    let first : List ℕ = flat_map (value_line row.name) (filter (is_at at) values) in
    let others : List ℕ = row_lines values (at + 1) (drop (at + 1) rows) in
    ap (λ t. t ++ others) added
    ∙ append_assoc then first others
    ∙ ap (λ t. then ++ t) (sym (ap (row_lines values at) split))
    ∙ kept

pub ends-rows : (values : List Value) (at : ℕ) (rows : List Property) (now whole : List ℕ)
    → length rows ≤ at → now ++ row_lines values at (drop at rows) ≡ whole → now ≡ whole
ends-rows values at rows now whole past kept =
    let none : drop at rows ≡ [] = drop_all at rows past in
    sym (append-nil now) ∙ ap (λ left. now ++ row_lines values at left) (sym none) ∙ kept

pub step-property : (at : ℕ) (rows : List Property) (row : Property) (then now whole : List ℕ) → slice_get rows at ≡ Some row
    → now ≡ then ++ property_line row → then ++ flat_map property_line (drop at rows) ≡ whole
    → now ++ flat_map property_line (drop (at + 1) rows) ≡ whole
step-property at rows row then now whole here added kept =
    let next : suc at ≡ at + 1 = omega arith in
    let Q : ℕ → Type 0 = λ n. drop at rows ≡ row ∷ drop n rows in
    let split : drop at rows ≡ row ∷ drop (at + 1) rows = subst Q next (dropped rows at row here) in
    ap (λ t. t ++ flat_map property_line (drop (at + 1) rows)) added
    ∙ append_assoc then (property_line row) (flat_map property_line (drop (at + 1) rows))
    ∙ ap (λ t. then ++ t) (sym (ap (flat_map property_line) split ∙ flat_map-cons property_line row (drop (at + 1) rows)))
    ∙ kept

-- The values of a valid corpus have texts.

shown_values : ValuesAreShown → (rows : List Property) (values : List Value) → list_all (is_value rows) values ≡ true → list_all is_shown values ≡ true
shown_values law rows [] good = refl
shown_values law rows (value ∷ values) good =
    both_true _ _ (law rows value (left_true (is_value rows value) (list_all (is_value rows) values) good))
    (shown_values law rows values (right_true (is_value rows value) (list_all (is_value rows) values) good))

pub shown_items : ValuesAreShown → (rows : List Property) (items : List Item) → list_all (is_item rows) items ≡ true → list_all are_shown items ≡ true
shown_items law rows [] good = refl
shown_items law rows (item ∷ items) good =
    both_true _ _ (shown_values law rows item.values (parts rows item (left_true (is_item rows item) (list_all (is_item rows) items) good)).values)
    (shown_items law rows items (right_true (is_item rows item) (list_all (is_item rows) items) good))
