-- The fields of a line of XML characters in UTF-8 are such texts too, and are together no longer than the line.
use Rattle.std.proofs.Common.{◌≡◌, ℕ, ◌+◌, ◌/◌, ◌<◌, ◌≤◌, lit≤, lit<, Bool, true, false, cond, not, ◌&&◌, ◌==◌, List, [], ◌∷◌, ◌++◌, map, length, refl, ap, sym, subst, ◌∙◌, arith, chars, encode_utf8, encode_utf8_all, sum_by}
use lib.Utf8.{scalar, encode, next}
use Rattle.std.specs.List.{list_all}
use Rattle.std.specs.Str.{is_utf8, all_scalars}
use Rattle.std.proofs.lemmas.Str.{IsUtf8-from_is_utf8, is_utf8-from_IsUtf8, chars-encodes, encode_ascii, encodes-chars, scalars-chars}
use Rattle.std.proofs.lemmas.List.Sums.{sum_by-cons}
use Rattle.std.proofs.lemmas.Bool.Decides.{nat_tests}
use Rattle.sq_base.specs.Xml.{is_xml_char, is_xml_text}
use Rattle.sq_corpus.specs.Pieces.{onto_first, pieces, fields_of}
use Rattle.sq_corpus.proofs.LineLemmas.{Begins, begins_pieces}

pub both_true : (a b : Bool) → a ≡ true → b ≡ true → (a && b) ≡ true
both_true true true p q = refl
both_true true false p q = q
both_true false b p q = p

pub left_true : (a b : Bool) → (a && b) ≡ true → a ≡ true
left_true true b p = refl
left_true false b p = p

pub right_true : (a b : Bool) → (a && b) ≡ true → b ≡ true
right_true true b p = p
right_true false b p = cc

-- a text of XML characters in UTF-8
pub record Clean (field : List ℕ) : Type 0 where
  pub letters : List ℕ
  pub scalar : all_scalars letters ≡ true
  pub xml : list_all is_xml_char letters ≡ true
  pub is : encode_utf8_all letters ≡ field

pub clean_line : (line : List ℕ) → is_utf8 line ≡ true → is_xml_text line ≡ true → Clean line
clean_line line utf8 xml =
    let text = IsUtf8-from_is_utf8 line utf8 in
    record { letters = chars line; scalar = scalars-chars line text; xml = xml; is = encodes-chars line text }

abbrev pub AllClean : List (List ℕ) → Type 0
AllClean [] = Unit {0}
AllClean (field ∷ fields) = Clean field × AllClean fields

-- A byte of a character is an ASCII separator only where the character is.
unfoldable pub apart : ℕ → ℕ → Bool
apart separator byte = not (byte == separator)

apart_high : (separator byte : ℕ) → separator < 128 → 128 ≤ byte → apart separator byte ≡ true
unfolding apart
apart_high separator byte low high = grind (arith, nat_tests, low, high)

pub apart_from : (separator c : ℕ) → (c == separator) ≡ false → apart separator c ≡ true
unfolding apart
apart_from separator c e = ap not e

pub apart_test : (separator c : ℕ) → apart separator c ≡ true → (c == separator) ≡ false
unfolding apart
apart_test separator c e = false_of (c == separator) e
  where
    false_of : (t : Bool) → not t ≡ true → t ≡ false
    false_of true e = cc
    false_of false e = refl

apart_at : (separator : ℕ) (one two three : Bool) (c a b d e f g h i j : ℕ) → separator < 128 → apart separator c ≡ true
    → 128 ≤ a → 128 ≤ b → 128 ≤ d → 128 ≤ e → 128 ≤ f → 128 ≤ g → 128 ≤ h → 128 ≤ i → 128 ≤ j
    → list_all (apart separator) (cond one (c ∷ []) (cond two (a ∷ b ∷ []) (cond three (d ∷ e ∷ f ∷ []) (g ∷ h ∷ i ∷ j ∷ [])))) ≡ true
apart_at s true two three c a b d e f g h i j low other ha hb hd he hf hg hh hi hj = both_true _ _ other refl
apart_at s false true three c a b d e f g h i j low other ha hb hd he hf hg hh hi hj =
    both_true _ _ (apart_high s a low ha) (both_true _ _ (apart_high s b low hb) refl)
apart_at s false false true c a b d e f g h i j low other ha hb hd he hf hg hh hi hj =
    both_true _ _ (apart_high s d low hd) (both_true _ _ (apart_high s e low he) (both_true _ _ (apart_high s f low hf) refl))
apart_at s false false false c a b d e f g h i j low other ha hb hd he hf hg hh hi hj =
    both_true _ _ (apart_high s g low hg)
    (both_true _ _ (apart_high s h low hh) (both_true _ _ (apart_high s i low hi) (both_true _ _ (apart_high s j low hj) refl)))

next_high : (bits : ℕ) → 128 ≤ next bits
next_high bits = omega arith

above_high : (a b : ℕ) → 128 ≤ a → 128 ≤ a + b
above_high a b high = omega (arith, high)

pub apart_in : (separator c : ℕ) → separator < 128 → apart separator c ≡ true → list_all (apart separator) (encode c) ≡ true
unfolding encode
apart_in separator c low other =
    apart_at separator _ _ _ c (192 + c / 64) (next c) (224 + c / 4096) (next (c / 64)) (next c) (240 + c / 262144) (next (c / 4096)) (next (c / 64)) (next c)
    low other
    (above_high 192 (c / 64) (lit≤ tt)) (next_high c) (above_high 224 (c / 4096) (lit≤ tt)) (next_high (c / 64)) (next_high c)
    (above_high 240 (c / 262144) (lit≤ tt)) (next_high (c / 4096)) (next_high (c / 64)) (next_high c)

-- bytes without a separator go to the first piece
pub pieces_behind : (separator : ℕ) (front rest : List ℕ) → list_all (apart separator) front ≡ true → (begins : Begins (pieces separator rest))
    → pieces separator (front ++ rest) ≡ (front ++ begins.first) ∷ begins.rest
pieces_behind separator [] rest none begins = begins.is
pieces_behind separator (byte ∷ front) rest none begins =
    let here : (byte == separator) ≡ false = apart_test separator byte (left_true (apart separator byte) (list_all (apart separator) front) none) in
    ap (λ t. cond t ([] ∷ pieces separator (front ++ rest)) (onto_first byte (pieces separator (front ++ rest)))) here
    ∙ ap (onto_first byte) (pieces_behind separator front rest (right_true (apart separator byte) (list_all (apart separator) front) none) begins)

pieces_encoded_at : (t : Bool) (c : ℕ) (cs : List ℕ) → (c == 9) ≡ t → pieces 9 (encode_utf8_all cs) ≡ map encode_utf8_all (pieces 9 cs)
    → pieces 9 (encode_utf8 c ++ encode_utf8_all cs) ≡ map encode_utf8_all (cond t ([] ∷ pieces 9 cs) (onto_first c (pieces 9 cs)))
pieces_encoded_at true c cs tab behind =
    let nine : c ≡ 9 = grind (arith, nat_tests, tab) in
    let low : c < 128 = omega (arith, nine) in
    rw (encode_ascii c low) (ap (λ t. cond t ([] ∷ pieces 9 (encode_utf8_all cs)) (onto_first c (pieces 9 (encode_utf8_all cs)))) tab
    ∙ ap (λ ps. [] ∷ ps) behind)
pieces_encoded_at false c cs tab behind =
    let begins = begins_pieces 9 cs in
    let there : Begins (pieces 9 (encode_utf8_all cs)) = record {
      first = encode_utf8_all begins.first;
      rest = map encode_utf8_all begins.rest;
      is = behind ∙ ap (map encode_utf8_all) begins.is;
    } in
    pieces_behind 9 (encode_utf8 c) (encode_utf8_all cs) (apart_in 9 c (lit< tt) (apart_from 9 c tab)) there
    ∙ ap (λ ps. map encode_utf8_all (onto_first c ps)) (sym begins.is)

pub pieces_encoded : (cs : List ℕ) → pieces 9 (encode_utf8_all cs) ≡ map encode_utf8_all (pieces 9 cs)
pieces_encoded [] = refl
pieces_encoded (c ∷ cs) = pieces_encoded_at (c == 9) c cs refl (pieces_encoded cs)

-- what holds of each element holds of those of each piece
all_onto : (p : ℕ → Bool) (c : ℕ) (ps : List (List ℕ)) → p c ≡ true → list_all (list_all p) ps ≡ true → list_all (list_all p) (onto_first c ps) ≡ true
all_onto p c [] here there = both_true _ _ (both_true _ _ here refl) refl
all_onto p c (q ∷ qs) here there =
    both_true _ _ (both_true _ _ here (left_true (list_all p q) _ there)) (right_true (list_all p q) _ there)

all_at : (p : ℕ → Bool) (t : Bool) (c : ℕ) (ps : List (List ℕ)) → p c ≡ true → list_all (list_all p) ps ≡ true
    → list_all (list_all p) (cond t ([] ∷ ps) (onto_first c ps)) ≡ true
all_at p true c ps here there = there
all_at p false c ps here there = all_onto p c ps here there

all_pieces : (p : ℕ → Bool) (cs : List ℕ) → list_all p cs ≡ true → list_all (list_all p) (pieces 9 cs) ≡ true
all_pieces p [] all = refl
all_pieces p (c ∷ cs) all =
    all_at p (c == 9) c (pieces 9 cs) (left_true (p c) (list_all p cs) all) (all_pieces p cs (right_true (p c) (list_all p cs) all))

all_scalar : (cs : List ℕ) → all_scalars cs ≡ list_all scalar cs
all_scalar [] = refl
all_scalar (c ∷ cs) = ap (λ t. scalar c && t) (all_scalar cs)

clean_encoded : (css : List (List ℕ)) → list_all (list_all scalar) css ≡ true → list_all (list_all is_xml_char) css ≡ true
    → AllClean (map encode_utf8_all css)
clean_encoded [] scalars xml = tt
clean_encoded (cs ∷ css) scalars xml = (
  record {
    letters = cs;
    scalar = all_scalar cs ∙ left_true (list_all scalar cs) _ scalars;
    xml = left_true (list_all is_xml_char cs) _ xml;
    is = refl;
  },
  clean_encoded css (right_true (list_all scalar cs) _ scalars) (right_true (list_all is_xml_char cs) _ xml),
)

pub clean_fields : (line : List ℕ) → Clean line → AllClean (fields_of line)
clean_fields line clean =
    subst AllClean (sym (pieces_encoded clean.letters) ∙ ap (pieces 9) clean.is)
    (clean_encoded (pieces 9 clean.letters) (all_pieces scalar clean.letters (sym (all_scalar clean.letters) ∙ clean.scalar))
    (all_pieces is_xml_char clean.letters clean.xml))

pub clean_utf8 : (text : List ℕ) → Clean text → is_utf8 text ≡ true
clean_utf8 text clean = is_utf8-from_IsUtf8 text (clean.letters, (clean.scalar, clean.is))

pub clean_text : (text : List ℕ) → Clean text → is_xml_text text ≡ true
clean_text text clean =
    let letters : chars text ≡ clean.letters = ap chars (sym clean.is) ∙ chars-encodes clean.letters clean.scalar in
    ap (list_all is_xml_char) letters ∙ clean.xml

-- how many bytes the pieces have together
abbrev pub total : List (List ℕ) → ℕ
total [] = 0
total (piece ∷ pieces) = length piece + total pieces

-- a separator stands between two pieces
counted_at : (t : Bool) (byte : ℕ) (ps : List (List ℕ)) → Begins ps
    → total (cond t ([] ∷ ps) (onto_first byte ps)) + length (cond t ([] ∷ ps) (onto_first byte ps)) ≤ 1 + (total ps + length ps)
counted_at true byte ps begins = omega arith
counted_at false byte [] begins = let none : [] ≡ begins.first ∷ begins.rest = begins.is in cc
counted_at false byte (p ∷ ps) begins = omega arith

pub total_pieces : (separator : ℕ) (bytes : List ℕ) → total (pieces separator bytes) + length (pieces separator bytes) ≤ length bytes + 1
total_pieces separator [] = omega arith
total_pieces separator (byte ∷ bytes) =
    omega (arith, counted_at (byte == separator) byte (pieces separator bytes) (begins_pieces separator bytes), total_pieces separator bytes)

pub sum_total : (fields : List (List ℕ)) → sum_by length fields ≡ total fields
sum_total [] = refl
sum_total (field ∷ fields) = sum_by-cons length field fields ∙ ap (λ n. length field + n) (sum_total fields)
