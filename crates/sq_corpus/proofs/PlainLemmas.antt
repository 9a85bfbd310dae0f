-- Fields that stand in a line as they are, and the line of such fields.
use Rattle.std.proofs.Common.{◌≡◌, ℕ, ◌<◌, lit<, Bool, true, cond, ◌&&◌, ◌==◌, List, [], ◌∷◌, ◌++◌, append_assoc, append-nil, refl, ap, sym, subst, ◌∙◌, arith, chars, encode_utf8, encode_utf8_all}
use lib.Utf8.{scalar, low_scalar}
use Rattle.std.specs.List.{list_all, AllByRecursion}
use Rattle.std.specs.Str.{is_utf8, all_scalars}
use Rattle.std.proofs.lemmas.Str.{encode_ascii, encodes-append, chars-encodes, is_utf8-from_IsUtf8}
use Rattle.std.proofs.lemmas.Bool.Decides.{nat_tests}
use Rattle.std.proofs.lemmas.List.Folds.{list_all-append}
use Rattle.sq_base.specs.Xml.{is_xml_char, is_xml_text}
use Rattle.sq_corpus.specs.Pieces.{onto_first, pieces, fields_of}
use Rattle.sq_corpus.specs.Written.{line, line_end}
use Rattle.sq_corpus.proofs.CleanLemmas.{both_true, left_true, right_true, apart, apart_in, pieces_behind}
use Rattle.sq_corpus.proofs.LineLemmas.{Begins}

-- an XML character that ends no line, and one that ends no field either
abbrev pub in_line : ℕ → Bool
in_line c = is_xml_char c && apart 10 c

abbrev pub in_field : ℕ → Bool
in_field c = apart 9 c && in_line c

-- characters that pass the test, in UTF-8
pub record Spelt (test : ℕ → Bool) (text : List ℕ) : Type 0 where
  pub letters : List ℕ
  pub scalar : all_scalars letters ≡ true
  pub good : list_all test letters ≡ true
  pub is : encode_utf8_all letters ≡ text

abbrev pub Plain : List ℕ → Type 0
Plain = Spelt in_field

pub scalars_append : (cs ds : List ℕ) → all_scalars cs ≡ true → all_scalars ds ≡ true → all_scalars (cs ++ ds) ≡ true
scalars_append [] ds p q = q
scalars_append (c ∷ cs) ds p q =
    both_true _ _ (left_true (scalar c) (all_scalars cs) p) (scalars_append cs ds (right_true (scalar c) (all_scalars cs) p) q)

pub spelt_nil : (test : ℕ → Bool) → Spelt test []
spelt_nil test = record { letters = []; scalar = refl; good = refl; is = refl }

pub spelt_append : (test : ℕ → Bool) (a b : List ℕ) → Spelt test a → Spelt test b → Spelt test (a ++ b)
spelt_append test a b p q = record {
  letters = p.letters ++ q.letters;
  scalar = scalars_append p.letters q.letters p.scalar q.scalar;
  good = list_all-append test p.letters q.letters ∙ both_true _ _ p.good q.good;
  is = encodes-append p.letters q.letters ∙ ap (λ t. t ++ encode_utf8_all q.letters) p.is ∙ ap (λ t. a ++ t) q.is;
}

pub spelt_one : (test : ℕ → Bool) (c : ℕ) → c < 128 → test c ≡ true → Spelt test (c ∷ [])
spelt_one test c low good = record {
  letters = c ∷ [];
  scalar = both_true _ _ (low_scalar c (omega (arith, low))) refl;
  good = both_true _ _ good refl;
  is = append-nil (encode_utf8 c) ∙ encode_ascii c low;
}

pub spelt_cons : (test : ℕ → Bool) (c : ℕ) (rest : List ℕ) → c < 128 → test c ≡ true → Spelt test rest → Spelt test (c ∷ rest)
spelt_cons test c rest low good behind = spelt_append test (c ∷ []) rest (spelt_one test c low good) behind

all_weaker : (test other : ℕ → Bool) → ((c : ℕ) → test c ≡ true → other c ≡ true) → (cs : List ℕ) → list_all test cs ≡ true → list_all other cs ≡ true
all_weaker test other weaker [] all = refl
all_weaker test other weaker (c ∷ cs) all =
    both_true _ _ (weaker c (left_true (test c) (list_all test cs) all)) (all_weaker test other weaker cs (right_true (test c) (list_all test cs) all))

pub spelt_weaker : (test other : ℕ → Bool) (text : List ℕ) → ((c : ℕ) → test c ≡ true → other c ≡ true) → Spelt test text → Spelt other text
spelt_weaker test other text weaker p = record {
  letters = p.letters;
  scalar = p.scalar;
  good = all_weaker test other weaker p.letters p.good;
  is = p.is;
}

-- no byte is a separator where no character is
apart_letters : (separator : ℕ) (cs : List ℕ) → separator < 128 → list_all (apart separator) cs ≡ true
    → list_all (apart separator) (encode_utf8_all cs) ≡ true
apart_letters separator [] low all = refl
apart_letters separator (c ∷ cs) low all =
    list_all-append (apart separator) (encode_utf8 c) (encode_utf8_all cs)
    ∙ both_true _ _ (apart_in separator c low (left_true (apart separator c) (list_all (apart separator) cs) all))
    (apart_letters separator cs low (right_true (apart separator c) (list_all (apart separator) cs) all))

pub spelt_apart : (separator : ℕ) (test : ℕ → Bool) (text : List ℕ) → separator < 128 → ((c : ℕ) → test c ≡ true → apart separator c ≡ true)
    → Spelt test text → list_all (apart separator) text ≡ true
spelt_apart separator test text low weaker p =
    let P : List ℕ → Type 0 = λ t. list_all (apart separator) t ≡ true in
    subst P p.is (apart_letters separator p.letters low (all_weaker test (apart separator) weaker p.letters p.good))

field_in_line : (c : ℕ) → in_field c ≡ true → in_line c ≡ true
field_in_line c e = right_true (apart 9 c) (in_line c) e

field_apart : (c : ℕ) → in_field c ≡ true → apart 9 c ≡ true
field_apart c e = left_true (apart 9 c) (in_line c) e

line_apart : (c : ℕ) → in_line c ≡ true → apart 10 c ≡ true
line_apart c e = right_true (is_xml_char c) (apart 10 c) e

line_xml : (c : ℕ) → in_line c ≡ true → is_xml_char c ≡ true
line_xml c e = left_true (is_xml_char c) (apart 10 c) e

-- A piece ends at a separator.

same_true : (n : ℕ) → (n == n) ≡ true
same_true n = grind (arith, nat_tests)

pub pieces_front : (separator : ℕ) (front rest : List ℕ) → list_all (apart separator) front ≡ true
    → pieces separator (front ++ separator ∷ rest) ≡ front ∷ pieces separator rest
pieces_front separator front rest none =
    let begins : Begins (pieces separator (separator ∷ rest)) = record {
      first = [];
      rest = pieces separator rest;
      is = ap (λ t. cond t ([] ∷ pieces separator rest) (onto_first separator (pieces separator rest))) (same_true separator);
    } in
    pieces_behind separator front (separator ∷ rest) none begins ∙ ap (λ f. f ∷ pieces separator rest) (append-nil front)

pub pieces_last : (separator : ℕ) (front : List ℕ) → list_all (apart separator) front ≡ true → pieces separator front ≡ front ∷ []
pieces_last separator front none =
    let begins : Begins (pieces separator []) = record { first = []; rest = []; is = refl } in
    ap (pieces separator) (sym (append-nil front)) ∙ pieces_behind separator front [] none begins ∙ ap (λ f. f ∷ []) (append-nil front)

-- The fields of a line.

-- the fields behind the first one, each with its TAB
abbrev pub tabbed : List (List ℕ) → List ℕ
tabbed [] = []
tabbed (field ∷ fields) = 9 ∷ (field ++ tabbed fields)

abbrev pub body : List ℕ → List (List ℕ) → List ℕ
body word fields = word ++ tabbed fields

end_of : (fields : List (List ℕ)) → line_end fields ≡ tabbed fields ++ 10 ∷ []
end_of [] = refl
end_of (field ∷ fields) = ap (λ t. 9 ∷ t) (ap (λ t. field ++ t) (end_of fields) ∙ sym (append_assoc field (tabbed fields) (10 ∷ [])))

pub line_body : (word : List ℕ) (fields : List (List ℕ)) → line word fields ≡ body word fields ++ 10 ∷ []
line_body word fields = ap (λ t. word ++ t) (end_of fields) ∙ sym (append_assoc word (tabbed fields) (10 ∷ []))

pub fields_of_body : (word : List ℕ) (fields : List (List ℕ)) → Plain word → AllByRecursion Plain fields → fields_of (body word fields) ≡ word ∷ fields
fields_of_body word [] plain others =
    ap (pieces 9) (append-nil word) ∙ pieces_last 9 word (spelt_apart 9 in_field word (lit< tt) field_apart plain)
fields_of_body word (field ∷ fields) plain others =
    pieces_front 9 word (body field fields) (spelt_apart 9 in_field word (lit< tt) field_apart plain)
    ∙ ap (λ ps. word ∷ ps) (fields_of_body field fields others.0 others.1)

tab_in_line : in_line 9 ≡ true
unfolding is_xml_char apart
tab_in_line = refl

pub spelt_body : (word : List ℕ) (fields : List (List ℕ)) → Plain word → AllByRecursion Plain fields → Spelt in_line (body word fields)
spelt_body word [] plain others =
    spelt_append in_line word [] (spelt_weaker in_field in_line word field_in_line plain) (spelt_nil in_line)
spelt_body word (field ∷ fields) plain others =
    spelt_append in_line word (9 ∷ body field fields) (spelt_weaker in_field in_line word field_in_line plain)
    (spelt_cons in_line 9 (body field fields) (lit< tt) tab_in_line (spelt_body field fields others.0 others.1))

pub spelt_utf8 : (test : ℕ → Bool) (text : List ℕ) → Spelt test text → is_utf8 text ≡ true
spelt_utf8 test text p = is_utf8-from_IsUtf8 text (p.letters, (p.scalar, p.is))

pub spelt_chars : (test : ℕ → Bool) (text : List ℕ) (p : Spelt test text) → chars text ≡ p.letters
spelt_chars test text p = ap chars (sym p.is) ∙ chars-encodes p.letters p.scalar

pub line_xml_text : (text : List ℕ) → Spelt in_line text → is_xml_text text ≡ true
line_xml_text text p = ap (list_all is_xml_char) (spelt_chars in_line text p) ∙ all_weaker in_line is_xml_char line_xml p.letters p.good

pub line_ends : (text : List ℕ) → Spelt in_line text → list_all (apart 10) text ≡ true
line_ends text p = spelt_apart 10 in_line text (lit< tt) line_apart p
