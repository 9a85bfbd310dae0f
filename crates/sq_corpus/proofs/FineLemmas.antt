-- A text that is spelled with escapes is no longer than its field, and has XML characters where the field has.
use Rattle.std.proofs.Common.{◌≡◌, ℕ, ◌≤◌, Bool, true, false, cond, ◌==◌, List, [], ◌∷◌, length, length-append, refl, ap, sym, subst, ◌∙◌, arith, chars, encode_utf8, encode_utf8_all, Option, Some, None, option_map, option_and_then, lit<}
use lib.Utf8.{scalar}
use Rattle.std.specs.List.{list_all}
use Rattle.std.specs.Str.{all_scalars}
use Rattle.std.proofs.lemmas.Str.{chars-encodes, encode_ascii, length-encode, len_utf8_bounds}
use Rattle.sq_base.specs.Xml.{is_xml_char}
use Rattle.sq_corpus.specs.Escapes.{escaped, unescaped, behind_backslash, text_of}
use Rattle.sq_corpus.proofs.CleanLemmas.{Clean, both_true, left_true, right_true}

-- characters that others stand for
record Fine (spelled meant : List ℕ) : Type 0 where
  scalar : all_scalars meant ≡ true
  xml : list_all is_xml_char meant ≡ true
  short : length (encode_utf8_all meant) ≤ length (encode_utf8_all spelled)

-- a character that the escape stands for
record FineChar (c : ℕ) : Type 0 where
  scalar : scalar c ≡ true
  xml : is_xml_char c ≡ true
  short : length (encode_utf8 c) ≡ 1

fine_char_at : (one two three four : Bool) (c : ℕ)
    → cond one (Some 9) (cond two (Some 10) (cond three (Some 13) (cond four (Some 92) None))) ≡ Some c → FineChar c
unfolding is_xml_char
fine_char_at true two three four c e =
    let is : 9 ≡ c = cc in subst FineChar is (record { scalar = refl; xml = refl; short = ap length (encode_ascii 9 (lit< tt)) })
fine_char_at false true three four c e =
    let is : 10 ≡ c = cc in subst FineChar is (record { scalar = refl; xml = refl; short = ap length (encode_ascii 10 (lit< tt)) })
fine_char_at false false true four c e =
    let is : 13 ≡ c = cc in subst FineChar is (record { scalar = refl; xml = refl; short = ap length (encode_ascii 13 (lit< tt)) })
fine_char_at false false false true c e =
    let is : 92 ≡ c = cc in subst FineChar is (record { scalar = refl; xml = refl; short = ap length (encode_ascii 92 (lit< tt)) })
fine_char_at false false false false c e = cc

fine_char : (letter c : ℕ) → escaped letter ≡ Some c → FineChar c
unfolding escaped
fine_char letter c e = fine_char_at _ _ _ _ c e

some_char : (c : ℕ) → 1 ≤ length (encode_utf8 c)
some_char c = omega (arith, length-encode c, (len_utf8_bounds c).0)

-- what an option that is mapped comes from
mapped : (c : ℕ) (o : Option (List ℕ)) (meant : List ℕ) → option_map (λ text. c ∷ text) o ≡ Some meant
    → (text : List ℕ) × (o ≡ Some text) × (c ∷ text ≡ meant)
mapped c None meant e = cc
mapped c (Some text) meant e = let is : c ∷ text ≡ meant = cc in (text, refl, is)

chained : (o : Option ℕ) (rest : Option (List ℕ)) (meant : List ℕ)
    → option_and_then (λ c. option_map (λ text. c ∷ text) rest) o ≡ Some meant
    → (c : ℕ) × (o ≡ Some c) × (option_map (λ text. c ∷ text) rest ≡ Some meant)
chained None rest meant e = cc
chained (Some c) rest meant e = (c, refl, e)

-- a character more on both sides
fine_more : (c d : ℕ) (spelled meant : List ℕ) → scalar d ≡ true → is_xml_char d ≡ true → length (encode_utf8 d) ≤ length (encode_utf8 c)
    → Fine spelled meant → Fine (c ∷ spelled) (d ∷ meant)
fine_more c d spelled meant scalar xml short fine = record {
  scalar = both_true _ _ scalar fine.scalar;
  xml = both_true _ _ xml fine.xml;
  short = rw (length-append, length-append) (omega (arith, short, fine.short));
}

-- a character more on the left
fine_longer : (c : ℕ) (spelled meant : List ℕ) → Fine spelled meant → Fine (c ∷ spelled) meant
fine_longer c spelled meant fine = record {
  scalar = fine.scalar;
  xml = fine.xml;
  short = rw length-append (omega (arith, fine.short));
}

abbrev FineBoth : List ℕ → Type 0
FineBoth cs = ((meant : List ℕ) → unescaped cs ≡ Some meant → Fine cs meant) × ((meant : List ℕ) → behind_backslash cs ≡ Some meant → Fine cs meant)

plain_fine : (t : Bool) (c : ℕ) (cs meant : List ℕ) → scalar c ≡ true → is_xml_char c ≡ true → FineBoth cs
    → cond t (behind_backslash cs) (option_map (λ text. c ∷ text) (unescaped cs)) ≡ Some meant → Fine (c ∷ cs) meant
plain_fine true c cs meant scalar xml both e = fine_longer c cs meant (both.1 meant e)
plain_fine false c cs meant scalar xml both e =
    let from = mapped c (unescaped cs) meant e in
    subst (Fine (c ∷ cs)) from.2 (fine_more c c cs from.0 scalar xml (omega arith) (both.0 from.0 from.1))

escape_fine : (letter : ℕ) (cs meant : List ℕ) → FineBoth cs → behind_backslash (letter ∷ cs) ≡ Some meant → Fine (letter ∷ cs) meant
escape_fine letter cs meant both e =
    let chain = chained (escaped letter) (unescaped cs) meant e in
    let from = mapped chain.0 (unescaped cs) meant chain.2 in
    let fine = fine_char letter chain.0 chain.1 in
    subst (Fine (letter ∷ cs)) from.2
    (fine_more letter chain.0 cs from.0 fine.scalar fine.xml (omega (arith, fine.short, some_char letter)) (both.0 from.0 from.1))

fine : (cs : List ℕ) → all_scalars cs ≡ true → list_all is_xml_char cs ≡ true → FineBoth cs
fine [] scalars xml = (
  (λ meant e. let is : [] ≡ meant = cc in subst (Fine []) is (record { scalar = refl; xml = refl; short = omega arith })),
  (λ meant e. cc),
)
fine (c ∷ cs) scalars xml =
    let both = fine cs (right_true (scalar c) _ scalars) (right_true (is_xml_char c) _ xml) in (
      (λ meant e. plain_fine (c == 92) c cs meant (left_true (scalar c) _ scalars) (left_true (is_xml_char c) _ xml) both e),
      (λ meant e. escape_fine c cs meant both e),
    )

text_from : (o : Option (List ℕ)) (text : List ℕ) → option_map encode_utf8_all o ≡ Some text → (meant : List ℕ) × (o ≡ Some meant) × (encode_utf8_all meant ≡ text)
text_from None text e = cc
text_from (Some meant) text e = let is : encode_utf8_all meant ≡ text = cc in (meant, refl, is)

pub record FineText (field text : List ℕ) : Type 0 where
  pub clean : Clean text
  pub short : length text ≤ length field

pub fine_text : (field text : List ℕ) → Clean field → text_of field ≡ Some text → FineText field text
fine_text field text clean e =
    let letters : chars field ≡ clean.letters = ap chars (sym clean.is) ∙ chars-encodes clean.letters clean.scalar in
    let from = text_from (unescaped (chars field)) text e in
    let meant = (fine clean.letters clean.scalar clean.xml).0 from.0 (sym (ap unescaped letters) ∙ from.1) in
    record {
      clean = record { letters = from.0; scalar = meant.scalar; xml = meant.xml; is = from.2 };
      short = omega (arith, meant.short, ap length from.2, ap length clean.is);
    }
