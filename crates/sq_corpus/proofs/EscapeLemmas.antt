-- How a text is read with its escapes, one character after another.
use Rattle.std.proofs.Common.{◌≡◌, ℕ, ◌==◌, Bool, true, false, List, [], ◌∷◌, ◌++◌, append_assoc, append-nil, refl, ap, sym, ◌∙◌, Option, Some, None, option_map, length, arith, encode_utf8, encode_utf8_all, chars, IsUtf8}
use Rattle.std.proofs.lemmas.Str.{chars_past_char, chars-nil}
use Rattle.std.proofs.lemmas.Bool.Decides.{nat_tests}
use Rattle.sq_corpus.specs.Escapes.{escaped, unescaped, behind_backslash}

-- what the characters that are left stand for, maybe behind a backslash
abbrev pub left_of : Bool → List ℕ → Option (List ℕ)
left_of false rest = unescaped rest
left_of true rest = behind_backslash rest

-- the text so far, and then that of the characters that are left
abbrev pub rest_of : List ℕ → Bool → List ℕ → Option (List ℕ)
rest_of front is_escape rest = option_map (λ text. front ++ encode_utf8_all text) (left_of is_escape rest)

-- a character goes over to the text
moved : (front : List ℕ) (c : ℕ) (text : Option (List ℕ))
    → option_map (λ t. front ++ encode_utf8_all t) (option_map (λ t. c ∷ t) text)
    ≡ option_map (λ t. (front ++ encode_utf8 c) ++ encode_utf8_all t) text
moved front c None = refl
moved front c (Some text) = ap (λ t. Some t) (sym (append_assoc front (encode_utf8 c) (encode_utf8_all text)))

-- The characters of `bytes` are left, of which c is the first, and those of `rest` behind it.
module _ (front bytes rest : List ℕ) (c : ℕ) (whole : Option (List ℕ)) (utf8 : IsUtf8 bytes) (cut : bytes ≡ encode_utf8 c ++ rest) where
  first : chars bytes ≡ c ∷ chars rest
  first = chars_past_char bytes rest c utf8 cut

  pub step-meant : (is_escape : Bool) (meant : ℕ) → is_escape ≡ true → Some meant ≡ escaped c → rest_of front is_escape (chars bytes) ≡ whole
      → rest_of (front ++ encode_utf8 meant) false (chars rest) ≡ whole
  step-meant true meant is e kept = sym (rw (← e) (moved front meant (unescaped (chars rest)))) ∙ (rw first at kept)
  step-meant false meant is e kept = cc

  pub step-bad : (is_escape : Bool) → is_escape ≡ true → None ≡ escaped c → rest_of front is_escape (chars bytes) ≡ whole → None ≡ whole
  step-bad true is e kept = rw (← e) at (rw first at kept)
  step-bad false is e kept = cc

  pub step-backslash : (is_escape : Bool) → is_escape ≡ false → c ≡ 92 → rest_of front is_escape (chars bytes) ≡ whole
      → rest_of front true (chars rest) ≡ whole
  step-backslash false is e kept =
      let test : (c == 92) ≡ true = grind (arith, nat_tests, e) in
      rw test at (rw first at kept)
  step-backslash true is e kept = cc

  pub step-plain : (is_escape : Bool) → is_escape ≡ false → (c ≡ 92 → ⊥) → rest_of front is_escape (chars bytes) ≡ whole
      → rest_of (front ++ encode_utf8 c) is_escape (chars rest) ≡ whole
  step-plain false is e kept =
      let test : (c == 92) ≡ false = grind (arith, nat_tests, e) in
      sym (moved front c (unescaped (chars rest))) ∙ (rw test at (rw first at kept))
  step-plain true is e kept = cc

-- no character is left
pub end-escape : (front rest : List ℕ) (is_escape : Bool) (whole : Option (List ℕ)) → length rest ≡ 0 → is_escape ≡ true
    → rest_of front is_escape (chars rest) ≡ whole → None ≡ whole
end-escape front [] true whole none is kept = rw chars-nil at kept
end-escape front [] false whole none is kept = cc
end-escape front (c ∷ rest) is_escape whole none is kept = absurd (omega arith)

pub end-plain : (front rest : List ℕ) (is_escape : Bool) (whole : Option (List ℕ)) → length rest ≡ 0 → is_escape ≡ false
    → rest_of front is_escape (chars rest) ≡ whole → Some front ≡ whole
end-plain front [] false whole none is kept = ap (λ t. Some t) (sym (append-nil front)) ∙ (rw chars-nil at kept)
end-plain front [] true whole none is kept = cc
end-plain front (c ∷ rest) is_escape whole none is kept = absurd (omega arith)
