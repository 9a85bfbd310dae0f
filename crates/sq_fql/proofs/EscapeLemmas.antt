-- How a string is read with its escapes, one character after another.
use Rattle.std.proofs.Common.{◌≡◌, ℕ, ◌==◌, ◌+◌, ◌≤◌, ◌||◌, Bool, true, false, cond, List, [], ◌∷◌, ◌++◌, append_assoc, append-nil, length-append, refl, ap, sym, ◌∙◌, length, arith, encode_utf8, encode_utf8_all, chars, IsUtf8, Option, Some, None, is_some}
use Rattle.std.proofs.lemmas.Str.{chars_past_char, chars-nil}
use Rattle.std.proofs.lemmas.Bool.Decides.{nat_tests}
use Rattle.sq_fql.specs.Read.{meant, unescaped}

-- the text so far, and then that of the characters that are left
abbrev pub rest_of : List ℕ → Bool → List ℕ → List ℕ
rest_of front is_escape rest = front ++ encode_utf8_all (unescaped is_escape rest)

-- a backslash counts as a byte of the text so far
abbrev pub pending : Bool → ℕ
pending b = cond b 1 0

pub all_encoded-append : (xs ys : List ℕ) → encode_utf8_all (xs ++ ys) ≡ encode_utf8_all xs ++ encode_utf8_all ys
all_encoded-append [] ys = refl
all_encoded-append (x ∷ xs) ys = ap (λ l. encode_utf8 x ++ l) (all_encoded-append xs ys) ∙ sym (append_assoc (encode_utf8 x) (encode_utf8_all xs) (encode_utf8_all ys))

pub one : length (encode_utf8 92) ≡ 1
unfolding lib.Utf8.encode
one = refl

meant_length_by : (b : Bool) (c : ℕ) → length (encode_utf8_all (cond b (c ∷ []) (92 ∷ c ∷ []))) ≤ 1 + length (encode_utf8 c)
meant_length_by true c = omega (arith, length-append (encode_utf8 c) [])
meant_length_by false c = omega (arith, one, length-append (encode_utf8 92) (encode_utf8 c ++ []), length-append (encode_utf8 c) [])

pub meant_length : (c : ℕ) → length (encode_utf8_all (meant c)) ≤ 1 + length (encode_utf8 c)
meant_length c = meant_length_by (c == 34 || c == 92) c

-- The characters of `bytes` are left, of which c is the first, and those of `rest` behind it.
module _ (front bytes rest : List ℕ) (c : ℕ) (whole : List ℕ) (utf8 : IsUtf8 bytes) (cut : bytes ≡ encode_utf8 c ++ rest) where
  first : chars bytes ≡ c ∷ chars rest
  first = chars_past_char bytes rest c utf8 cut

  size : length bytes ≡ length (encode_utf8 c) + length rest
  size = ap length cut ∙ length-append (encode_utf8 c) rest

  pub step-meant : (is_escape : Bool) → is_escape ≡ true → rest_of front is_escape (chars bytes) ≡ whole → rest_of (front ++ encode_utf8_all (meant c)) false (chars rest) ≡ whole
  step-meant true is kept =
      append_assoc front (encode_utf8_all (meant c)) (encode_utf8_all (unescaped false (chars rest)))
      ∙ (ap (λ l. front ++ l) (sym (all_encoded-append (meant c) (unescaped false (chars rest)))) ∙ (rw first at kept))
  step-meant false is kept = cc

  pub short-meant : (n : ℕ) (is_escape : Bool) → is_escape ≡ true → length front + pending is_escape + length bytes ≤ n
      → length (front ++ encode_utf8_all (meant c)) + pending false + length rest ≤ n
  short-meant n true is kept = simp (length-append) (omega (arith, meant_length c, size))
  short-meant n false is kept = cc

  pub step-backslash : (is_escape : Bool) → is_escape ≡ false → c ≡ 92 → rest_of front is_escape (chars bytes) ≡ whole → rest_of front true (chars rest) ≡ whole
  step-backslash false is e kept = let test : (c == 92) ≡ true = grind (arith, nat_tests, e) in rw test at (rw first at kept)
  step-backslash true is e kept = cc

  pub short-backslash : (n : ℕ) (is_escape : Bool) → is_escape ≡ false → c ≡ 92 → length front + pending is_escape + length bytes ≤ n → length front + pending true + length rest ≤ n
  short-backslash n false is e kept = let single : length (encode_utf8 c) ≡ 1 = ap (λ d. length (encode_utf8 d)) e ∙ one in omega (arith, single, size)
  short-backslash n true is e kept = cc

  pub step-plain : (is_escape : Bool) → is_escape ≡ false → (c ≡ 92 → ⊥) → rest_of front is_escape (chars bytes) ≡ whole → rest_of (front ++ encode_utf8 c) is_escape (chars rest) ≡ whole
  step-plain false is e kept =
      let test : (c == 92) ≡ false = grind (arith, nat_tests, e) in
      append_assoc front (encode_utf8 c) (encode_utf8_all (unescaped false (chars rest))) ∙ (rw test at (rw first at kept))
  step-plain true is e kept = cc

  pub short-plain : (n : ℕ) (is_escape : Bool) → length front + pending is_escape + length bytes ≤ n → length (front ++ encode_utf8 c) + pending is_escape + length rest ≤ n
  short-plain n is_escape kept = simp (length-append) (omega (arith, size))

-- no character is left
pub end-escape : (front rest : List ℕ) (is_escape : Bool) (whole : List ℕ) → length rest ≡ 0 → is_escape ≡ true → rest_of front is_escape (chars rest) ≡ whole → front ++ encode_utf8 92 ≡ whole
end-escape front [] true whole none is kept = ap (λ l. front ++ l) (sym (append-nil (encode_utf8 92))) ∙ (rw chars-nil at kept)
end-escape front [] false whole none is kept = cc
end-escape front (c ∷ rest) is_escape whole none is kept = absurd (omega arith)

pub end-plain : (front rest : List ℕ) (is_escape : Bool) (whole : List ℕ) → length rest ≡ 0 → is_escape ≡ false → rest_of front is_escape (chars rest) ≡ whole → front ≡ whole
end-plain front [] false whole none is kept = sym (append-nil front) ∙ (rw chars-nil at kept)
end-plain front [] true whole none is kept = cc
end-plain front (c ∷ rest) is_escape whole none is kept = absurd (omega arith)

pub no_star : (star : Option ℕ) → ((at : ℕ) → star ≡ Some at → ⊥) → is_some star ≡ false
no_star (Some at) none = absurd (none at refl)
no_star None none = refl
