-- Printed strings are read as their texts.
use Rattle.std.proofs.Common.{◌≡◌, ℕ, ◌+◌, ◌-◌, ◌<◌, ◌≤◌, ◌/◌, ◌%◌, ◌==◌, ◌||◌, nat_le, nat_lt, Bool, true, false, cond, List, [], ◌∷◌, ◌++◌, length, drop, flat_map, slice_range, chars, encode_utf8, encode_utf8_all, IsUtf8, Some, Ok, refl, sym, ◌∙◌, ap, subst, arith, append_assoc, append-nil, length-append, inl, inr}
use Rattle.std.proofs.lemmas.Bool.Decides.{nat_tests, eqb_tells}
use Rattle.std.proofs.lemmas.Str.{chars-encodes, encodes-append, encodes-chars, scalars-chars, encode_ascii}
use Rattle.std.specs.List.{list_all}
use lib.Utf8.{scalar, scalars}
use Rattle.sq_lex.specs.declared.fql_lexeme.FKind.TheVariants as kind
use Rattle.sq_lex.specs.declared.fql_lexeme.FLexeme.{FLexeme}
use Rattle.sq_lex.specs.Bytes.{TextBytes}
use Rattle.sq_lex.specs.Fql.{lexeme, closing, string_at, lexeme_at}
use Rattle.sq_fql.specs.Canon.{escaped, quoted}
use Rattle.sq_fql.specs.Read.{unescaped, content}
use Rattle.sq_fql.proofs.CanonLexLemmas.{Lexes, lexes_on, rest_behind_one, byte_there, part_there, both_left, both_right}

-- ---- the end of a string

abbrev is_high : ℕ → Bool
is_high b = nat_le 128 b

pass_high : (at : ℕ) (bs rest : TextBytes) → list_all is_high bs ≡ true → closing false at (bs ++ rest) ≡ closing false (at + length bs) rest
pass_high at [] rest all = let none : at ≡ at + 0 = omega arith in ap (λ n. closing false n rest) none
pass_high at (b ∷ bs) rest all =
    let high = both_left (is_high b) (list_all is_high bs) all in
    let quote : (b == 34) ≡ false = grind (arith, nat_tests, high) in
    let slash : (b == 92) ≡ false = grind (arith, nat_tests, high) in
    let place : at + 1 + length bs ≡ at + length (b ∷ bs) = omega arith in
    rw (quote, slash) (pass_high (at + 1) bs rest (both_right (is_high b) (list_all is_high bs) all) ∙ ap (λ n. closing false n rest) place)

one_high : (x : ℕ) (xs : TextBytes) → 128 ≤ x → list_all is_high xs ≡ true → list_all is_high (x ∷ xs) ≡ true
one_high x xs high others = let test : nat_le 128 x ≡ true = grind (arith, nat_tests) in rw (test, others) refl

high_by : (s t : Bool) (a b c : TextBytes) → list_all is_high a ≡ true → list_all is_high b ≡ true → list_all is_high c ≡ true → list_all is_high (cond s a (cond t b c)) ≡ true
high_by true t a b c f g h = f
high_by false true a b c f g h = g
high_by false false a b c f g h = h

high_two : (a b : ℕ) → 128 ≤ a → 128 ≤ b → list_all is_high (a ∷ b ∷ []) ≡ true
high_two a b f g = one_high a (b ∷ []) f (one_high b [] g refl)

encode_high : (c : ℕ) → 128 ≤ c → list_all is_high (encode_utf8 c) ≡ true
unfolding lib.Utf8.encode
encode_high c high =
    let test : nat_lt c 128 ≡ false = grind (arith, nat_tests) in
    let last : 128 ≤ 128 + c % 64 = omega arith in
    let middle : 128 ≤ 128 + c / 64 % 64 = omega arith in
    let upper : 128 ≤ 128 + c / 4096 % 64 = omega arith in
    let a : 128 ≤ 192 + c / 64 = omega arith in
    let b : 128 ≤ 224 + c / 4096 = omega arith in
    let d : 128 ≤ 240 + c / 262144 = omega arith in
    rw test (high_by (nat_lt c 2048) (nat_lt c 65536) ((192 + c / 64) ∷ (128 + c % 64) ∷ []) ((224 + c / 4096) ∷ (128 + c / 64 % 64) ∷ (128 + c % 64) ∷ [])
    ((240 + c / 262144) ∷ (128 + c / 4096 % 64) ∷ (128 + c / 64 % 64) ∷ (128 + c % 64) ∷ [])
    (high_two (192 + c / 64) (128 + c % 64) a last)
    (one_high (224 + c / 4096) ((128 + c / 64 % 64) ∷ (128 + c % 64) ∷ []) b (high_two (128 + c / 64 % 64) (128 + c % 64) middle last))
    (one_high (240 + c / 262144) ((128 + c / 4096 % 64) ∷ (128 + c / 64 % 64) ∷ (128 + c % 64) ∷ []) d
    (one_high (128 + c / 4096 % 64) ((128 + c / 64 % 64) ∷ (128 + c % 64) ∷ []) upper (high_two (128 + c / 64 % 64) (128 + c % 64) middle last))))

pass_quote : (at : ℕ) (rest : TextBytes) → closing false at (escaped 34 ++ rest) ≡ closing false (at + length (escaped 34)) rest
unfolding lib.Utf8.encode
pass_quote at rest = let place : at + 1 + 1 ≡ at + 2 = omega arith in ap (λ n. closing false n rest) place

pass_slash : (at : ℕ) (rest : TextBytes) → closing false at (escaped 92 ++ rest) ≡ closing false (at + length (escaped 92)) rest
unfolding lib.Utf8.encode
pass_slash at rest = let place : at + 1 + 1 ≡ at + 2 = omega arith in ap (λ n. closing false n rest) place

pass_low : (c at : ℕ) (rest : TextBytes) → c < 128 → (c == 34) ≡ false → (c == 92) ≡ false → closing false at (encode_utf8 c ++ rest) ≡ closing false (at + length (encode_utf8 c)) rest
pass_low c at rest low quote slash = rw (encode_ascii c low) (rw (quote, slash) refl)

pass_by : (t : Bool) (c at : ℕ) (rest : TextBytes) → nat_lt c 128 ≡ t → (c == 34) ≡ false → (c == 92) ≡ false → closing false at (encode_utf8 c ++ rest) ≡ closing false (at + length (encode_utf8 c)) rest
pass_by true c at rest is quote slash = pass_low c at rest (grind (arith, nat_tests, is)) quote slash
pass_by false c at rest is quote slash = pass_high at (encode_utf8 c) rest (encode_high c (grind (arith, nat_tests, is)))

pass_escaped : (c at : ℕ) (rest : TextBytes) → closing false at (escaped c ++ rest) ≡ closing false (at + length (escaped c)) rest
pass_escaped c at rest = elim (eqb_tells c 34) [
  | inl e ↦ subst (λ d. closing false at (escaped d ++ rest) ≡ closing false (at + length (escaped d)) rest) (sym e.1) (pass_quote at rest)
  | inr e ↦ elim (eqb_tells c 92) [
    | inl f ↦ subst (λ d. closing false at (escaped d ++ rest) ≡ closing false (at + length (escaped d)) rest) (sym f.1) (pass_slash at rest)
    | inr f ↦
        let quote : (c == 34) ≡ false = grind (arith, nat_tests) in
        let slash : (c == 92) ≡ false = grind (arith, nat_tests) in
        rw (quote, slash) (pass_by (nat_lt c 128) c at rest refl quote slash)
  ]
]

closed : (cs : List ℕ) (at : ℕ) (rest : TextBytes) → closing false at (flat_map escaped cs ++ 34 ∷ rest) ≡ Some (at + length (flat_map escaped cs))
closed [] at rest = let none : at ≡ at + 0 = omega arith in ap (λ n. Some n) none
closed (c ∷ cs) at rest =
    let place : at + length (escaped c) + length (flat_map escaped cs) ≡ at + length (escaped c ++ flat_map escaped cs) = omega (arith, length-append (escaped c) (flat_map escaped cs)) in
    ap (λ l. closing false at l) (append_assoc (escaped c) (flat_map escaped cs) (34 ∷ rest))
    ∙ (pass_escaped c at (flat_map escaped cs ++ 34 ∷ rest) ∙ (closed cs (at + length (escaped c)) rest ∙ ap (λ n. Some n) place))

-- ---- the lexeme of a string

module _ (z r text : TextBytes) (at : ℕ) (e : drop at z ≡ quoted text ++ r) where
  inside : TextBytes
  inside = flat_map escaped (chars text)

  split : drop at z ≡ 34 ∷ (flat_map escaped (chars text) ++ 34 ∷ r)
  split = e ∙ ap (λ l. 34 ∷ l) (append_assoc (flat_map escaped (chars text)) (34 ∷ []) r)

  behind_quote : drop (at + 1) z ≡ flat_map escaped (chars text) ++ 34 ∷ r
  behind_quote = rest_behind_one z (flat_map escaped (chars text) ++ 34 ∷ r) 34 at split

  place : at + 1 + length (flat_map escaped (chars text)) + 1 ≡ at + length (quoted text)
  place = omega (arith, length-append (flat_map escaped (chars text)) (34 ∷ []))

  string_there : lexeme_at z at ≡ Ok (lexeme kind.Str at (at + length (quoted text)))
  unfolding lexeme_at string_at
  string_there = rw (byte_there z (flat_map escaped (chars text) ++ 34 ∷ r) 34 at split, behind_quote, closed (chars text) (at + 1) r) (ap (λ to. Ok (lexeme kind.Str at to)) place)

  pub string_lexes : (xs : List FLexeme) → Lexes z (at + length (quoted text)) xs → Lexes z at (lexeme kind.Str at (at + length (quoted text)) ∷ xs)
  string_lexes xs more =
      lexes_on z (flat_map escaped (chars text) ++ 34 ∷ r) 34 at (lexeme kind.Str at (at + length (quoted text))) xs split refl string_there (omega (arith, place)) more

  pub inside_there : slice_range z (at + 1) (at + length (quoted text) - 1) ≡ flat_map escaped (chars text)
  inside_there =
      let last : at + length (quoted text) - 1 ≡ at + 1 + length (flat_map escaped (chars text)) = omega (arith, place) in
      rw last (part_there z (flat_map escaped (chars text)) (34 ∷ r) (at + 1) behind_quote)

-- ---- what it stands for

abbrev guarded : Bool → ℕ → List ℕ
guarded t c = cond t (92 ∷ c ∷ []) (c ∷ [])

abbrev marked : ℕ → List ℕ
marked c = guarded (c == 34 || c == 92) c

spell_by : (t : Bool) (c : ℕ) → cond t (92 ∷ encode_utf8 c) (encode_utf8 c) ≡ encode_utf8_all (guarded t c)
spell_by true c = rw (encode_ascii 92 (omega arith)) (ap (λ l. 92 ∷ l) (sym (append-nil (encode_utf8 c))))
spell_by false c = sym (append-nil (encode_utf8 c))

spelled : (cs : List ℕ) → flat_map escaped cs ≡ encode_utf8_all (flat_map marked cs)
spelled [] = refl
spelled (c ∷ cs) =
    ap (λ l. l ++ flat_map escaped cs) (spell_by (c == 34 || c == 92) c)
    ∙ (ap (λ l. encode_utf8_all (marked c) ++ l) (spelled cs) ∙ sym (encodes-append (marked c) (flat_map marked cs)))

scalar_by : (t : Bool) (c : ℕ) (rest : List ℕ) → scalar c ≡ true → scalars rest ≡ true → scalars (guarded t c ++ rest) ≡ true
scalar_by true c rest this others = rw (this, others) refl
scalar_by false c rest this others = rw (this, others) refl

all_scalar : (cs : List ℕ) → scalars cs ≡ true → scalars (flat_map marked cs) ≡ true
all_scalar [] all = refl
all_scalar (c ∷ cs) all = scalar_by (c == 34 || c == 92) c (flat_map marked cs) (both_left (scalar c) (scalars cs) all) (all_scalar cs (both_right (scalar c) (scalars cs) all))

or_right : (x y : Bool) → (x || y) ≡ false → y ≡ false
or_right true y h = cc
or_right false y h = h

unescape_by : (t : Bool) (c : ℕ) (rest : List ℕ) → (c == 34 || c == 92) ≡ t → unescaped false (guarded t c ++ rest) ≡ c ∷ unescaped false rest
unescape_by true c rest is = rw is refl
unescape_by false c rest is = let slash = or_right (c == 34) (c == 92) is in rw slash refl

read_back : (cs : List ℕ) → unescaped false (flat_map marked cs) ≡ cs
read_back [] = refl
read_back (c ∷ cs) = unescape_by (c == 34 || c == 92) c (flat_map marked cs) refl ∙ ap (λ l. c ∷ l) (read_back cs)

pub string_content : (z r text : TextBytes) (at : ℕ) → drop at z ≡ quoted text ++ r → IsUtf8 text → content z (lexeme kind.Str at (at + length (quoted text))) ≡ text
string_content z r text at e utf8 =
    let letters : chars (flat_map escaped (chars text)) ≡ flat_map marked (chars text)
    = ap chars (spelled (chars text)) ∙ chars-encodes (flat_map marked (chars text)) (all_scalar (chars text) (scalars-chars text utf8)) in
    ap (λ l. encode_utf8_all (unescaped false (chars l))) (inside_there z r text at e)
    ∙ (ap (λ l. encode_utf8_all (unescaped false l)) letters ∙ (ap encode_utf8_all (read_back (chars text)) ∙ encodes-chars text utf8))
