-- The lexemes of a text, piece after piece.
use Rattle.std.proofs.Common.{◌≡◌, ℕ, zero, suc, ◌+◌, ◌-◌, ◌<◌, ◌≤◌, ◌==◌, ◌&&◌, not, nat_lt, Bool, true, false, cond, List, [], ◌∷◌, ◌++◌, length, drop, get_or, slice_index, slice_range, Some, None, Ok, refl, sym, ◌∙◌, ap, arith}
use Rattle.std.proofs.lemmas.List.{drop-drop, drop_at, take_at, length-drop, get_or-drop}
use Rattle.std.proofs.lemmas.Bool.Decides.{nat_tests}
use Rattle.std.specs.Char.{is_ascii_alphabetic, is_ascii_digit}
use Rattle.std.specs.List.{list_all, prefix_len}
use Rattle.sq_lex.specs.declared.class.Class.{Class}
use Rattle.sq_lex.specs.declared.class.Class.TheVariants as class
use Rattle.sq_lex.specs.declared.fql_lexeme.FKind.{FKind}
use Rattle.sq_lex.specs.declared.fql_lexeme.FKind.TheVariants as kind
use Rattle.sq_lex.specs.declared.fql_lexeme.FLexeme.{FLexeme}
use Rattle.sq_lex.specs.Bytes.{TextBytes, past, is_in, is_blank}
use Rattle.sq_lex.specs.Fql.{lexeme, mark, word_class, lexeme_at, fql_lexemes_from}
use Rattle.sq_fql.specs.WellFormed.{IsName}

-- ---- what is left of a text from a place on

pub rest_behind : (z p r : TextBytes) (at : ℕ) → drop at z ≡ p ++ r → drop (at + length p) z ≡ r
rest_behind z p r at e = sym (drop-drop (length p) at z) ∙ (ap (drop (length p)) e ∙ drop_at p r (length p) refl)

pub rest_behind_one : (z r : TextBytes) (b at : ℕ) → drop at z ≡ b ∷ r → drop (at + 1) z ≡ r
rest_behind_one z r b at e = rest_behind z (b ∷ []) r at e

module _ (z r : TextBytes) (b at : ℕ) (e : drop at z ≡ b ∷ r) where
  pub within : at < length z
  within = let size : length (b ∷ r) ≡ length z - at = sym (ap length e) ∙ length-drop at z in omega (arith, size)

  pub byte_there : slice_index z at ≡ b
  byte_there = let none : at + 0 ≡ at = omega arith in ap (λ n. get_or z n 0) (sym none) ∙ (sym (get_or-drop at z 0 0) ∙ ap (λ l. get_or l 0 0) e)

  pub not_past : is_blank b ≡ false → past class.Blank z at ≡ at
  unfolding past
  not_past solid = let none : at + 0 ≡ at = omega arith in rw (e, solid) none

-- the part of a text that is a piece
pub part_there : (z p r : TextBytes) (at : ℕ) → drop at z ≡ p ++ r → slice_range z at (at + length p) ≡ p
part_there z p r at e = let size : at + length p - at ≡ length p = omega arith in rw (size, e) (take_at p r (length p) refl)

-- ---- the lexemes from a place on

-- the lexemes from a place on, with turns enough
abbrev pub Lexes : TextBytes → ℕ → List FLexeme → Type 0
Lexes z at xs = (turns : ℕ) → length z ≤ turns + at → fql_lexemes_from turns z (past class.Blank z at) ≡ Ok xs

pub lexes_end : (z : TextBytes) (at : ℕ) → drop at z ≡ [] → Lexes z at []
unfolding fql_lexemes_from past
lexes_end z at e zero enough = refl
lexes_end z at e (suc turns) enough =
    let size : 0 ≡ length z - at = sym (ap length e) ∙ length-drop at z in
    let none : at + 0 ≡ at = omega arith in
    let test : nat_lt at (length z) ≡ false = grind (arith, nat_tests, size) in
    rw (e, none, test) refl

pub lexes_on : (z r : TextBytes) (b at : ℕ) (x : FLexeme) (xs : List FLexeme) → drop at z ≡ b ∷ r → is_blank b ≡ false → lexeme_at z at ≡ Ok x → at < x.to → Lexes z x.to xs → Lexes z at (x ∷ xs)
unfolding fql_lexemes_from
lexes_on z r b at x xs e solid is moves more zero enough = absurd (omega (arith, within z r b at e))
lexes_on z r b at x xs e solid is moves more (suc turns) enough =
    let inside = within z r b at e in
    let test : nat_lt at (length z) ≡ true = grind (arith, nat_tests, inside) in
    rw (not_past z r b at e solid, test, is, more turns (omega arith)) refl

-- ---- marks

mark_there : (z r : TextBytes) (b at : ℕ) (k : FKind) → drop at z ≡ b ∷ r → mark b ≡ Some k → (b == 34) ≡ false → lexeme_at z at ≡ Ok (lexeme k at (at + 1))
unfolding lexeme_at
mark_there z r b at k e is plain = rw (byte_there z r b at e, plain, is) refl

pub mark_lexes : (z r : TextBytes) (b at : ℕ) (k : FKind) (xs : List FLexeme) → drop at z ≡ b ∷ r → mark b ≡ Some k → (b == 34) ≡ false → is_blank b ≡ false
    → Lexes z (at + 1) xs → Lexes z at (lexeme k at (at + 1) ∷ xs)
mark_lexes z r b at k xs e is plain solid more = lexes_on z r b at (lexeme k at (at + 1)) xs e solid (mark_there z r b at k e is plain) (omega arith) more

-- ---- words

abbrev pub stops : (ℕ → Bool) → TextBytes → Bool
stops p [] = true
stops p (b ∷ r) = not (p b)

stop_here : (t : Bool) (n : ℕ) → not t ≡ true → cond t n 0 ≡ 0
stop_here true n h = cc
stop_here false n h = refl

pub both_left : (x y : Bool) → (x && y) ≡ true → x ≡ true
both_left true y h = refl
both_left false y h = cc

pub both_right : (x y : Bool) → (x && y) ≡ true → y ≡ true
both_right true y h = h
both_right false y h = cc

prefix_whole : (p : ℕ → Bool) (w r : TextBytes) → list_all p w ≡ true → stops p r ≡ true → prefix_len p (w ++ r) ≡ length w
prefix_whole p [] [] all stop = refl
prefix_whole p [] (b ∷ r) all stop = stop_here (p b) (1 + prefix_len p r) stop
prefix_whole p (b ∷ w) r all stop =
    let first : p b ≡ true = both_left (p b) (list_all p w) all in
    let others : prefix_len p (w ++ r) ≡ length w = prefix_whole p w r (both_right (p b) (list_all p w) all) stop in
    rw (first, others) (omega arith)

module _ (z w r : TextBytes) (b at : ℕ) (c : Class) (e : drop at z ≡ b ∷ w ++ r) (is : word_class b ≡ c) (all : list_all (is_in c) (b ∷ w) ≡ true)
    (stop : stops (is_in c) r ≡ true) (none : mark b ≡ None) (plain : (b == 34) ≡ false) where
  word_to : past (word_class (slice_index z at)) z at ≡ at + length (b ∷ w)
  unfolding past
  word_to =
      let size : prefix_len (is_in c) (b ∷ w ++ r) ≡ length (b ∷ w) = prefix_whole (is_in c) (b ∷ w) r all stop in
      rw (byte_there z (w ++ r) b at e, is, e, size) refl

  word_there : lexeme_at z at ≡ Ok (lexeme kind.Word at (at + length (b ∷ w)))
  unfolding lexeme_at
  word_there = rw (byte_there z (w ++ r) b at e, plain, none) (ap (λ to. Ok (lexeme kind.Word at to)) word_to)

  pub word_lexes : (xs : List FLexeme) → is_blank b ≡ false → Lexes z (at + length (b ∷ w)) xs → Lexes z at (lexeme kind.Word at (at + length (b ∷ w)) ∷ xs)
  word_lexes xs solid more = lexes_on z (w ++ r) b at (lexeme kind.Word at (at + length (b ∷ w))) xs e solid word_there (omega arith) more

module _ (b : ℕ) (letter : is_ascii_alphabetic b ≡ true) where
  letter_mark : mark b ≡ None
  letter_mark =
      let a : (b == 40) ≡ false = grind (arith, nat_tests) in
      let c : (b == 41) ≡ false = grind (arith, nat_tests) in
      let d : (b == 44) ≡ false = grind (arith, nat_tests) in
      let f : (b == 61) ≡ false = grind (arith, nat_tests) in
      let g : (b == 58) ≡ false = grind (arith, nat_tests) in
      rw (a, c, d, f, g) refl

  letter_plain : (b == 34) ≡ false
  letter_plain = grind (arith, nat_tests)

  letter_solid : is_blank b ≡ false
  letter_solid =
      let a : (b == 9) ≡ false = grind (arith, nat_tests) in
      let c : (b == 10) ≡ false = grind (arith, nat_tests) in
      let d : (b == 13) ≡ false = grind (arith, nat_tests) in
      let f : (b == 32) ≡ false = grind (arith, nat_tests) in
      rw (a, c, d, f) refl

  letter_class : word_class b ≡ class.Term
  letter_class =
      let a : is_ascii_digit b ≡ false = grind (arith, nat_tests) in
      let c : (b == 45) ≡ false = grind (arith, nat_tests) in
      rw (a, c) refl

module _ (b : ℕ) (digit : is_ascii_digit b ≡ true) where
  digit_mark : mark b ≡ None
  digit_mark =
      let a : (b == 40) ≡ false = grind (arith, nat_tests) in
      let c : (b == 41) ≡ false = grind (arith, nat_tests) in
      let d : (b == 44) ≡ false = grind (arith, nat_tests) in
      let f : (b == 61) ≡ false = grind (arith, nat_tests) in
      let g : (b == 58) ≡ false = grind (arith, nat_tests) in
      rw (a, c, d, f, g) refl

  digit_plain : (b == 34) ≡ false
  digit_plain = grind (arith, nat_tests)

  digit_solid : is_blank b ≡ false
  digit_solid =
      let a : (b == 9) ≡ false = grind (arith, nat_tests) in
      let c : (b == 10) ≡ false = grind (arith, nat_tests) in
      let d : (b == 13) ≡ false = grind (arith, nat_tests) in
      let f : (b == 32) ≡ false = grind (arith, nat_tests) in
      rw (a, c, d, f) refl

  digit_class : word_class b ≡ class.Parameter
  digit_class = rw digit refl

  digit_within : is_in class.Parameter b ≡ true
  digit_within =
      let a : (b == 40) ≡ false = grind (arith, nat_tests) in
      let c : (b == 41) ≡ false = grind (arith, nat_tests) in
      let d : (b == 44) ≡ false = grind (arith, nat_tests) in
      let f : (b == 61) ≡ false = grind (arith, nat_tests) in
      rw (digit_solid, digit_plain, a, c, d, f) refl

digits_within : (ds : TextBytes) → list_all is_ascii_digit ds ≡ true → list_all (is_in class.Parameter) ds ≡ true
digits_within [] all = refl
digits_within (b ∷ ds) all = rw (digit_within b (both_left (is_ascii_digit b) (list_all is_ascii_digit ds) all), digits_within ds (both_right (is_ascii_digit b) (list_all is_ascii_digit ds) all)) refl

-- one word that begins with a letter
pub name_lexes : (z name r : TextBytes) (at : ℕ) (xs : List FLexeme) → IsName name → drop at z ≡ name ++ r → stops (is_in class.Term) r ≡ true
    → Lexes z (at + length name) xs → Lexes z at (lexeme kind.Word at (at + length name) ∷ xs)
name_lexes z [] r at xs n e stop more = let no = n.letter in cc
name_lexes z (b ∷ w) r at xs n e stop more =
    word_lexes z w r b at class.Term e (letter_class b n.letter) n.word stop (letter_mark b n.letter) (letter_plain b n.letter) xs (letter_solid b n.letter) more

-- digits, and digits behind `-`
pub digits_lex : (z : TextBytes) (b : ℕ) (w r : TextBytes) (at : ℕ) (xs : List FLexeme) → list_all is_ascii_digit (b ∷ w) ≡ true → drop at z ≡ b ∷ w ++ r → stops (is_in class.Parameter) r ≡ true
    → Lexes z (at + length (b ∷ w)) xs → Lexes z at (lexeme kind.Word at (at + length (b ∷ w)) ∷ xs)
digits_lex z b w r at xs all e stop more =
    let digit = both_left (is_ascii_digit b) (list_all is_ascii_digit w) all in
    word_lexes z w r b at class.Parameter e (digit_class b digit) (digits_within (b ∷ w) all) stop (digit_mark b digit) (digit_plain b digit) xs (digit_solid b digit) more

pub minus_lexes : (z w r : TextBytes) (at : ℕ) (xs : List FLexeme) → list_all is_ascii_digit w ≡ true → drop at z ≡ 45 ∷ w ++ r → stops (is_in class.Parameter) r ≡ true
    → Lexes z (at + length (45 ∷ w)) xs → Lexes z at (lexeme kind.Word at (at + length (45 ∷ w)) ∷ xs)
minus_lexes z w r at xs all e stop more = word_lexes z w r 45 at class.Parameter e refl (digits_within w all) stop refl refl xs refl more
