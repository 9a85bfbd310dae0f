-- The lexemes of a text of FQL are spelled by its bytes, with white space between.
use Rattle.std.proofs.Common.{◌≡◌, ℕ, zero, suc, ◌+◌, ◌-◌, ◌<◌, ◌≤◌, ◌==◌, nat_lt, Bool, true, false, cond, List, [], ◌∷◌, length, drop, get_or, Option, Some, None, Ok, Err, refl, sym, subst, ap, ◌∙◌, length-drop, arith}
use Rattle.std.proofs.lemmas.Bool.Decides.{nat_tests}
use Rattle.std.proofs.lemmas.List.{get_or-drop}
use Rattle.std.proofs.lemmas.List.Sums.{prefix_len-le-length, prefix_len_passes, prefix_len_stops, prefix_len-drop_yes}
use Rattle.std.specs.List.{prefix_len}
use Rattle.sq_lex.specs.declared.class.Class.{Class}
use Rattle.sq_lex.specs.declared.class.Class.TheVariants as class
use Rattle.sq_lex.specs.declared.fql_lexeme.FKind.{FKind}
use Rattle.sq_lex.specs.declared.fql_lexeme.FKind.TheVariants as kind
use Rattle.sq_lex.specs.declared.fql_lexeme.FLexeme.{FLexeme}
use Rattle.sq_lex.specs.Bytes.{TextBytes, is_blank, is_in, past}
use Rattle.sq_base.specs.Outcome.{Outcome, ◌>>=◌}
use Rattle.sq_lex.specs.Fql.{lexeme, mark, word_class, closing, string_to, string_at, mark_or_word, lexeme_at, fql_lexemes_from, fql_lexemes_of}
use Rattle.sq_lex.specs.FqlShape.{AllIn, IsSpelled, IsLexeme, AreFrom}
use Rattle.sq_lex.specs.Limits.{most_text_bytes}

-- ---- runs

module _ (c : Class) (z : TextBytes) (at : ℕ) where
  past_after : at ≤ past c z at
  unfolding past
  past_after = omega arith

  past_within : at ≤ length z → past c z at ≤ length z
  unfolding past
  past_within within = omega (arith, prefix_len-le-length (is_in c) (drop at z), length-drop at z)

  past_all : AllIn c z at (past c z at)
  unfolding past
  past_all k after before =
      let place : at + (k - at) ≡ k = omega arith in
      let passes : is_in c (get_or (drop at z) (k - at) 0) ≡ true = prefix_len_passes (is_in c) (drop at z) (k - at) 0 (omega arith) in
      ap (λ i. is_in c (get_or z i 0)) (sym place) ∙ (ap (is_in c) (sym (get_or-drop at z (k - at) 0)) ∙ passes)

  past_stops : past c z at < length z → is_in c (get_or z (past c z at) 0) ≡ false
  unfolding past
  past_stops before = ap (is_in c) (sym (get_or-drop at z (prefix_len (is_in c) (drop at z)) 0)) ∙ prefix_len_stops (is_in c) (drop at z) 0 (omega (arith, before, length-drop at z))

  past_moves : at < length z → is_in c (get_or z at 0) ≡ true → at < past c z at
  unfolding past
  past_moves within first = omega (arith, prefix_len-drop_yes (is_in c) z at 0 within first)

-- ---- one lexeme

-- the lexeme that begins at a place
record IsAt (z : TextBytes) (at : ℕ) (x : FLexeme) : Type 0 where
  from : x.from ≡ at
  lexeme : IsLexeme z x

closing_by : (quote : Bool) (at b : ℕ) (z : TextBytes) (close : ℕ) → (closing (b == 92) (at + 1) z ≡ Some close → (at + 1 ≤ close) × (close < at + 1 + length z))
    → cond quote (Some at) (closing (b == 92) (at + 1) z) ≡ Some close → (at ≤ close) × (close < at + suc (length z))
closing_by true at b z close next is = let e : at ≡ close = cc in (omega arith, omega arith)
closing_by false at b z close next is = let h = next is in (omega (arith, h.0), omega (arith, h.1))

closing_within : (escaped : Bool) (at : ℕ) (z : TextBytes) (close : ℕ) → closing escaped at z ≡ Some close → (at ≤ close) × (close < at + length z)
closing_within escaped at [] close is = absurd (cc)
closing_within true at (b ∷ z) close is = let h = closing_within false (at + 1) z close is in (omega (arith, h.0), omega (arith, h.1))
closing_within false at (b ∷ z) close is = closing_by (b == 34) at b z close (closing_within (b == 92) (at + 1) z close) is

string_sound : (z : TextBytes) (at : ℕ) (found : Option ℕ) (x : FLexeme) → closing false (at + 1) (drop (at + 1) z) ≡ found → get_or z at 0 ≡ 34 → string_to at found ≡ Ok x → IsAt z at x
string_sound z at None x is quote took = absurd (cc)
string_sound z at (Some close) x is quote took =
    let e : lexeme kind.Str at (close + 1) ≡ x = cc in
    let between = closing_within false (at + 1) (drop (at + 1) z) close is in
    let len = length-drop (at + 1) z in
    let last : close ≡ close + 1 - 1 = omega arith in
    subst (IsAt z at) e (record {
      from = refl;
      lexeme = record { some = omega (arith, between.0); within = omega (arith, between.0, between.1, len); spelled = (quote, is ∙ ap (λ n. Some n) last) };
    })

marks : Bool → Bool → Bool → Bool → Bool → Option FKind
marks a b c d e = cond a (Some kind.LeftParen) (cond b (Some kind.RightParen) (cond c (Some kind.Comma) (cond d (Some kind.EqualSign) (cond e (Some kind.Colon) None))))

no_string : (a b c d e : Bool) → marks a b c d e ≡ Some kind.Str → ⊥
unfolding marks
no_string true _ _ _ _ is = absurd (cc)
no_string false true _ _ _ is = absurd (cc)
no_string false false true _ _ is = absurd (cc)
no_string false false false true _ is = absurd (cc)
no_string false false false false true is = absurd (cc)
no_string false false false false false is = absurd (cc)

no_word : (a b c d e : Bool) → marks a b c d e ≡ Some kind.Word → ⊥
unfolding marks
no_word true _ _ _ _ is = absurd (cc)
no_word false true _ _ _ is = absurd (cc)
no_word false false true _ _ is = absurd (cc)
no_word false false false true _ is = absurd (cc)
no_word false false false false true is = absurd (cc)
no_word false false false false false is = absurd (cc)

mark_spelled : (z : TextBytes) (at : ℕ) (k : FKind) → mark (get_or z at 0) ≡ Some k → IsSpelled z k at (at + 1)
unfolding marks
mark_spelled z at kind.Str is = absurd (no_string _ _ _ _ _ is)
mark_spelled z at kind.Word is = absurd (no_word _ _ _ _ _ is)
mark_spelled z at kind.LeftParen is = (is, refl)
mark_spelled z at kind.RightParen is = (is, refl)
mark_spelled z at kind.Comma is = (is, refl)
mark_spelled z at kind.EqualSign is = (is, refl)
mark_spelled z at kind.Colon is = (is, refl)

word_first : (b : ℕ) → is_blank b ≡ false → (b == 34) ≡ false → mark b ≡ None → is_in (word_class b) b ≡ true
word_first b blank quote is = grind (arith, nat_tests)

mark_or_word_sound : (z : TextBytes) (at : ℕ) (found : Option FKind) (x : FLexeme) → at < length z → is_blank (get_or z at 0) ≡ false → (get_or z at 0 == 34) ≡ false
    → mark (get_or z at 0) ≡ found → mark_or_word found z at ≡ x → IsAt z at x
mark_or_word_sound z at (Some k) x within blank quote is took =
    subst (IsAt z at) took (record { from = refl; lexeme = record { some = omega arith; within = omega arith; spelled = mark_spelled z at k is } })
mark_or_word_sound z at None x within blank quote is took =
    let c = word_class (get_or z at 0) in
    subst (IsAt z at) took (record {
      from = refl;
      lexeme = record {
        some = past_moves c z at within (word_first (get_or z at 0) blank quote is);
        within = past_within c z at (omega arith);
        spelled = (past_all c z at, past_stops c z at);
      };
    })

lexeme_by : (quote : Bool) (z : TextBytes) (at : ℕ) (x : FLexeme) → (get_or z at 0 == 34) ≡ quote → at < length z → is_blank (get_or z at 0) ≡ false
    → cond quote (string_at z at) (Ok (mark_or_word (mark (get_or z at 0)) z at)) ≡ Ok x → IsAt z at x
unfolding string_at
lexeme_by true z at x is within blank took = string_sound z at (closing false (at + 1) (drop (at + 1) z)) x refl (grind (arith, nat_tests)) took
lexeme_by false z at x is within blank took = mark_or_word_sound z at (mark (get_or z at 0)) x within blank is refl (cc)

lexeme_sound : (z : TextBytes) (at : ℕ) (x : FLexeme) → at < length z → is_blank (get_or z at 0) ≡ false → lexeme_at z at ≡ Ok x → IsAt z at x
unfolding lexeme_at
lexeme_sound z at x within blank took = lexeme_by (get_or z at 0 == 34) z at x refl within blank took

-- ---- all lexemes

-- white space stands before a place, and none at it
record Begins (z : TextBytes) (before at : ℕ) : Type 0 where
  ordered : before ≤ at
  blank : AllIn class.Blank z before at
  stops : at < length z → is_blank (get_or z at 0) ≡ false

begins : (z : TextBytes) (at : ℕ) → Begins z at (past class.Blank z at)
begins z at = record { ordered = past_after class.Blank z at; blank = past_all class.Blank z at; stops = past_stops class.Blank z at }

none_left : (z : TextBytes) (before at : ℕ) → Begins z before at → length z ≤ at → AreFrom z before []
none_left z before at b done k after inside = b.blank k after (omega arith)

rest_of : Outcome (List FLexeme) → FLexeme → Outcome (List FLexeme)
rest_of rest x = rest >>= λ more. Ok (x ∷ more)

record Front (z : TextBytes) (turns at : ℕ) (xs : List FLexeme) : Type 0 where
  x : FLexeme
  rest : List FLexeme
  took : lexeme_at z at ≡ Ok x
  left : fql_lexemes_from turns z (past class.Blank z x.to) ≡ Ok rest
  whole : x ∷ rest ≡ xs

front_of : (z : TextBytes) (turns at : ℕ) (xs : List FLexeme) (x : FLexeme) (rest : Outcome (List FLexeme)) → lexeme_at z at ≡ Ok x
    → fql_lexemes_from turns z (past class.Blank z x.to) ≡ rest → rest_of rest x ≡ Ok xs → Front z turns at xs
unfolding rest_of
front_of z turns at xs x (Ok rest) took left is = record { x = x; rest = rest; took = took; left = left; whole = cc }
front_of z turns at xs x (Err fault) took left is = absurd (cc)

front_by : (z : TextBytes) (turns at : ℕ) (xs : List FLexeme) (front : Outcome FLexeme) → lexeme_at z at ≡ front
    → (front >>= λ x. (fql_lexemes_from turns z (past class.Blank z x.to) >>= λ rest. Ok (x ∷ rest))) ≡ Ok xs → Front z turns at xs
unfolding rest_of
front_by z turns at xs (Ok x) took is = front_of z turns at xs x (fql_lexemes_from turns z (past class.Blank z x.to)) took refl is
front_by z turns at xs (Err fault) took is = absurd (cc)

from_by : (test : Bool) (turns : ℕ) (z : TextBytes) (before at : ℕ) (xs : List FLexeme) → nat_lt at (length z) ≡ test → length z ≤ suc turns + at → Begins z before at
    → ((before at : ℕ) (xs : List FLexeme) → length z ≤ turns + at → Begins z before at → fql_lexemes_from turns z at ≡ Ok xs → AreFrom z before xs)
    → cond test (lexeme_at z at >>= λ x. (fql_lexemes_from turns z (past class.Blank z x.to) >>= λ rest. Ok (x ∷ rest))) (Ok []) ≡ Ok xs → AreFrom z before xs
from_by false turns z before at xs test enough b next is =
    let none : [] ≡ xs = cc in
    let From = λ (l : List FLexeme). AreFrom z before l in
    subst From none (none_left z before at b (grind (arith, nat_tests)))
from_by true turns z before at xs test enough b next is =
    let f = front_by z turns at xs (lexeme_at z at) refl is in
    let within : at < length z = grind (arith, nat_tests) in
    let l = lexeme_sound z at f.x within (b.stops within) f.took in
    let from = l.from in
    let some = l.lexeme.some in
    let after = past_after class.Blank z f.x.to in
    let ordered = b.ordered in
    let From = λ (l : List FLexeme). AreFrom z before l in
    subst From f.whole (
      omega arith,
      (λ k low high. b.blank k low (omega arith)),
      l.lexeme,
      next f.x.to (past class.Blank z f.x.to) f.rest (omega arith) (begins z f.x.to) f.left,
    )

from_sound : (turns : ℕ) (z : TextBytes) (before at : ℕ) (xs : List FLexeme) → length z ≤ turns + at → Begins z before at → fql_lexemes_from turns z at ≡ Ok xs → AreFrom z before xs
unfolding fql_lexemes_from
from_sound zero z before at xs enough b is =
    let none : [] ≡ xs = cc in
    let From = λ (l : List FLexeme). AreFrom z before l in
    subst From none (none_left z before at b (omega arith))
from_sound (suc turns) z before at xs enough b is = from_by (nat_lt at (length z)) turns z before at xs refl enough b (λ lower place rest. from_sound turns z lower place rest) is

sound_by : (test : Bool) (z : TextBytes) (xs : List FLexeme) (fault : Outcome (List FLexeme)) → cond test fault (fql_lexemes_from (length z) z (past class.Blank z 0)) ≡ Ok xs
    → (test ≡ true → fault ≡ Ok xs → ⊥) → AreFrom z 0 xs
sound_by true z xs fault is refuses = absurd (refuses refl is)
sound_by false z xs fault is refuses = from_sound (length z) z 0 (past class.Blank z 0) xs (omega (arith)) (begins z 0) is

pub fql_sound : (z : TextBytes) (xs : List FLexeme) → fql_lexemes_of z ≡ Ok xs → AreFrom z 0 xs
unfolding fql_lexemes_of
fql_sound z xs is = sound_by (nat_lt most_text_bytes (length z)) z xs _ is (λ long took. cc)
