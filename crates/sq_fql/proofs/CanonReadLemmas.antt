-- What the reader makes of the lexemes of printed pieces.
use Rattle.std.proofs.Common.{◌≡◌, ℕ, ◌+◌, ◌==◌, ◌||◌, Bool, true, false, if◌then◌else◌, List, [], ◌∷◌, ◌++◌, length, drop, codes, IsUtf8, None, Ok, refl, sym, ◌∙◌, ap, subst, arith}
use Rattle.std.proofs.lemmas.Bool.Decides.{nat_tests}
use Rattle.std.proofs.lemmas.Slice.Eq.{bytes_eq-Decides}
use Rattle.std.specs.Str.{bytes_eq}
use Rattle.sq_tokens.specs.Pattern.{first_bad_star}
use Rattle.sq_lex.specs.declared.class.Class.TheVariants as class
use Rattle.sq_lex.specs.declared.fql_lexeme.FKind.TheVariants as kind
use Rattle.sq_lex.specs.declared.fql_lexeme.FLexeme.{FLexeme}
use Rattle.sq_lex.specs.Bytes.{TextBytes, is_in}
use Rattle.sq_lex.specs.Fql.{lexeme}
use Rattle.sq_fql.specs.declared.look.Role.TheVariants as role
use Rattle.sq_fql.specs.Canon.{are_digits, is_number, is_bare, quoted, literal_text}
use Rattle.sq_fql.specs.Read.{next_role, role_of, wanted, piece, literal, leaf}
use Rattle.sq_fql.specs.WellFormed.{IsName}
use Rattle.sq_fql.proofs.CanonLexLemmas.{Lexes, stops, part_there, name_lexes, digits_lex, minus_lexes}
use Rattle.sq_fql.proofs.CanonStringLemmas.{string_lexes, string_content}

-- behind an operand: nothing, a comma or `)`
pub record IsEnd (r : TextBytes) (xs : List FLexeme) : Type 0 where
  pub term : stops (is_in class.Term) r ≡ true
  pub parameter : stops (is_in class.Parameter) r ≡ true
  pub role : next_role xs ≡ role.Literal

-- ---- literals

-- A literal stands at a place, and these lexemes behind it.
pub record ReadsLeaf (z : TextBytes) (at : ℕ) (text : TextBytes) (xs : List FLexeme) : Type 0 where
  pub first : FLexeme
  pub lexed : Lexes z at (first ∷ xs)
  pub begins : wanted z (first ∷ xs) ≡ Ok first
  pub role : role_of first xs ≡ role.Literal
  pub read : literal z first ≡ Ok (piece at text)
  pub leaf : leaf z first ≡ Ok (piece at text)

minus_by : (t : Bool) (z : TextBytes) (b : ℕ) (w r : TextBytes) (at : ℕ) (xs : List FLexeme) → (b == 45) ≡ t → (if t then are_digits w else are_digits (b ∷ w)) ≡ true → drop at z ≡ b ∷ w ++ r → stops (is_in class.Parameter) r ≡ true
    → Lexes z (at + length (b ∷ w)) xs → Lexes z at (lexeme kind.Word at (at + length (b ∷ w)) ∷ xs)
minus_by true z b [] r at xs is number e stop more = cc
minus_by true z b (d ∷ w) r at xs is number e stop more =
    let same : b ≡ 45 = grind (arith, nat_tests, is) in
    let there : drop at z ≡ 45 ∷ (d ∷ w) ++ r = e ∙ ap (λ c. c ∷ (d ∷ w) ++ r) same in
    minus_lexes z (d ∷ w) r at xs number there stop more
minus_by false z b w r at xs is number e stop more = digits_lex z b w r at xs number e stop more

pub number_lexes : (z text r : TextBytes) (at : ℕ) (xs : List FLexeme) → is_number text ≡ true → drop at z ≡ text ++ r → stops (is_in class.Parameter) r ≡ true
    → Lexes z (at + length text) xs → Lexes z at (lexeme kind.Word at (at + length text) ∷ xs)
number_lexes z [] r at xs number e stop more = cc
number_lexes z (b ∷ w) r at xs number e stop more = minus_by (b == 45) z b w r at xs refl number e stop more

least_name : IsName (codes "min")
least_name = record { letter = refl; word = refl }

most_name : IsName (codes "max")
most_name = record { letter = refl; word = refl }

-- what is written without quotes is one word
bare_by : (a b c : Bool) (z text r : TextBytes) (at : ℕ) (xs : List FLexeme) → is_number text ≡ a → bytes_eq text (codes "min") ≡ b → bytes_eq text (codes "max") ≡ c → (a || b || c) ≡ true
    → drop at z ≡ text ++ r → IsEnd r xs → Lexes z (at + length text) xs → Lexes z at (lexeme kind.Word at (at + length text) ∷ xs)
bare_by true b c z text r at xs f g h some e end more = number_lexes z text r at xs f e end.parameter more
bare_by false true c z text r at xs f g h some e end more =
    let same : text ≡ codes "min" = (bytes_eq-Decides text (codes "min")).0 g in
    name_lexes z text r at xs (subst IsName (sym same) least_name) e end.term more
bare_by false false true z text r at xs f g h some e end more =
    let same : text ≡ codes "max" = (bytes_eq-Decides text (codes "max")).0 h in
    name_lexes z text r at xs (subst IsName (sym same) most_name) e end.term more
bare_by false false false z text r at xs f g h some e end more = cc

star_by : (t : Bool) (text : TextBytes) → bytes_eq text (codes "*") ≡ t → is_bare text ≡ true → t ≡ false
star_by true text is bare = let bad : is_bare (codes "*") ≡ true = subst (λ w. is_bare w ≡ true) ((bytes_eq-Decides text (codes "*")).0 is) bare in absurd cc
star_by false text is bare = refl

not_star : (text : TextBytes) → is_bare text ≡ true → bytes_eq text (codes "*") ≡ false
not_star text bare = star_by (bytes_eq text (codes "*")) text refl bare

module _ (z r text : TextBytes) (at : ℕ) (xs : List FLexeme) (end : IsEnd r xs) (star : first_bad_star text ≡ None) where
  module _ (utf8 : IsUtf8 text) (e : drop at z ≡ quoted text ++ r) where
    string_read : literal z (lexeme kind.Str at (at + length (quoted text))) ≡ Ok (piece at text)
    unfolding literal
    string_read = rw (string_content z r text at e utf8, star) refl

    string_leaf : leaf z (lexeme kind.Str at (at + length (quoted text))) ≡ Ok (piece at text)
    unfolding leaf
    string_leaf = string_read

    string_reads : Lexes z (at + length (quoted text)) xs → ReadsLeaf z at text xs
    string_reads more = record {
      first = lexeme kind.Str at (at + length (quoted text));
      lexed = string_lexes z r text at e xs more;
      begins = refl;
      role = refl;
      read = string_read;
      leaf = string_leaf;
    }

  module _ (bare : is_bare text ≡ true) (e : drop at z ≡ text ++ r) where
    word_read : literal z (lexeme kind.Word at (at + length text)) ≡ Ok (piece at text)
    unfolding literal
    word_read = rw (part_there z text r at e, star) refl

    word_leaf : leaf z (lexeme kind.Word at (at + length text)) ≡ Ok (piece at text)
    unfolding leaf
    word_leaf = rw (part_there z text r at e, not_star text bare) word_read

    word_reads : Lexes z (at + length text) xs → ReadsLeaf z at text xs
    word_reads more = record {
      first = lexeme kind.Word at (at + length text);
      lexed = bare_by (is_number text) (bytes_eq text (codes "min")) (bytes_eq text (codes "max")) z text r at xs refl refl refl bare e end more;
      begins = refl;
      role = end.role;
      read = word_read;
      leaf = word_leaf;
    }

  literal_by : (t : Bool) → is_bare text ≡ t → IsUtf8 text → drop at z ≡ (if t then text else quoted text) ++ r → Lexes z (at + length (if t then text else quoted text)) xs → ReadsLeaf z at text xs
  literal_by true is utf8 e more = word_reads is e more
  literal_by false is utf8 e more = string_reads utf8 e more

  pub literal_reads : IsUtf8 text → drop at z ≡ literal_text text ++ r → Lexes z (at + length (literal_text text)) xs → ReadsLeaf z at text xs
  literal_reads utf8 e more = literal_by (is_bare text) refl utf8 e more
