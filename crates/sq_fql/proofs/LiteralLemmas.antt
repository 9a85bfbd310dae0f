-- Literals and names that were read.
use Rattle.std.proofs.Common.{◌≡◌, ℕ, suc, ◌+◌, ◌-◌, ◌≤◌, ◌<◌, ◌==◌, ◌&&◌, Bool, true, false, cond, List, [], ◌∷◌, ◌++◌, length, drop, get_or, Option, Some, None, is_some, Ok, refl, sym, subst, ap, ap₂, ◌∙◌, length-append, length-take, length-drop, arith, encode_utf8, encode_utf8_all, chars, IsUtf8}
use Rattle.std.proofs.lemmas.Bool.Decides.{nat_tests}
use Rattle.std.proofs.lemmas.List.{get_or-take, get_or-drop}
use Rattle.std.proofs.lemmas.Str.{encodes-chars, IsUtf8-between}
use Rattle.std.specs.Prelude.{slice_range}
use Rattle.std.specs.List.{list_all}
use Rattle.std.specs.Char.{is_ascii_alphabetic}
use Rattle.sq_tokens.specs.Pattern.{first_bad_star}
use Rattle.sq_lex.specs.declared.class.Class.TheVariants as class
use Rattle.sq_lex.specs.declared.fql_lexeme.FKind.{FKind}
use Rattle.sq_lex.specs.declared.fql_lexeme.FKind.TheVariants as kind
use Rattle.sq_lex.specs.declared.fql_lexeme.FLexeme.{FLexeme}
use Rattle.sq_lex.specs.Bytes.{TextBytes, is_in}
use Rattle.sq_lex.specs.Fql.{word_class}
use Rattle.sq_lex.specs.FqlShape.{IsLexeme, IsSpelled}
use Rattle.sq_lex.specs.FqlWhole.{HasInside, IsWhole}
use Rattle.sq_base.specs.Outcome.{refused}
use Rattle.sq_fql.specs.declared.codes.TheConstants.{BAD_STAR}
use Rattle.sq_fql.specs.declared.raw.FRaw.{FRaw}
use Rattle.sq_fql.specs.declared.raw.FRaw.TheVariants as tree
use Rattle.sq_fql.specs.Read.{meant, unescaped, word_text, content_of, content, has_bad_star, piece, literal, is_all, leaf}
use Rattle.sq_fql.specs.WellFormed.{IsName, HasForm}
use Rattle.sq_fql.proofs.EscapeLemmas.{pending, all_encoded-append, meant_length, one}
use Rattle.sq_fql.proofs.FormLemmas.{IsLiteral, weight}

-- ---- lengths

unescaped_by : (slash : Bool) (c : ℕ) (cs : List ℕ) → (c == 92) ≡ slash → length (encode_utf8_all (unescaped true cs)) ≤ 1 + length (encode_utf8_all cs)
    → length (encode_utf8_all (unescaped false cs)) ≤ length (encode_utf8_all cs)
    → length (encode_utf8_all (cond slash (unescaped true cs) (c ∷ unescaped false cs))) ≤ length (encode_utf8 c ++ encode_utf8_all cs)
unescaped_by true c cs is behind plain =
    let e : c ≡ 92 = grind (arith, nat_tests) in
    let single : length (encode_utf8 c) ≡ 1 = ap (λ d. length (encode_utf8 d)) e ∙ one in
    omega (arith, single, behind, length-append (encode_utf8 c) (encode_utf8_all cs))
unescaped_by false c cs is behind plain = omega (arith, plain, length-append (encode_utf8 c) (encode_utf8_all cs), length-append (encode_utf8 c) (encode_utf8_all (unescaped false cs)))

unescaped_length : (escaped : Bool) (cs : List ℕ) → length (encode_utf8_all (unescaped escaped cs)) ≤ pending escaped + length (encode_utf8_all cs)
unescaped_length false [] = omega arith
unescaped_length true [] = omega (arith, one, length-append (encode_utf8 92) [])
unescaped_length false (c ∷ cs) =
    let rest : length (encode_utf8_all (unescaped false cs)) ≤ 0 + length (encode_utf8_all cs) = unescaped_length false cs in
    let plain : length (encode_utf8_all (unescaped false cs)) ≤ length (encode_utf8_all cs) = omega arith in
    let h = unescaped_by (c == 92) c cs refl (unescaped_length true cs) plain in omega (arith, h)
unescaped_length true (c ∷ cs) =
    let h : length (encode_utf8_all (unescaped false cs)) ≤ 0 + length (encode_utf8_all cs) = unescaped_length false cs in
    let front = meant_length c in
    let both : length (encode_utf8_all (meant c ++ unescaped false cs)) ≡ length (encode_utf8_all (meant c)) + length (encode_utf8_all (unescaped false cs)) =
    ap length (all_encoded-append (meant c) (unescaped false cs)) ∙ length-append (encode_utf8_all (meant c)) (encode_utf8_all (unescaped false cs)) in
    omega (arith, both, front, h, length-append (encode_utf8 c) (encode_utf8_all cs))

range_length : (z : TextBytes) (from to : ℕ) → length (slice_range z from to) ≤ to - from
range_length z from to = simp length-take (omega arith)

-- a lexeme of a text
pub record Good (z : TextBytes) (x : FLexeme) : Type 0 where
  pub lexeme : IsLexeme z x
  pub whole : IsWhole z x

abbrev pub width : FLexeme → ℕ
width x = x.to - x.from

inside_length : (z : TextBytes) (k : FKind) (x : FLexeme) → IsUtf8 z → HasInside z x.from x.to k → x.from < x.to → length (content_of z k x) ≤ width x
inside_length z kind.Str x utf8 inside some =
    let s = slice_range z (x.from + 1) (x.to - 1) in
    let text : IsUtf8 s = IsUtf8-between z (x.from + 1) (x.to - 1) utf8 inside.ordered inside.start inside.end in
    let same : length (encode_utf8_all (chars s)) ≡ length s = ap length (encodes-chars s text) in
    omega (arith, unescaped_length false (chars s), same, range_length z (x.from + 1) (x.to - 1))
inside_length z kind.Word x utf8 inside some = range_length z x.from x.to
inside_length z kind.LeftParen x utf8 inside some = range_length z x.from x.to
inside_length z kind.RightParen x utf8 inside some = range_length z x.from x.to
inside_length z kind.Comma x utf8 inside some = range_length z x.from x.to
inside_length z kind.EqualSign x utf8 inside some = range_length z x.from x.to
inside_length z kind.Colon x utf8 inside some = range_length z x.from x.to

content_length : (z : TextBytes) (x : FLexeme) → IsUtf8 z → Good z x → length (content z x) ≤ width x
content_length z x utf8 good = inside_length z x.kind x utf8 good.whole.inside good.whole.some

-- ---- literals

no_star : (star : Option ℕ) → is_some star ≡ false → star ≡ None
no_star (Some at) none = absurd (cc)
no_star None none = refl

-- a tree of one lexeme
pub record Leaf (x : FLexeme) (t : FRaw) : Type 0 where
  pub form : HasForm t
  pub weight : weight t ≤ width x

literal_by : (star : Bool) (x : FLexeme) (text : TextBytes) (t : FRaw) → has_bad_star text ≡ star → length text ≤ width x → cond star (refused BAD_STAR x.from) (Ok (piece x.from text)) ≡ Ok t
    → Leaf x t × IsLiteral t
literal_by true x text t is short took = absurd (cc)
literal_by false x text t is short took =
    let e : piece x.from text ≡ t = cc in
    let Is = λ (u : FRaw). Leaf x u × IsLiteral u in
    subst Is e (record { form = no_star (first_bad_star text) is; weight = omega (arith, short) }, refl)

pub literal_leaf : (z : TextBytes) (x : FLexeme) (t : FRaw) → IsUtf8 z → Good z x → literal z x ≡ Ok t → Leaf x t × IsLiteral t
unfolding literal
literal_leaf z x t utf8 good took = literal_by (has_bad_star (content z x)) x (content z x) t refl (content_length z x utf8 good) took

leaf_by : (all : Bool) (z : TextBytes) (x : FLexeme) (t : FRaw) → IsUtf8 z → Good z x → cond all (Ok (tree.All x.from)) (literal z x) ≡ Ok t → Leaf x t
leaf_by true z x t utf8 good took = let e : tree.All x.from ≡ t = cc in subst (Leaf x) e (record { form = tt; weight = omega arith })
leaf_by false z x t utf8 good took = (literal_leaf z x t utf8 good took).0

pub leaf_leaf : (z : TextBytes) (x : FLexeme) (t : FRaw) → IsUtf8 z → Good z x → leaf z x ≡ Ok t → Leaf x t
unfolding leaf
leaf_leaf z x t utf8 good took = leaf_by (is_all z x) z x t utf8 good took

-- ---- names

all_at : (p : ℕ → Bool) (s : TextBytes) → ((i : ℕ) → i < length s → p (get_or s i 0) ≡ true) → list_all p s ≡ true
all_at p [] each = refl
all_at p (b ∷ s) each = ap₂ (λ x y. x && y) (each 0 (omega arith)) (all_at p s (λ i below. each (suc i) (omega arith)))

letter_class : (b : ℕ) → is_ascii_alphabetic b ≡ true → word_class b ≡ class.Term
letter_class b letter = grind (arith, nat_tests)

range_at : (z : TextBytes) (from to i : ℕ) → i < length (slice_range z from to) → get_or (slice_range z from to) i 0 ≡ get_or z (from + i) 0
range_at z from to i below = get_or-take (to - from) (drop from z) i 0 (omega (arith, range_length z from to)) ∙ get_or-drop from z i 0

word_name : (z : TextBytes) (x : FLexeme) → x.from < x.to → x.to ≤ length z → IsSpelled z kind.Word x.from x.to → is_ascii_alphabetic (get_or z x.from 0) ≡ true → IsName (word_text z x)
word_name z x some within spelled letter =
    let of = letter_class (get_or z x.from 0) letter in
    let size : length (word_text z x) ≡ x.to - x.from = simp (length-take, length-drop) (omega arith) in
    let here : x.from + 0 ≡ x.from = omega arith in
    record {
      letter = ap is_ascii_alphabetic (range_at z x.from x.to 0 (omega (arith, size)) ∙ ap (λ i. get_or z i 0) here) ∙ letter;
      word = all_at (is_in class.Term) (word_text z x)
          (λ i below. ap (is_in class.Term) (range_at z x.from x.to i below) ∙ (ap (λ c. is_in c (get_or z (x.from + i) 0)) (sym of) ∙ spelled.0 (x.from + i) (omega arith) (omega (arith, size))));
    }

pub scope_name : (z : TextBytes) (x : FLexeme) → Good z x → x.kind ≡ kind.Word → is_ascii_alphabetic (get_or z x.from 0) ≡ true → IsName (word_text z x)
scope_name z x good is letter =
    let l = good.lexeme in
    let Spelled = λ (k : FKind). IsSpelled z k x.from x.to in
    word_name z x l.some l.within (subst Spelled is l.spelled) letter
