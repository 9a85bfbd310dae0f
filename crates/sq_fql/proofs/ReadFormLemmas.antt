-- Trees that were read are well formed.
use Rattle.std.proofs.Common.{◌≡◌, ◌≢◌, ℕ, zero, suc, ◌+◌, ◌≤◌, nat_lt, Bool, true, false, cond, List, [], ◌∷◌, ◌++◌, length, get_or, Option, Some, None, Ok, Err, refl, sym, subst, ap, IfSome, length-append, arith, IsUtf8}
use Rattle.std.proofs.lemmas.Bool.Decides.{nat_tests}
use Rattle.std.specs.Char.{is_ascii_alphabetic}
use Rattle.std.specs.List.{AllByRecursion}
use Rattle.sq_lex.specs.declared.fql_lexeme.FKind.{FKind}
use Rattle.sq_lex.specs.declared.fql_lexeme.FKind.TheVariants as kind
use Rattle.sq_lex.specs.declared.fql_lexeme.FLexeme.{FLexeme}
use Rattle.sq_lex.specs.Bytes.{TextBytes}
use Rattle.sq_lex.specs.FqlShape.{AreFrom}
use Rattle.sq_lex.specs.FqlWhole.{AreWhole}
use Rattle.sq_lex.specs.Limits.{most_text_bytes, most_levels}
use Rattle.sq_base.specs.Outcome.{Outcome, refused, ◌>>=◌}
use Rattle.sq_fql.specs.declared.codes.TheConstants.{MISSING_ARGUMENT}
use Rattle.sq_fql.specs.declared.raw.FRaw.{FRaw}
use Rattle.sq_fql.specs.declared.raw.FRaw.TheVariants as tree
use Rattle.sq_fql.specs.declared.raw.Op.{Op}
use Rattle.sq_fql.specs.declared.operator.Operator.{Operator}
use Rattle.sq_fql.specs.declared.parameter.Parameter.{Parameter}
use Rattle.sq_fql.specs.declared.parameter.Parameter.TheVariants as parameter
use Rattle.sq_fql.specs.declared.parameter.Given.{Given}
use Rattle.sq_fql.specs.declared.look.Role.{Role}
use Rattle.sq_fql.specs.declared.look.Role.TheVariants as role
use Rattle.sq_fql.specs.declared.read.Found.{Found}
use Rattle.sq_fql.specs.Operators.{operator_of, operands_of, named, parameters}
use Rattle.sq_fql.specs.Parameters.{with_value, operation}
use Rattle.sq_fql.specs.Read.{Read, Reader, Listed, behind, role_of, role_of_kind, wanted, wanted_kind, word_text, content, literal, leaf, nothing, with_operand, parameter_by, with_parameter, literal_only, is_full, is_full_at, extra_code, operand, with_next_operand, entry_by, entry, separator, ended_or, entries, completed, applied, scoped, leaf_before, begun, expression_over, deeper, expression, alone, whole_of}
use Rattle.sq_fql.specs.WellFormed.{IsName, HasForm, IsWellFormed}
use Rattle.sq_fql.proofs.FormLemmas.{IsLiteral, weight, weights, weights-append, all-append, form_apply, weight_apply, form_scope, weight_scope, few_xranks}
use Rattle.sq_fql.proofs.LimitLemmas.{IsOf, IsGiven, given_none, value_given, named_of, Makes, operation_makes}
use Rattle.sq_fql.proofs.LiteralLemmas.{Good, width, Leaf, literal_leaf, leaf_leaf, scope_name}

-- what stood before and behind a `>>=`
record Bound {A B : Type 0} (o : Outcome A) (f : A → Outcome B) (y : B) : Type 0 where
  x : A
  first : o ≡ Ok x
  then : f x ≡ Ok y

bound : {A B : Type 0} (o : Outcome A) (f : A → Outcome B) (y : B) → (o >>= f) ≡ Ok y → Bound o f y
bound (Ok x) f y is = record { x = x; first = refl; then = is }
bound (Err fault) f y is = absurd (cc)

-- ---- lexemes

abbrev pub AllGood : TextBytes → List FLexeme → Type 0
AllGood z xs = AllByRecursion (Good z) xs

-- the bytes of lexemes
abbrev pub size : List FLexeme → ℕ
size [] = 0
size (x ∷ xs) = width x + size xs

good_behind : (z : TextBytes) (xs : List FLexeme) → AllGood z xs → AllGood z (behind xs)
good_behind z [] good = tt
good_behind z (x ∷ xs) good = good.1

size_behind : (xs : List FLexeme) → size (behind xs) ≤ size xs
size_behind [] = omega arith
size_behind (x ∷ xs) = omega arith

wanted_same : (k : FKind) (y x : FLexeme) → wanted_kind k y ≡ Ok x → y ≡ x
wanted_same kind.Str y x is = cc
wanted_same kind.Word y x is = cc
wanted_same kind.LeftParen y x is = absurd (cc)
wanted_same kind.RightParen y x is = absurd (cc)
wanted_same kind.Comma y x is = absurd (cc)
wanted_same kind.EqualSign y x is = absurd (cc)
wanted_same kind.Colon y x is = absurd (cc)

-- the first lexeme, which is good, and those behind it
record Begins (z : TextBytes) (xs : List FLexeme) (x : FLexeme) : Type 0 where
  good : Good z x
  size : width x + size (behind xs) ≤ size xs

begins : (z : TextBytes) (xs : List FLexeme) (x : FLexeme) → AllGood z xs → wanted z xs ≡ Ok x → Begins z xs x
begins z [] x good is = absurd (cc)
begins z (y ∷ ys) x good is = let e = wanted_same y.kind y x is in subst (Begins z (y ∷ ys)) e (record { good = good.0; size = omega arith })

-- only a word has a role but a literal's
role_word : (k : FKind) (xs : List FLexeme) → role_of_kind k xs ≢ role.Literal → k ≡ kind.Word
role_word kind.Word xs is = refl
role_word kind.Str xs is = absurd (is refl)
role_word kind.LeftParen xs is = absurd (is refl)
role_word kind.RightParen xs is = absurd (is refl)
role_word kind.Comma xs is = absurd (is refl)
role_word kind.EqualSign xs is = absurd (is refl)
role_word kind.Colon xs is = absurd (is refl)

-- ---- trees

-- a tree that was read of the first lexemes
pub record Formed (z : TextBytes) (xs : List FLexeme) (t : FRaw) (rest : List FLexeme) : Type 0 where
  pub form : HasForm t
  pub fits : weight t + size rest ≤ size xs
  pub good : AllGood z rest

abbrev pub IsGoodReader : TextBytes → Reader → Type 0
IsGoodReader z inner = (xs : List FLexeme) (t : FRaw) (rest : List FLexeme) → AllGood z xs → inner xs ≡ Ok (t, rest) → Formed z xs t rest

-- what a list has so far
pub record IsFound (op : Operator) (f : Found) : Type 0 where
  pub form : AllByRecursion HasForm f.operands
  pub most : IfSome (operands_of op).most (λ most. length f.operands ≤ most)
  pub literals : (operands_of op).literals ≡ true → AllByRecursion IsLiteral f.operands
  pub given : IsGiven op f.given

-- a list went on from some lexemes to others
record Goes (z : TextBytes) (op : Operator) (f : Found) (xs : List FLexeme) (now : Found) (rest : List FLexeme) : Type 0 where
  found : IsFound op now
  fits : weights now.operands + size rest ≤ weights f.operands + size xs
  good : AllGood z rest

abbrev grown : Found → FRaw × List FLexeme → Outcome (Found × List FLexeme)
grown f t = Ok (with_operand f t.0, t.1)

abbrev regiven : Found → List FLexeme → Given → Outcome (Found × List FLexeme)
regiven f rest g = Ok (record f { given = g }, rest)

abbrev paired : List FLexeme → FRaw → Read
paired rest t = Ok (t, rest)

pairs : {A B : Type 0} (a c : A) (b d : B) → ◌≡◌ {A = Outcome (A × B)} (Ok (a, b)) (Ok (c, d)) → (a ≡ c) × (b ≡ d)
pairs {A} {B} a c b d is = let e : (a, b) ≡ (c, d) = cc in (ap (λ (p : A × B). p.0) e, ap (λ (p : A × B). p.1) e)

abbrev applied_op : FLexeme → Listed → Op → Read
applied_op x l o = Ok (tree.Apply x.from o l.0.operands, l.2)

abbrev scoped_tree : TextBytes → FLexeme → FRaw × List FLexeme → Read
scoped_tree z x t = Ok (tree.Scope x.from (word_text z x) t.0, t.1)

most_none : (most : Option ℕ) → IfSome most (λ m. 0 ≤ m)
most_none None = tt
most_none (Some m) = omega arith

module _ (z : TextBytes) (utf8 : IsUtf8 z) where
  literal_only_leaf : (r : Role) (x : FLexeme) (t : FRaw) → Good z x → literal_only z r x ≡ Ok t → Leaf x t × IsLiteral t
  literal_only_leaf role.Operator x t good is = absurd (cc)
  literal_only_leaf role.Scope x t good is = absurd (cc)
  literal_only_leaf role.Parameter x t good is = literal_leaf z x t utf8 good is
  literal_only_leaf role.Literal x t good is = literal_leaf z x t utf8 good is

  operand_by : (literals : Bool) (inner : Reader) (r : Role) (x : FLexeme) (xs : List FLexeme) (t : FRaw) (rest : List FLexeme) → IsGoodReader z inner → AllGood z xs → Begins z xs x
      → cond literals (literal_only z r x >>= paired (behind xs)) (inner xs) ≡ Ok (t, rest) → Formed z xs t rest × (literals ≡ true → IsLiteral t)
  operand_by false inner r x xs t rest reads good b is = (reads xs t rest good is, λ are. absurd (cc))
  operand_by true inner r x xs t rest reads good b is =
      let h = bound (literal_only z r x) (paired (behind xs)) (t, rest) is in
      let same = pairs h.x t (behind xs) rest h.then in
      let leaf = literal_only_leaf r x h.x b.good h.first in
      let Is = λ (u : FRaw). Formed z xs u rest × (true ≡ true → IsLiteral u) in
      let light = leaf.0.weight in
      let width = b.size in
      let Good = λ (l : List FLexeme). AllGood z l in
      let left = ap size same.1 in
      subst Is same.0 (record { form = leaf.0.form; fits = omega (arith, light, width, left); good = subst Good same.1 (good_behind z xs good) }, λ are. leaf.1)

  operand_formed : (inner : Reader) (op : Operator) (r : Role) (x : FLexeme) (xs : List FLexeme) (t : FRaw) (rest : List FLexeme) → IsGoodReader z inner → AllGood z xs → Begins z xs x
      → operand inner z op r x xs ≡ Ok (t, rest) → Formed z xs t rest × ((operands_of op).literals ≡ true → IsLiteral t)
  unfolding operand
  operand_formed inner op r x xs t rest reads good b is = operand_by (operands_of op).literals inner r x xs t rest reads good b is

  room : (most : Option ℕ) (n : ℕ) → is_full_at most n ≡ false → IfSome most (λ m. n + 1 ≤ m)
  room None n is = tt
  room (Some m) n is = grind (arith, nat_tests)

  one_more : (ts : List FRaw) (t : FRaw) (most : Option ℕ) → IfSome most (λ m. length ts + 1 ≤ m) → IfSome most (λ m. length (ts ++ t ∷ []) ≤ m)
  one_more ts t None is = tt
  one_more ts t (Some m) is = omega (arith, is, length-append ts (t ∷ []))

  with_one : (op : Operator) (f : Found) (t : FRaw) → IsFound op f → is_full op f.operands ≡ false → HasForm t → ((operands_of op).literals ≡ true → IsLiteral t) → IsFound op (with_operand f t)
  with_one op f t had free form literal = record {
    form = all-append HasForm f.operands t had.form form;
    most = one_more f.operands t (operands_of op).most (room (operands_of op).most (length f.operands) free);
    literals = λ are. all-append IsLiteral f.operands t (had.literals are) (literal are);
    given = had.given;
  }

  next_by : (full : Bool) (inner : Reader) (op : Operator) (f : Found) (r : Role) (x : FLexeme) (xs : List FLexeme) (now : Found) (rest : List FLexeme) → is_full op f.operands ≡ full
      → IsGoodReader z inner → AllGood z xs → Begins z xs x → IsFound op f
      → cond full (refused (extra_code z (operands_of op).literals r x) x.from) (operand inner z op r x xs >>= grown f) ≡ Ok (now, rest) → Goes z op f xs now rest
  next_by true inner op f r x xs now rest free reads good b had is = absurd (cc)
  next_by false inner op f r x xs now rest free reads good b had is =
      let h = bound (operand inner z op r x xs) (grown f) (now, rest) is in
      let same = pairs (with_operand f h.x.0) now h.x.1 rest h.then in
      let read = operand_formed inner op r x xs h.x.0 h.x.1 reads good b h.first in
      let fits = read.0.fits in
      let sum = weights-append f.operands h.x.0 in
      let left = ap size same.1 in
      let Is = λ (g : Found). Goes z op f xs g rest in
      let Good = λ (l : List FLexeme). AllGood z l in
      subst Is same.0 (record { found = with_one op f h.x.0 had free read.0.form read.1; fits = omega (arith, fits, sum, left); good = subst Good same.1 read.0.good })

  next_goes : (inner : Reader) (op : Operator) (f : Found) (r : Role) (x : FLexeme) (xs : List FLexeme) (now : Found) (rest : List FLexeme)
      → IsGoodReader z inner → AllGood z xs → Begins z xs x → IsFound op f → with_next_operand inner z op f r x xs ≡ Ok (now, rest) → Goes z op f xs now rest
  unfolding with_next_operand
  next_goes inner op f r x xs now rest reads good b had is = next_by (is_full op f.operands) inner op f r x xs now rest refl reads good b had is

  value_of : (op : Operator) (p : Option Parameter) (g now : Given) (x : FLexeme) (xs : List FLexeme) → IfSome p (IsOf op) → IsGiven op g
      → (wanted z xs >>= λ v. with_value p (content z v) x.from g) ≡ Ok now → IsGiven op now
  value_of op p g now x xs of had is =
      let h = bound (wanted z xs) (λ v. with_value p (content z v) x.from g) now is in value_given op p (content z h.x) x.from g now of had h.then

  parameter_given : (op : Operator) (p : Option Parameter) (g now : Given) (x : FLexeme) (xs : List FLexeme) → IfSome p (IsOf op) → IsGiven op g → parameter_by p z g x xs ≡ Ok now → IsGiven op now
  parameter_given op None g now x xs of had is = value_of op None g now x xs of had is
  parameter_given op (Some parameter.OtherBoost) g now x xs of had is = absurd (cc)
  parameter_given op (Some parameter.Distance) g now x xs of had is = value_of op (Some parameter.Distance) g now x xs of had is
  parameter_given op (Some parameter.From) g now x xs of had is = value_of op (Some parameter.From) g now x xs of had is
  parameter_given op (Some parameter.To) g now x xs of had is = value_of op (Some parameter.To) g now x xs of had is
  parameter_given op (Some parameter.Lower) g now x xs of had is = value_of op (Some parameter.Lower) g now x xs of had is
  parameter_given op (Some parameter.Upper) g now x xs of had is = value_of op (Some parameter.Upper) g now x xs of had is
  parameter_given op (Some parameter.ModeName) g now x xs of had is = value_of op (Some parameter.ModeName) g now x xs of had is
  parameter_given op (Some parameter.Cb) g now x xs of had is = value_of op (Some parameter.Cb) g now x xs of had is
  parameter_given op (Some parameter.Sample) g now x xs of had is = value_of op (Some parameter.Sample) g now x xs of had is

  with_given : (op : Operator) (g now : Given) (x : FLexeme) (xs : List FLexeme) → IsGiven op g → with_parameter z op g x xs ≡ Ok now → IsGiven op now
  unfolding with_parameter
  with_given op g now x xs had is = parameter_given op (named (word_text z x) (parameters op)) g now x xs (named_of op (word_text z x)) had is

  parameter_goes : (op : Operator) (f : Found) (x : FLexeme) (xs : List FLexeme) (now : Found) (rest : List FLexeme) → AllGood z xs → IsFound op f
      → (with_parameter z op f.given x (behind (behind xs)) >>= regiven f (behind (behind (behind xs)))) ≡ Ok (now, rest) → Goes z op f xs now rest
  parameter_goes op f x xs now rest good had is =
      let h = bound (with_parameter z op f.given x (behind (behind xs))) (regiven f (behind (behind (behind xs)))) (now, rest) is in
      let same = pairs (record f { given = h.x }) now (behind (behind (behind xs))) rest h.then in
      let left = ap size same.1 in
      let a = size_behind xs in
      let b = size_behind (behind xs) in
      let c = size_behind (behind (behind xs)) in
      let Is = λ (g : Found). Goes z op f xs g rest in
      let Good = λ (l : List FLexeme). AllGood z l in
      subst Is same.0 (record {
        found = record { form = had.form; most = had.most; literals = had.literals; given = with_given op f.given h.x x (behind (behind xs)) had.given h.first };
        fits = omega (arith, left, a, b, c);
        good = subst Good same.1 (good_behind z (behind (behind xs)) (good_behind z (behind xs) (good_behind z xs good)));
      })

  entry_by_goes : (inner : Reader) (op : Operator) (f : Found) (r : Role) (x : FLexeme) (xs : List FLexeme) (now : Found) (rest : List FLexeme)
      → IsGoodReader z inner → AllGood z xs → Begins z xs x → IsFound op f → entry_by inner z op f r x xs ≡ Ok (now, rest) → Goes z op f xs now rest
  entry_by_goes inner op f role.Parameter x xs now rest reads good b had is = parameter_goes op f x xs now rest good had is
  entry_by_goes inner op f role.Operator x xs now rest reads good b had is = next_goes inner op f role.Operator x xs now rest reads good b had is
  entry_by_goes inner op f role.Scope x xs now rest reads good b had is = next_goes inner op f role.Scope x xs now rest reads good b had is
  entry_by_goes inner op f role.Literal x xs now rest reads good b had is = next_goes inner op f role.Literal x xs now rest reads good b had is

  entry_goes : (inner : Reader) (op : Operator) (f : Found) (xs : List FLexeme) (now : Found) (rest : List FLexeme) → IsGoodReader z inner → AllGood z xs → IsFound op f
      → entry inner z op f xs ≡ Ok (now, rest) → Goes z op f xs now rest
  unfolding entry
  entry_goes inner op f xs now rest reads good had is =
      let h = bound (wanted z xs) (λ x. entry_by inner z op f (role_of x (behind xs)) x xs) (now, rest) is in
      entry_by_goes inner op f (role_of h.x (behind xs)) h.x xs now rest reads good (begins z xs h.x good h.first) had h.then

  went : (end : Option ℕ) (inner : Reader) (turns : ℕ) (op : Operator) (f : Found) (xs : List FLexeme) (mid : Found) (ys : List FLexeme) (now : Found) (at : ℕ) (rest : List FLexeme)
      → Goes z op f xs mid ys → (entries inner turns z op mid (behind ys) ≡ Ok (now, at, rest) → Goes z op mid (behind ys) now rest)
      → ended_or end mid (behind ys) (entries inner turns z op mid (behind ys)) ≡ Ok (now, at, rest) → Goes z op f xs now rest
  went None inner turns op f xs mid ys now at rest e more is =
      let m = more is in
      let a = e.fits in
      let b = m.fits in
      let c = size_behind ys in
      record { found = m.found; fits = omega (arith, a, b, c); good = m.good }
  went (Some end) inner turns op f xs mid ys now at rest e more is =
      let same : ◌≡◌ {A = Listed} (mid, end, behind ys) (now, at, rest) = cc in
      let found = ap (λ (l : Listed). l.0) same in
      let last = ap (λ (l : Listed). l.2) same in
      let a = e.fits in
      let c = size_behind ys in
      let left = ap size last in
      let Is = λ (g : Found). Goes z op f xs g rest in
      let Good = λ (l : List FLexeme). AllGood z l in
      subst Is found (record { found = e.found; fits = omega (arith, a, c, left); good = subst Good last (good_behind z ys e.good) })

  turns_go : (turns : ℕ) (inner : Reader) (op : Operator) (f : Found) (xs : List FLexeme) (now : Found) (at : ℕ) (rest : List FLexeme) → IsGoodReader z inner → AllGood z xs → IsFound op f
      → entries inner turns z op f xs ≡ Ok (now, at, rest) → Goes z op f xs now rest
  unfolding entries
  turns_go zero inner op f xs now at rest reads good had is = absurd (cc)
  turns_go (suc turns) inner op f xs now at rest reads good had is =
      let h = bound (entry inner z op f xs) (λ e. separator z e.1 >>= λ end. ended_or end e.0 (behind e.1) (entries inner turns z op e.0 (behind e.1))) (now, at, rest) is in
      let e = entry_goes inner op f xs h.x.0 h.x.1 reads good had h.first in
      let g = bound (separator z h.x.1) (λ end. ended_or end h.x.0 (behind h.x.1) (entries inner turns z op h.x.0 (behind h.x.1))) (now, at, rest) h.then in
      went g.x inner turns op f xs h.x.0 h.x.1 now at rest e (turns_go turns inner op h.x.0 (behind h.x.1) now at rest reads (good_behind z h.x.1 e.good) e.found) g.then

  complete : (few : Bool) (op : Operator) (f : Found) (at : ℕ) (o : Op) → nat_lt (length f.operands) (operands_of op).least ≡ few → IsFound op f
      → cond few (refused MISSING_ARGUMENT at) (operation op f.given at) ≡ Ok o → Makes op o × ((operands_of op).least ≤ length f.operands)
  complete true op f at o few had is = absurd (cc)
  complete false op f at o few had is = (operation_makes op f.given at o had.given is, grind (arith, nat_tests))

  completes : (op : Operator) (f : Found) (at : ℕ) (o : Op) → IsFound op f → completed op f at ≡ Ok o → Makes op o × ((operands_of op).least ≤ length f.operands)
  unfolding completed
  completes op f at o had is = complete (nat_lt (length f.operands) (operands_of op).least) op f at o refl had is

  apply_formed : (op : Operator) (f : Found) (at : ℕ) (o : Op) → IsFound op f → Makes op o → (operands_of op).least ≤ length f.operands → HasForm (tree.Apply at o f.operands)
  apply_formed op f at o had makes least =
      let same = sym makes.same in
      let Least = λ (p : Operator). (operands_of p).least ≤ length f.operands in
      let Most = λ (p : Operator). IfSome (operands_of p).most (λ most. length f.operands ≤ most) in
      let Literals = λ (p : Operator). (operands_of p).literals ≡ true → AllByRecursion IsLiteral f.operands in
      form_apply f.operands at o (subst Least same least) (subst Most same had.most) (subst Literals same had.literals) makes.limits had.form

  nothing_found : (op : Operator) → IsFound op nothing
  nothing_found op = record { form = tt; most = most_none (operands_of op).most; literals = λ are. tt; given = given_none op }

  apply_of : (inner : Reader) (op : Operator) (x : FLexeme) (xs : List FLexeme) (l : Listed) (t : FRaw) (rest : List FLexeme) → IsGoodReader z inner → AllGood z xs → 1 ≤ width x
      → entries inner (suc (length (behind xs))) z op nothing (behind xs) ≡ Ok l → (completed op l.0 l.1 >>= applied_op x l) ≡ Ok (t, rest)
      → (weight t + size rest ≤ width x + size xs) × HasForm t × AllGood z rest
  apply_of inner op x xs l t rest reads good some read is =
      let c = bound (completed op l.0 l.1) (applied_op x l) (t, rest) is in
      let g = turns_go (suc (length (behind xs))) inner op nothing (behind xs) l.0 l.1 l.2 reads (good_behind z xs good) (nothing_found op) read in
      let m = completes op l.0 l.1 c.x g.found c.first in
      let same = pairs (tree.Apply x.from c.x l.0.operands) t l.2 rest c.then in
      let form = apply_formed op l.0 x.from c.x g.found m.0 m.1 in
      let heavy = weight_apply l.0.operands x.from c.x in
      let few = few_xranks c.x in
      let fits = g.fits in
      let behind = size_behind xs in
      let left = ap size same.1 in
      let Light = λ (u : FRaw). weight u + size rest ≤ width x + size xs in
      let Good = λ (l : List FLexeme). AllGood z l in
      (subst Light same.0 (omega (arith, heavy, few, fits, behind, left)), subst HasForm same.0 form, subst Good same.1 g.good)

  -- what was read of a first lexeme that the others stand behind
  abbrev IsRead : FLexeme → List FLexeme → FRaw → List FLexeme → Type 0
  IsRead x xs t rest = (weight t + size rest ≤ width x + size xs) × HasForm t × AllGood z rest

  abbrev AreGoodReaders : Option Reader → Type 0
  AreGoodReaders inner = IfSome inner (IsGoodReader z)

  applied_read : (inner : Option Reader) (op : Option Operator) (x : FLexeme) (xs : List FLexeme) (t : FRaw) (rest : List FLexeme) → AreGoodReaders inner → AllGood z xs → 1 ≤ width x
      → applied inner z op x xs ≡ Ok (t, rest) → IsRead x xs t rest
  applied_read None None x xs t rest reads good some is = absurd (cc)
  applied_read (Some inner) None x xs t rest reads good some is = absurd (cc)
  applied_read None (Some op) x xs t rest reads good some is = absurd (cc)
  applied_read (Some inner) (Some op) x xs t rest reads good some is =
      let h = bound (entries inner (suc (length (behind xs))) z op nothing (behind xs)) (λ l. completed op l.0 l.1 >>= applied_op x l) (t, rest) is in
      apply_of inner op x xs h.x t rest reads good some h.first h.then

  scoped_read : (inner : Option Reader) (x : FLexeme) (xs : List FLexeme) (t : FRaw) (rest : List FLexeme) → AreGoodReaders inner → AllGood z xs → IsName (word_text z x)
      → scoped inner z x xs ≡ Ok (t, rest) → IsRead x xs t rest
  scoped_read None x xs t rest reads good name is = absurd (cc)
  scoped_read (Some inner) x xs t rest reads good name is =
      let h = bound (inner (behind xs)) (scoped_tree z x) (t, rest) is in
      let f = reads (behind xs) h.x.0 h.x.1 (good_behind z xs good) h.first in
      let same = pairs (tree.Scope x.from (word_text z x) h.x.0) t h.x.1 rest h.then in
      let form = form_scope x.from (word_text z x) h.x.0 name f.form in
      let heavy = weight_scope x.from (word_text z x) h.x.0 in
      let fits = f.fits in
      let behind = size_behind xs in
      let left = ap size same.1 in
      let Light = λ (u : FRaw). weight u + size rest ≤ width x + size xs in
      let Good = λ (l : List FLexeme). AllGood z l in
      (subst Light same.0 (omega (arith, heavy, fits, behind, left)), subst HasForm same.0 form, subst Good same.1 f.good)

  leaf_read : (x : FLexeme) (xs : List FLexeme) (t : FRaw) (rest : List FLexeme) → AllGood z xs → Good z x → leaf_before z x xs ≡ Ok (t, rest) → IsRead x xs t rest
  leaf_read x xs t rest good one is =
      let h = bound (leaf z x) (paired xs) (t, rest) is in
      let l = leaf_leaf z x h.x utf8 one h.first in
      let same = pairs h.x t xs rest h.then in
      let light = l.weight in
      let left = ap size same.1 in
      let Light = λ (u : FRaw). weight u + size rest ≤ width x + size xs in
      let Good = λ (l : List FLexeme). AllGood z l in
      (subst Light same.0 (omega (arith, light, left)), subst HasForm same.0 l.form, subst Good same.1 good)

  scope_by : (letter : Bool) (inner : Option Reader) (x : FLexeme) (xs : List FLexeme) (t : FRaw) (rest : List FLexeme) → is_ascii_alphabetic (get_or z x.from 0) ≡ letter → AreGoodReaders inner
      → AllGood z xs → Good z x → x.kind ≡ kind.Word → cond letter (scoped inner z x xs) (leaf_before z x xs) ≡ Ok (t, rest) → IsRead x xs t rest
  scope_by true inner x xs t rest letter reads good one word is = scoped_read inner x xs t rest reads good (scope_name z x one word letter) is
  scope_by false inner x xs t rest letter reads good one word is = leaf_read x xs t rest good one is

  begun_read : (r : Role) (inner : Option Reader) (x : FLexeme) (xs : List FLexeme) (t : FRaw) (rest : List FLexeme) → AreGoodReaders inner → AllGood z xs → Good z x
      → (r ≢ role.Literal → x.kind ≡ kind.Word) → begun inner z r x xs ≡ Ok (t, rest) → IsRead x xs t rest
  begun_read role.Operator inner x xs t rest reads good one word is =
      let some = one.whole.some in applied_read inner (operator_of (word_text z x)) x xs t rest reads good (omega arith) is
  begun_read role.Scope inner x xs t rest reads good one word is = scope_by (is_ascii_alphabetic (get_or z x.from 0)) inner x xs t rest refl reads good one (word (λ same. cc)) is
  begun_read role.Parameter inner x xs t rest reads good one word is = leaf_read x xs t rest good one is
  begun_read role.Literal inner x xs t rest reads good one word is = leaf_read x xs t rest good one is

  over_formed : (inner : Option Reader) → AreGoodReaders inner → IsGoodReader z (expression_over inner z)
  unfolding expression_over
  over_formed inner reads xs t rest good is =
      let h = bound (wanted z xs) (λ x. begun inner z (role_of x (behind xs)) x (behind xs)) (t, rest) is in
      let b = begins z xs h.x good h.first in
      let r = begun_read (role_of h.x (behind xs)) inner h.x (behind xs) t rest reads (good_behind z xs good) b.good (role_word h.x.kind (behind xs)) h.then in
      let width = b.size in
      let fits = r.0 in
      record { form = r.1; fits = omega (arith, fits, width); good = r.2 }

  deeper_formed : (levels : ℕ) → AreGoodReaders (deeper levels z)
  unfolding deeper
  deeper_formed zero = tt
  deeper_formed (suc levels) = over_formed (deeper levels z) (deeper_formed levels)

  alone_same : (t u : FRaw) (xs : List FLexeme) → alone t xs ≡ Ok u → t ≡ u
  alone_same t u [] is = cc
  alone_same t u (x ∷ xs) is = absurd (cc)

  size_from : (at : ℕ) (xs : List FLexeme) → AreFrom z at xs → at ≤ length z → at + size xs ≤ length z
  size_from at [] are within = omega arith
  size_from at (x ∷ xs) are within =
      let after = are.0 in
      let l = are.2 in
      let some = l.some in
      let inside = l.within in
      let h = size_from x.to xs are.3 inside in omega (arith, after, h)

  all_good : (at : ℕ) (xs : List FLexeme) → AreFrom z at xs → AreWhole z xs → AllGood z xs
  all_good at [] are whole = tt
  all_good at (x ∷ xs) are whole = (record { lexeme = are.2; whole = whole.0 }, all_good x.to xs are.3 whole.1)

  -- a tree that was read of the lexemes of a text is well formed
  pub read_formed : (xs : List FLexeme) (t : FRaw) → length z ≤ most_text_bytes → AreFrom z 0 xs → AreWhole z xs → whole_of z xs ≡ Ok t → IsWellFormed t
  unfolding whole_of
  read_formed [] t short are whole is = absurd (cc)
  read_formed (x ∷ xs) t short are whole is =
      let h = bound (expression most_levels z (x ∷ xs)) (λ (r : FRaw × List FLexeme). alone r.0 r.1) t is in
      let f = over_formed (deeper most_levels z) (deeper_formed most_levels) (x ∷ xs) h.x.0 h.x.1 (all_good 0 (x ∷ xs) are whole) h.first in
      let same = alone_same h.x.0 t h.x.1 h.then in
      let fits = f.fits in
      let room = size_from 0 (x ∷ xs) are (omega arith) in
      subst IsWellFormed same (record { form = f.form; few_bytes = omega (arith, fits, room, short); few_xranks = omega (arith, fits, room, short) })
