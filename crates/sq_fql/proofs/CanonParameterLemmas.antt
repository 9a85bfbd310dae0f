-- Printed parameters are read as the operator's.
use Rattle.std.proofs.Common.{◌≡◌, ℕ, ℤ, suc, ◌+◌, ◌<◌, ◌≤◌, ◌^◌, Bool, true, false, List, [], ◌∷◌, ◌++◌, length, drop, codes, ◌==◌, pos, negsuc, IsUtf8, Some, None, Ok, refl, sym, ◌∙◌, ap, subst, arith, append_assoc, append-nil, length-append}
use Rattle.std.specs.Prelude.{unsigned_abs}
use Rattle.std.specs.Char.{is_ascii_digit}
use Rattle.std.specs.List.{list_all}
use Rattle.std.specs.Str.{chars}
use Rattle.std.proofs.lemmas.Bool.Decides.{nat_tests}
use Rattle.std.proofs.lemmas.Fmt.{decimal_nonempty}
use Rattle.std.specs.Fmt.{decimal, signed_decimal}
use Rattle.sq_lex.specs.declared.class.Class.TheVariants as class
use Rattle.sq_lex.specs.declared.fql_lexeme.FKind.TheVariants as kind
use Rattle.sq_lex.specs.declared.fql_lexeme.FLexeme.{FLexeme}
use Rattle.sq_lex.specs.Bytes.{TextBytes, is_in}
use Rattle.sq_lex.specs.Fql.{lexeme}
use Rattle.sq_base.specs.Outcome.{◌>>=◌}
use Rattle.sq_base.specs.Limits.{greatest_distance, greatest_boost}
use Rattle.sq_fql.specs.declared.raw.Mode.{Mode}
use Rattle.sq_fql.specs.declared.raw.Mode.TheVariants as mode
use Rattle.sq_fql.specs.declared.raw.Op.{Op}
use Rattle.sq_fql.specs.declared.raw.Op.TheVariants as op
use Rattle.sq_fql.specs.declared.operator.Operator.{Operator}
use Rattle.sq_fql.specs.declared.operator.Operator.TheVariants as operator
use Rattle.sq_fql.specs.declared.parameter.Parameter.{Parameter}
use Rattle.sq_fql.specs.declared.parameter.Parameter.TheVariants as parameter
use Rattle.sq_fql.specs.declared.parameter.Given.{Given}
use Rattle.sq_fql.specs.Canon.{assigned, word_value, is_number, are_digits, quoted, distance_text, lower_word, upper_word, parameters_text}
use Rattle.sq_fql.specs.Operators.{named, parameters}
use Rattle.sq_fql.specs.Parameters.{nothing_given, with_value, operation}
use Rattle.sq_fql.specs.Read.{wanted, content, parameter_by, with_parameter}
use Rattle.sq_fql.specs.WellFormed.{IsName, IsWithinLimits, operator_in}
use Rattle.sq_fql.proofs.CanonLexLemmas.{Lexes, stops, rest_behind, rest_behind_one, part_there, both_left}
use Rattle.sq_fql.proofs.CanonNumberLemmas.{decimal_digits, natural_decimal, whole_decimal}
use Rattle.sq_fql.proofs.CanonReadLemmas.{number_lexes}
use Rattle.sq_fql.proofs.CanonStringLemmas.{string_lexes, string_content}
use Rattle.sq_fql.proofs.CanonTreeLemmas.{Closes, closes_end, closes_on}
use Rattle.sq_fql.specs.Limits.{greatest_count}

-- A value of a parameter stands at a place.
pub record ReadsValue (z : TextBytes) (at : ℕ) (value : TextBytes) (xs : List FLexeme) : Type 0 where
  pub first : FLexeme
  pub lexed : Lexes z at (first ∷ xs)
  pub begins : wanted z (first ∷ xs) ≡ Ok first
  pub is : content z first ≡ value

number_reads : (z r text : TextBytes) (at : ℕ) (xs : List FLexeme) → is_number text ≡ true → drop at z ≡ text ++ r → stops (is_in class.Parameter) r ≡ true → Lexes z (at + length text) xs
    → ReadsValue z at text xs
number_reads z r text at xs number e stop more = record {
  first = lexeme kind.Word at (at + length text);
  lexed = number_lexes z text r at xs number e stop more;
  begins = refl;
  is = part_there z text r at e;
}

-- a word that is written between quotes as it is
abbrev pub IsPlain : TextBytes → Type 0
IsPlain word = (word_value word ≡ quoted word) × IsUtf8 word

word_reads : (z r word : TextBytes) (at : ℕ) (xs : List FLexeme) → IsPlain word → drop at z ≡ word_value word ++ r → Lexes z (at + length (word_value word)) xs → ReadsValue z at word xs
word_reads z r word at xs plain e more =
    let there : drop at z ≡ quoted word ++ r = e ∙ ap (λ l. l ++ r) plain.0 in
    record {
      first = lexeme kind.Str at (at + length (quoted word));
      lexed = string_lexes z r word at there xs (subst (λ l. Lexes z (at + length l) xs) plain.0 more);
      begins = refl;
      is = string_content z r word at there plain.1;
    }

-- A parameter, behind the comma at a place, sets what is given.
pub record Sets (z : TextBytes) (op : Operator) (at : ℕ) (name shown : TextBytes) (before now : Given) : Type 0 where
  value : TextBytes
  parameter : Parameter
  is_name : IsName name
  is : named name (parameters op) ≡ Some parameter
  reads : (x : FLexeme) (ls : List FLexeme) → parameter_by (Some parameter) z before x ls ≡ (wanted z ls >>= λ v. with_value (Some parameter) (content z v) x.from before)
  set : with_value (Some parameter) value (at + 1) before ≡ Ok now
  valued : (place : ℕ) (r : TextBytes) (xs : List FLexeme) → drop place z ≡ shown ++ r → stops (is_in class.Parameter) r ≡ true → Lexes z (place + length shown) xs → ReadsValue z place value xs

assigned_split : (name shown r : TextBytes) → assigned name shown ++ r ≡ 44 ∷ (name ++ 61 ∷ (shown ++ r))
assigned_split name shown r = ap (λ l. 44 ∷ l) (append_assoc (name ++ 61 ∷ []) shown r ∙ append_assoc name (61 ∷ []) (shown ++ r))

assigned_length : (name shown : TextBytes) → length (assigned name shown) ≡ 1 + length name + 1 + length shown
assigned_length name shown = omega (arith, length-append (name ++ 61 ∷ []) shown, length-append name (61 ∷ []))

module _ (k : ℕ) (z r name shown : TextBytes) (op : Operator) (at : ℕ) (before now after : Given) (xs : List FLexeme) (s : Sets z op at name shown before now) (e : drop at z ≡ assigned name shown ++ r) where
  split : drop at z ≡ 44 ∷ (name ++ 61 ∷ (shown ++ r))
  split = e ∙ assigned_split name shown r

  at_name : drop (at + 1) z ≡ name ++ 61 ∷ (shown ++ r)
  at_name = rest_behind_one z (name ++ 61 ∷ (shown ++ r)) 44 at split

  at_value : drop (at + 1 + length name + 1) z ≡ shown ++ r
  at_value = rest_behind_one z (shown ++ r) 61 (at + 1 + length name) (rest_behind z name (61 ∷ (shown ++ r)) (at + 1) at_name)

  set_by : (ls : List FLexeme) (v : ReadsValue z (at + 1 + length name + 1) s.value ls) → with_parameter z op before (lexeme kind.Word (at + 1) (at + 1 + length name)) (v.first ∷ ls) ≡ Ok now
  unfolding with_parameter
  set_by ls v =
      rw (part_there z name (61 ∷ (shown ++ r)) (at + 1) at_name, s.is)
      (s.reads (lexeme kind.Word (at + 1) (at + 1 + length name)) (v.first ∷ ls) ∙ (rw (v.begins, v.is) s.set))

  parameter_closes : stops (is_in class.Parameter) r ≡ true → Closes k z op (at + length (assigned name shown)) now after xs → Closes k z op at before after xs
  parameter_closes stop c =
      let place : at + length (assigned name shown) ≡ at + 1 + length name + 1 + length shown = omega (arith, assigned_length name shown) in
      let v = s.valued (at + 1 + length name + 1) r c.lexemes at_value stop (subst (λ n. Lexes z n c.lexemes) place c.lexed) in
      closes_on k z (shown ++ r) name op at (at + length (assigned name shown)) before now after xs v.first c split s.is_name v.lexed (set_by c.lexemes v)

-- nothing, one parameter or two, and `)`
no_parameter : (k : ℕ) (z r : TextBytes) (op : Operator) (at : ℕ) (before : Given) (xs : List FLexeme) → drop at z ≡ 41 ∷ r → Lexes z (at + 0 + 1) xs → Closes k z op at before before xs
no_parameter k z r op at before xs e more = let place : at + 0 + 1 ≡ at + 1 = omega arith in closes_end k z r op at before xs e (subst (λ n. Lexes z n xs) place more)

one_parameter : (k : ℕ) (z r name shown : TextBytes) (op : Operator) (at : ℕ) (before now : Given) (xs : List FLexeme) → Sets z op at name shown before now → drop at z ≡ assigned name shown ++ 41 ∷ r
    → Lexes z (at + length (assigned name shown) + 1) xs → Closes k z op at before now xs
one_parameter k z r name shown op at before now xs s e more =
    parameter_closes k z (41 ∷ r) name shown op at before now now xs s e refl
    (closes_end k z r op (at + length (assigned name shown)) now xs (rest_behind z (assigned name shown) (41 ∷ r) at e) more)

two_parameters : (k : ℕ) (z r name shown name_2 shown_2 : TextBytes) (op : Operator) (at : ℕ) (before now after : Given) (xs : List FLexeme) → Sets z op at name shown before now
    → Sets z op (at + length (assigned name shown)) name_2 shown_2 now after → drop at z ≡ assigned name shown ++ assigned name_2 shown_2 ++ 41 ∷ r
    → Lexes z (at + length (assigned name shown ++ assigned name_2 shown_2) + 1) xs → Closes k z op at before after xs
two_parameters k z r name shown name_2 shown_2 op at before now after xs s t e more =
    let there : drop at z ≡ assigned name shown ++ (assigned name_2 shown_2 ++ 41 ∷ r) = e ∙ append_assoc (assigned name shown) (assigned name_2 shown_2) (41 ∷ r) in
    let place : at + length (assigned name shown ++ assigned name_2 shown_2) + 1 ≡ at + length (assigned name shown) + length (assigned name_2 shown_2) + 1
    = omega (arith, length-append (assigned name shown) (assigned name_2 shown_2)) in
    parameter_closes k z (assigned name_2 shown_2 ++ 41 ∷ r) name shown op at before now after xs s there refl
    (one_parameter k z r name_2 shown_2 op (at + length (assigned name shown)) now after xs t (rest_behind z (assigned name shown) (assigned name_2 shown_2 ++ 41 ∷ r) at there)
    (subst (λ n. Lexes z n xs) place more))

-- ---- words and numbers as values

and_plain : IsPlain (codes "AND")
unfolding chars lib.Utf8.encode
and_plain = (refl, (codes "AND", (refl, refl)))

or_plain : IsPlain (codes "OR")
unfolding chars lib.Utf8.encode
or_plain = (refl, (codes "OR", (refl, refl)))

any_plain : IsPlain (codes "ANY")
unfolding chars lib.Utf8.encode
any_plain = (refl, (codes "ANY", (refl, refl)))

near_plain : IsPlain (codes "NEAR")
unfolding chars lib.Utf8.encode
near_plain = (refl, (codes "NEAR", (refl, refl)))

onear_plain : IsPlain (codes "ONEAR")
unfolding chars lib.Utf8.encode
onear_plain = (refl, (codes "ONEAR", (refl, refl)))

gt_plain : IsPlain (codes "GT")
unfolding chars lib.Utf8.encode
gt_plain = (refl, (codes "GT", (refl, refl)))

ge_plain : IsPlain (codes "GE")
unfolding chars lib.Utf8.encode
ge_plain = (refl, (codes "GE", (refl, refl)))

lt_plain : IsPlain (codes "LT")
unfolding chars lib.Utf8.encode
lt_plain = (refl, (codes "LT", (refl, refl)))

le_plain : IsPlain (codes "LE")
unfolding chars lib.Utf8.encode
le_plain = (refl, (codes "LE", (refl, refl)))

lower_plain : (above : Bool) → IsPlain (lower_word above)
lower_plain true = gt_plain
lower_plain false = ge_plain

upper_plain : (below : Bool) → IsPlain (upper_word below)
upper_plain true = lt_plain
upper_plain false = le_plain

digits_number : (ds : TextBytes) → 0 < length ds → list_all is_ascii_digit ds ≡ true → is_number ds ≡ true
digits_number [] some all = absurd (omega arith)
digits_number (b ∷ ds) some all =
    let first = both_left (is_ascii_digit b) (list_all is_ascii_digit ds) all in
    let plain : (b == 45) ≡ false = grind (arith, nat_tests, first) in rw plain all

some_digits : (ds : TextBytes) → 0 < length ds → list_all is_ascii_digit ds ≡ true → are_digits ds ≡ true
some_digits [] some all = absurd (omega arith)
some_digits (b ∷ ds) some all = all

decimal_number : (n : ℕ) → n < 2 ^ 64 → is_number (decimal n) ≡ true
decimal_number n wide = digits_number (decimal n) (decimal_nonempty n wide) (decimal_digits n wide)

signed_number : (cb : ℤ) → unsigned_abs cb < 2 ^ 64 → is_number (signed_decimal cb) ≡ true
signed_number (pos n) wide = decimal_number n (omega arith)
signed_number (negsuc n) wide = let small : suc n < 2 ^ 64 = omega arith in some_digits (decimal (suc n)) (decimal_nonempty (suc n) small) (decimal_digits (suc n) small)

module _ (z name shown : TextBytes) (op : Operator) (at : ℕ) (before now : Given) (p : Parameter) (named_so : IsName name) (is : named name (parameters op) ≡ Some p)
    (reads : (x : FLexeme) (ls : List FLexeme) → parameter_by (Some p) z before x ls ≡ (wanted z ls >>= λ v. with_value (Some p) (content z v) x.from before)) where
  number_sets : is_number shown ≡ true → with_value (Some p) shown (at + 1) before ≡ Ok now → Sets z op at name shown before now
  number_sets number set = record {
    value = shown;
    parameter = p;
    is_name = named_so;
    is = is;
    reads = reads;
    set = set;
    valued = λ place r xs e stop more. number_reads z r shown place xs number e stop more;
  }

word_sets : (z name word : TextBytes) (op : Operator) (at : ℕ) (before now : Given) (p : Parameter) → IsName name → named name (parameters op) ≡ Some p
    → ((x : FLexeme) (ls : List FLexeme) → parameter_by (Some p) z before x ls ≡ (wanted z ls >>= λ v. with_value (Some p) (content z v) x.from before))
    → IsPlain word → with_value (Some p) word (at + 1) before ≡ Ok now → Sets z op at name (word_value word) before now
word_sets z name word op at before now p named_so is reads plain set = record {
  value = word;
  parameter = p;
  is_name = named_so;
  is = is;
  reads = reads;
  set = set;
  valued = λ place r xs e stop more. word_reads z r word place xs plain e more;
}

-- ---- the parameters of each operator

n_name : IsName (codes "N")
n_name = record { letter = refl; word = refl }

from_name : IsName (codes "from")
from_name = record { letter = refl; word = refl }

to_name : IsName (codes "to")
to_name = record { letter = refl; word = refl }

mode_name : IsName (codes "mode")
mode_name = record { letter = refl; word = refl }

cb_name : IsName (codes "cb")
cb_name = record { letter = refl; word = refl }

near_limit : greatest_distance < 2 ^ 64
near_limit = omega arith

count_limit : greatest_count < 2 ^ 64
count_limit = omega arith

boost_limit : greatest_boost < 2 ^ 64
boost_limit = omega arith

abbrev with_n : ℕ → ℕ → Given → Given
with_n n at g = record g { n = Some (record { value = n; at = at + 1 }) }

-- a distance where none is given yet
n_set : (n at : ℕ) (g : Given) → n ≤ greatest_distance → g.n ≡ None → with_value (Some parameter.Distance) (decimal n) (at + 1) g ≡ Ok (with_n n at g)
n_set n at g small none = rw (natural_decimal n greatest_distance small near_limit, none) refl

n_sets : (z : TextBytes) (op : Operator) (n at : ℕ) (g : Given) → named (codes "N") (parameters op) ≡ Some parameter.Distance → n ≤ greatest_distance → g.n ≡ None
    → Sets z op at (codes "N") (decimal n) g (with_n n at g)
n_sets z op n at g is small none =
    let low = near_limit in
    number_sets z (codes "N") (decimal n) op at g (with_n n at g) parameter.Distance n_name is (λ x ls. refl) (decimal_number n (omega arith)) (n_set n at g small none)

from_set : (n at : ℕ) → n ≤ greatest_count → with_value (Some parameter.From) (decimal n) (at + 1) nothing_given ≡ Ok (record nothing_given { from = Some n })
from_set n at small = rw (natural_decimal n greatest_count small count_limit) refl

from_sets : (z : TextBytes) (n at : ℕ) → n ≤ greatest_count → Sets z operator.Count at (codes "from") (decimal n) nothing_given (record nothing_given { from = Some n })
from_sets z n at small =
    let low = count_limit in
    number_sets z (codes "from") (decimal n) operator.Count at nothing_given (record nothing_given { from = Some n }) parameter.From from_name refl (λ x ls. refl) (decimal_number n (omega arith)) (from_set n at small)

to_set : (n m at : ℕ) → m ≤ greatest_count → with_value (Some parameter.To) (decimal m) (at + 1) (record nothing_given { from = Some n }) ≡ Ok (record nothing_given { from = Some n; to = Some m })
to_set n m at small = rw (natural_decimal m greatest_count small count_limit) refl

to_sets : (z : TextBytes) (n m at : ℕ) → m ≤ greatest_count → Sets z operator.Count at (codes "to") (decimal m) (record nothing_given { from = Some n }) (record nothing_given { from = Some n; to = Some m })
to_sets z n m at small =
    let low = count_limit in
    number_sets z (codes "to") (decimal m) operator.Count at (record nothing_given { from = Some n }) (record nothing_given { from = Some n; to = Some m }) parameter.To to_name refl (λ x ls. refl)
    (decimal_number m (omega arith)) (to_set n m at small)

cb_set : (cb : ℤ) (at : ℕ) → unsigned_abs cb ≤ greatest_boost → with_value (Some parameter.Cb) (signed_decimal cb) (at + 1) nothing_given ≡ Ok (record nothing_given { cb = Some cb })
cb_set cb at small = rw (whole_decimal cb greatest_boost small boost_limit) refl

cb_sets : (z : TextBytes) (cb : ℤ) (at : ℕ) → unsigned_abs cb ≤ greatest_boost → Sets z operator.Xrank at (codes "cb") (signed_decimal cb) nothing_given (record nothing_given { cb = Some cb })
cb_sets z cb at small =
    let low = boost_limit in
    number_sets z (codes "cb") (signed_decimal cb) operator.Xrank at nothing_given (record nothing_given { cb = Some cb }) parameter.Cb cb_name refl (λ x ls. refl)
    (signed_number cb (omega arith)) (cb_set cb at small)

lower_set : (above : Bool) (at : ℕ) → with_value (Some parameter.Lower) (lower_word above) (at + 1) nothing_given ≡ Ok (record nothing_given { above = Some above })
lower_set true at = refl
lower_set false at = refl

upper_set : (above below : Bool) (at : ℕ) → with_value (Some parameter.Upper) (upper_word below) (at + 1) (record nothing_given { above = Some above }) ≡ Ok (record nothing_given { above = Some above; below = Some below })
upper_set above true at = refl
upper_set above false at = refl

lower_sets : (z : TextBytes) (above : Bool) (at : ℕ) → Sets z operator.Range at (codes "from") (word_value (lower_word above)) nothing_given (record nothing_given { above = Some above })
lower_sets z above at =
    word_sets z (codes "from") (lower_word above) operator.Range at nothing_given (record nothing_given { above = Some above }) parameter.Lower from_name refl (λ x ls. refl) (lower_plain above) (lower_set above at)

upper_sets : (z : TextBytes) (above below : Bool) (at : ℕ) → Sets z operator.Range at (codes "to") (word_value (upper_word below)) (record nothing_given { above = Some above }) (record nothing_given { above = Some above; below = Some below })
upper_sets z above below at =
    word_sets z (codes "to") (upper_word below) operator.Range at (record nothing_given { above = Some above }) (record nothing_given { above = Some above; below = Some below }) parameter.Upper to_name refl (λ x ls. refl)
    (upper_plain below) (upper_set above below at)

pub mode_sets : (z : TextBytes) (m : Mode) (word : TextBytes) (at : ℕ) → IsPlain word → with_value (Some parameter.ModeName) word (at + 1) nothing_given ≡ Ok (record nothing_given { mode = Some m })
    → Sets z operator.Str at (codes "mode") (word_value word) nothing_given (record nothing_given { mode = Some m })
mode_sets z m word at plain set =
    word_sets z (codes "mode") word operator.Str at nothing_given (record nothing_given { mode = Some m }) parameter.ModeName mode_name refl (λ x ls. refl) plain set

-- From a place on stand an operator's parameters and `)`, and these lexemes behind them.
pub record ReadsParameters (k : ℕ) (z : TextBytes) (o : Op) (at : ℕ) (xs : List FLexeme) : Type 0 where
  pub given : Given
  pub closes : Closes k z (operator_in o) at nothing_given given xs
  pub makes : (close : ℕ) → operation (operator_in o) given close ≡ Ok o

module _ (k : ℕ) (z r : TextBytes) (at : ℕ) (xs : List FLexeme) where
  without : (o : Op) → drop at z ≡ 41 ∷ r → Lexes z (at + 0 + 1) xs → ((close : ℕ) → operation (operator_in o) nothing_given close ≡ Ok o) → ReadsParameters k z o at xs
  without o e more makes = record { given = nothing_given; closes = no_parameter k z r (operator_in o) at nothing_given xs e more; makes = makes }

  with_mode : (m : Mode) (n : ℕ) (word : TextBytes) → IsPlain word → with_value (Some parameter.ModeName) word (at + 1) nothing_given ≡ Ok (record nothing_given { mode = Some m })
      → drop at z ≡ assigned (codes "mode") (word_value word) ++ 41 ∷ r → Lexes z (at + length (assigned (codes "mode") (word_value word)) + 1) xs
      → ((close : ℕ) → operation operator.Str (record nothing_given { mode = Some m }) close ≡ Ok (op.Str m n)) → ReadsParameters k z (op.Str m n) at xs
  with_mode m n word plain set e more makes = record {
    given = record nothing_given { mode = Some m };
    closes = one_parameter k z r (codes "mode") (word_value word) operator.Str at nothing_given (record nothing_given { mode = Some m }) xs (mode_sets z m word at plain set) e more;
    makes = makes;
  }

  with_distance : (m : Mode) (n : ℕ) (word : TextBytes) → IsPlain word → with_value (Some parameter.ModeName) word (at + 1) nothing_given ≡ Ok (record nothing_given { mode = Some m }) → n ≤ greatest_distance
      → drop at z ≡ assigned (codes "mode") (word_value word) ++ distance_text n ++ 41 ∷ r → Lexes z (at + length (assigned (codes "mode") (word_value word) ++ distance_text n) + 1) xs
      → ((place close : ℕ) → operation operator.Str (with_n n place (record nothing_given { mode = Some m })) close ≡ Ok (op.Str m n)) → ReadsParameters k z (op.Str m n) at xs
  with_distance m n word plain set small e more makes =
      let moded = record nothing_given { mode = Some m } in
      let place = at + length (assigned (codes "mode") (word_value word)) in
      record {
        given = with_n n place moded;
        closes = two_parameters k z r (codes "mode") (word_value word) (codes "N") (decimal n) operator.Str at nothing_given moded (with_n n place moded) xs
            (mode_sets z m word at plain set) (n_sets z operator.Str n place moded refl small refl) e more;
        makes = makes place;
      }

  pub parameters_read : (o : Op) → IsWithinLimits o → drop at z ≡ parameters_text o ++ 41 ∷ r → Lexes z (at + length (parameters_text o) + 1) xs → ReadsParameters k z o at xs
  parameters_read op.And limits e more = without op.And e more (λ close. refl)
  parameters_read op.Or limits e more = without op.Or e more (λ close. refl)
  parameters_read op.Any limits e more = without op.Any e more (λ close. refl)
  parameters_read op.AndNot limits e more = without op.AndNot e more (λ close. refl)
  parameters_read op.Not limits e more = without op.Not e more (λ close. refl)
  parameters_read (op.Near n) limits e more = record {
    given = with_n n at nothing_given;
    closes = one_parameter k z r (codes "N") (decimal n) operator.Near at nothing_given (with_n n at nothing_given) xs (n_sets z operator.Near n at nothing_given refl limits refl) e more;
    makes = λ close. refl;
  }
  parameters_read (op.Onear n) limits e more = record {
    given = with_n n at nothing_given;
    closes = one_parameter k z r (codes "N") (decimal n) operator.Onear at nothing_given (with_n n at nothing_given) xs (n_sets z operator.Onear n at nothing_given refl limits refl) e more;
    makes = λ close. refl;
  }
  parameters_read op.Words limits e more = without op.Words e more (λ close. refl)
  parameters_read (op.Count from None) limits e more =
      let text = assigned (codes "from") (decimal from) in
      record {
        given = record nothing_given { from = Some from };
        closes = one_parameter k z r (codes "from") (decimal from) operator.Count at nothing_given (record nothing_given { from = Some from }) xs (from_sets z from at limits.0)
            (e ∙ ap (λ l. l ++ 41 ∷ r) (append-nil text)) (subst (λ l. Lexes z (at + length l + 1) xs) (append-nil text) more);
        makes = λ close. refl;
      }
  parameters_read (op.Count from (Some to)) limits e more = record {
    given = record nothing_given { from = Some from; to = Some to };
    closes = two_parameters k z r (codes "from") (decimal from) (codes "to") (decimal to) operator.Count at nothing_given (record nothing_given { from = Some from })
        (record nothing_given { from = Some from; to = Some to }) xs (from_sets z from at limits.0) (to_sets z from to (at + length (assigned (codes "from") (decimal from))) limits.1) e more;
    makes = λ close. refl;
  }
  parameters_read (op.Range above below) limits e more = record {
    given = record nothing_given { above = Some above; below = Some below };
    closes = two_parameters k z r (codes "from") (word_value (lower_word above)) (codes "to") (word_value (upper_word below)) operator.Range at nothing_given (record nothing_given { above = Some above })
        (record nothing_given { above = Some above; below = Some below }) xs (lower_sets z above at) (upper_sets z above below (at + length (assigned (codes "from") (word_value (lower_word above))))) e more;
    makes = λ close. refl;
  }
  parameters_read op.StartsWith limits e more = without op.StartsWith e more (λ close. refl)
  parameters_read op.EndsWith limits e more = without op.EndsWith e more (λ close. refl)
  parameters_read op.Equals limits e more = without op.Equals e more (λ close. refl)
  parameters_read op.Filter limits e more = without op.Filter e more (λ close. refl)
  parameters_read (op.Str mode.Phrase n) limits e more = without (op.Str mode.Phrase n) e more (λ close. ap (λ d. Ok (op.Str mode.Phrase d)) (sym limits))
  parameters_read (op.Str mode.And n) limits e more = with_mode mode.And n (codes "AND") and_plain refl e more (λ close. ap (λ d. Ok (op.Str mode.And d)) (sym limits))
  parameters_read (op.Str mode.Or n) limits e more = with_mode mode.Or n (codes "OR") or_plain refl e more (λ close. ap (λ d. Ok (op.Str mode.Or d)) (sym limits))
  parameters_read (op.Str mode.Any n) limits e more = with_mode mode.Any n (codes "ANY") any_plain refl e more (λ close. ap (λ d. Ok (op.Str mode.Any d)) (sym limits))
  parameters_read (op.Str mode.Near n) limits e more = with_distance mode.Near n (codes "NEAR") near_plain refl limits e more (λ place close. refl)
  parameters_read (op.Str mode.Onear n) limits e more = with_distance mode.Onear n (codes "ONEAR") onear_plain refl limits e more (λ place close. refl)
  parameters_read op.Int limits e more = without op.Int e more (λ close. refl)
  parameters_read op.DateTime limits e more = without op.DateTime e more (λ close. refl)
  parameters_read op.Phrase limits e more = without op.Phrase e more (λ close. refl)
  parameters_read (op.Xrank cb) limits e more = record {
    given = record nothing_given { cb = Some cb };
    closes = one_parameter k z r (codes "cb") (signed_decimal cb) operator.Xrank at nothing_given (record nothing_given { cb = Some cb }) xs (cb_sets z cb at limits) e more;
    makes = λ close. refl;
  }
