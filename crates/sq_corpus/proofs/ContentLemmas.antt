-- What the fields of items and values spell lies in its range.
use Rattle.std.proofs.Common.{◌≡◌, ℕ, ◌<◌, ◌≤◌, nat_le, nat_lt, Bool, true, false, cond, List, length, refl, subst, arith, Option, Some, None, option_map, Result, Ok, Err, IfSome, ℤ, pos, negsuc, neg_ℤ, ◌≤ℤ◌, int_le, unsigned_abs}
use Rattle.std.specs.Prelude.{codes}
use Rattle.std.specs.Str.{bytes_eq}
use Rattle.std.proofs.lemmas.Bool.Decides.{nat_tests}
use Rattle.std.proofs.lemmas.Int.{ints}
use Rattle.sq_schema.specs.declared.interval.Interval.{Interval}
use Rattle.sq_schema.specs.declared.property.Kind.{Kind}
use Rattle.sq_schema.specs.declared.property.Kind.TheVariants.{Text, Integer, DateTime, YesNo}
use Rattle.sq_schema.specs.declared.values.NumberFault.{NumberFault}
use Rattle.sq_schema.specs.declared.values.NumberFault.TheVariants.{Shape, Range}
use Rattle.sq_schema.specs.Dates.{interval_of}
use Rattle.sq_schema.specs.Moments.{IsInYears}
use Rattle.sq_schema.specs.Values.{is_numeral, behind_minus, number_of}
use Rattle.std.specs.Str.Parse.{starts_with_minus, digits_value}
use Rattle.sq_schema.specs.Bounds.{is_from_to, least_moment, greatest_moment, is_integer_value, is_moment_value}
use Rattle.sq_schema.specs.Laws.{DatesLieInYears}
use Rattle.sq_model.specs.declared.corpus.Content.{Content}
use Rattle.sq_model.specs.declared.corpus.Content.TheVariants.{Words, Number, Moment, Flag}
use Rattle.sq_model.specs.Limits.{least_rank, greatest_rank}
use Rattle.sq_model.specs.Valid.{is_text, has_kind, content_bytes}
use Rattle.sq_corpus.specs.Escapes.{text_of}
use Rattle.sq_corpus.specs.Lines.{number_from_to, item_number, rank_of, words_of, integer_of, moment_of, flag_of, content_of}
use Rattle.sq_corpus.proofs.CleanLemmas.{Clean, both_true, left_true, right_true, clean_utf8, clean_text}
use Rattle.sq_corpus.proofs.FineLemmas.{fine_text}
use Rattle.sq_corpus.proofs.SoundLemmas.{lt_true}

-- Numbers.

from_at : (t : Bool) (first last m n : ℤ) → is_from_to first last m ≡ t → cond t (Some m) None ≡ Some n → is_from_to first last n ≡ true
from_at true first last m n test e = let is : m ≡ n = cc in subst (λ k. is_from_to first last k ≡ true) is test
from_at false first last m n test e = cc

from_to : (first last : ℤ) (o : Result ℤ NumberFault) (n : ℤ) → number_from_to first last o ≡ Some n → is_from_to first last n ≡ true
unfolding number_from_to
from_to first last (Ok m) n e = from_at (is_from_to first last m) first last m n refl e
from_to first last (Err fault) n e = cc

pub rank_in : (field : List ℕ) (rank : ℤ) → rank_of field ≡ Some rank → is_from_to least_rank greatest_rank rank ≡ true
rank_in field rank e = from_to least_rank greatest_rank (number_of field) rank e

abs_from : (o : Option ℤ) (k : ℕ) → option_map unsigned_abs o ≡ Some k → (n : ℤ) × (o ≡ Some n) × (unsigned_abs n ≡ k)
abs_from None k e = cc
abs_from (Some n) k e = let is : unsigned_abs n ≡ k = cc in (n, refl, is)

pub record ItemNumber (k : ℕ) : Type 0 where
  pub low : nat_le 1 k ≡ true
  pub high : nat_le k 4_294_967_294 ≡ true

number_at : (n : ℤ) → is_from_to (pos 1) (pos 4_294_967_294) n ≡ true → ItemNumber (unsigned_abs n)
number_at (pos m) test = record {
  low = grind (arith, ints, nat_tests, left_true (int_le (pos 1) (pos m)) (int_le (pos m) (pos 4_294_967_294)) test);
  high = grind (arith, ints, nat_tests, right_true (int_le (pos 1) (pos m)) (int_le (pos m) (pos 4_294_967_294)) test);
}
number_at (negsuc m) test =
    let first : int_le (pos 1) (negsuc m) ≡ true = left_true (int_le (pos 1) (negsuc m)) (int_le (negsuc m) (pos 4_294_967_294)) test in
    absurd (grind (arith, ints, nat_tests, first))

pub number_in : (field : List ℕ) (k : ℕ) → item_number field ≡ Some k → ItemNumber k
number_in field k e =
    let from = abs_from (number_from_to (pos 1) (pos 4_294_967_294) (number_of field)) k e in
    subst ItemNumber from.2 (number_at from.0 (from_to (pos 1) (pos 4_294_967_294) (number_of field) from.0 from.1))

fitting_at : (numeral fits : Bool) (m n : ℤ) → is_integer_value m ≡ fits → cond numeral (cond fits (Ok m) (Err Range)) (Err Shape) ≡ Ok n
    → is_integer_value n ≡ true
fitting_at true true m n is e = let same : m ≡ n = cc in subst (λ k. is_integer_value k ≡ true) same is
fitting_at true false m n is e = cc
fitting_at false fits m n is e = cc

integer_in : (field : List ℕ) (n : ℤ) → number_of field ≡ Ok n → is_integer_value n ≡ true
unfolding number_of
integer_in field n e =
    let size : ℕ = digits_value 10 (behind_minus field) in
    let m : ℤ = cond (starts_with_minus field) (neg_ℤ (pos size)) (pos size) in
    fitting_at (is_numeral (behind_minus field)) (is_integer_value m) m n refl e

-- Contents.

pub record GoodContent (kind : Kind) (field : List ℕ) (content : Content) : Type 0 where
  pub good : has_kind kind content ≡ true
  pub bytes : content_bytes content ≤ length field

pub text_good : (text : List ℕ) (n : ℕ) → Clean text → length text ≤ n → n < 67_108_864 → is_text text ≡ true
text_good text n clean within short = both_true _ _ (both_true _ _ (clean_utf8 text clean) (clean_text text clean)) (lt_true (length text) 67_108_864 (omega (arith, within, short)))

words_good : (o : Option (List ℕ)) (field : List ℕ) (content : Content) → Clean field → length field < 67_108_864
    → text_of field ≡ o → words_of o ≡ Ok content → GoodContent Text field content
words_good None field content clean short spelled e = cc
words_good (Some text) field content clean short spelled e =
    let is : Words text ≡ content = cc in
    let fine = fine_text field text clean spelled in
    subst (GoodContent Text field) is (record { good = text_good text (length field) fine.clean fine.short short; bytes = fine.short })

integer_good : (o : Result ℤ NumberFault) (field : List ℕ) (content : Content) → number_of field ≡ o → integer_of o ≡ Ok content
    → GoodContent Integer field content
integer_good (Ok n) field content spelled e =
    let is : Number n ≡ content = cc in
    subst (GoodContent Integer field) is (record { good = integer_in field n spelled; bytes = omega arith })
integer_good (Err fault) field content spelled e = cc

moment_in : (n : ℤ) → (least_moment ≤ℤ n) × (n ≤ℤ greatest_moment) → is_moment_value n ≡ true
moment_in n h =
    both_true (int_le least_moment n) (int_le n greatest_moment) (grind (arith, ints, h.0)) (grind (arith, ints, h.1))

moment_at : (code : ℕ) (t : Bool) (interval : Interval) (field : List ℕ) (content : Content) → IsInYears interval
    → cond t (Ok (Moment interval.first)) (Err code) ≡ Ok content → GoodContent DateTime field content
moment_at code true interval field content years e =
    let is : Moment interval.first ≡ content = cc in
    subst (GoodContent DateTime field) is (record { good = moment_in interval.first years.first; bytes = omega arith })
moment_at code false interval field content years e = cc

moment_good : (dates : DatesLieInYears) (o : Option Interval) (field : List ℕ) (content : Content) → interval_of field ≡ o → moment_of field o ≡ Ok content
    → GoodContent DateTime field content
unfolding moment_of
moment_good dates None field content spelled e = cc
moment_good dates (Some interval) field content spelled e =
    let P : Option Interval → Type 0 = λ o. IfSome o IsInYears in
    moment_at 607 (nat_lt 10 (length field)) interval field content (subst P spelled (dates field)) e

flag_at : (code : ℕ) (one two : Bool) (field : List ℕ) (content : Content) → cond one (Ok (Flag true)) (cond two (Ok (Flag false)) (Err code)) ≡ Ok content
    → GoodContent YesNo field content
flag_at code true two field content e =
    let is : Flag true ≡ content = cc in subst (GoodContent YesNo field) is (record { good = refl; bytes = omega arith })
flag_at code false true field content e =
    let is : Flag false ≡ content = cc in subst (GoodContent YesNo field) is (record { good = refl; bytes = omega arith })
flag_at code false false field content e = cc

flag_good : (field : List ℕ) (content : Content) → flag_of field ≡ Ok content → GoodContent YesNo field content
unfolding flag_of
flag_good field content e = flag_at 607 (bytes_eq field (codes "true")) (bytes_eq field (codes "false")) field content e

pub content_good : (dates : DatesLieInYears) (kind : Kind) (field : List ℕ) (content : Content) → Clean field → length field < 67_108_864 → content_of kind field ≡ Ok content
    → GoodContent kind field content
unfolding content_of
content_good dates Text field content clean short e = words_good (text_of field) field content clean short refl e
content_good dates Integer field content clean short e = integer_good (number_of field) field content refl e
content_good dates DateTime field content clean short e = moment_good dates (interval_of field) field content refl e
content_good dates YesNo field content clean short e = flag_good field content e
