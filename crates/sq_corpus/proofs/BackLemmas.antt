-- A content is read back from what is written of it.
use Rattle.std.proofs.Common.{◌≡◌, ℕ, ◌+◌, ◌/◌, ◌%◌, ◌<◌, ◌≤◌, lit<, lit≤, Bool, true, false, cond, nat_lt, List, [], ◌∷◌, length, refl, ap, sym, subst, ◌∙◌, arith, Option, Some, Ok, Err, ℤ, ◌≤ℤ◌, int_le, unsigned_abs}
use Rattle.std.specs.Prelude.{codes}
use Rattle.std.proofs.lemmas.Int.{ints}
use Rattle.std.specs.Fmt.{signed_decimal}
use Rattle.sq_schema.specs.declared.interval.Interval.{Interval}
use Rattle.sq_schema.specs.declared.property.Kind.{Kind}
use Rattle.sq_schema.specs.declared.property.Kind.TheVariants.{Text, Integer, DateTime, YesNo}
use Rattle.sq_schema.specs.Dates.{interval_of}
use Rattle.sq_schema.specs.Intervals.{single}
use Rattle.sq_schema.specs.Bounds.{is_from_to, least_number, greatest_number, least_moment, greatest_moment, is_moment_value}
use Rattle.sq_schema.specs.Laws.{NumbersReadBack, MomentsReadBack, MomentsAreWritten}
use Rattle.sq_schema.specs.Moments.{IsMoment, IsMomentText, civil_text, four_text, two_text, text_of_moment}
use Rattle.sq_schema.specs.Values.{number_of}
use Rattle.sq_model.specs.declared.corpus.Content.{Content}
use Rattle.sq_model.specs.declared.corpus.Content.TheVariants.{Words, Number, Moment, Flag}
use Rattle.sq_model.specs.Shown.{shown_text}
use Rattle.sq_model.specs.Valid.{is_text, has_kind}
use Rattle.sq_corpus.specs.Lines.{words_of, integer_of, moment_of, flag_of, content_of}
use Rattle.sq_corpus.specs.Written.{spelled}
use Rattle.sq_corpus.proofs.CleanLemmas.{left_true, right_true}
use Rattle.sq_corpus.proofs.PlainLemmas.{Plain, spelt_nil}
use Rattle.sq_corpus.proofs.SpelledLemmas.{is_bare, Bare, bare_same, bare_plain, cons_bare, bare_word, spelled_plain, spelled_back, number_bare, fits_64}

cons_digit : (q : ℕ) (rest : List ℕ) → q < 10 → Bare rest → Bare ((48 + q) ∷ rest)
cons_digit q rest low behind = cons_bare (48 + q) rest (omega arith) (omega (arith, low)) behind

day_below : (d : ℕ) (a b c : Bool) → d ≤ cond a (cond b 29 28) (cond c 30 31) → d < 100
day_below d true true c most = omega (arith, most)
day_below d true false c most = omega (arith, most)
day_below d false b true most = omega (arith, most)
day_below d false b false most = omega (arith, most)

moment_bare : (n : ℤ) (field : List ℕ) (written : IsMomentText n field) → Bare (civil_text written.date written.time)
unfolding civil_text four_text two_text
moment_bare n field written =
    let date = written.date in
    let time = written.time in
    let y = unsigned_abs date.year in
    cons_digit (y / 1000) _ (omega (arith, ints, date.year_in))
    (cons_digit (y / 100 % 10) _ (omega arith)
    (cons_digit (y / 10 % 10) _ (omega arith)
    (cons_digit (y % 10) _ (omega arith)
    (cons_bare 45 _ (lit≤ tt) (lit< tt)
    (cons_digit (date.month / 10) _ (omega (arith, date.month_in))
    (cons_digit (date.month % 10) _ (omega arith)
    (cons_bare 45 _ (lit≤ tt) (lit< tt)
    (cons_digit (date.day / 10) _ (omega (arith, day_below date.day _ _ _ date.day_in.1))
    (cons_digit (date.day % 10) _ (omega arith)
    (cons_bare 84 _ (lit≤ tt) (lit< tt)
    (cons_digit (time.hour / 10) _ (omega (arith, time.hour_in))
    (cons_digit (time.hour % 10) _ (omega arith)
    (cons_bare 58 _ (lit≤ tt) (lit< tt)
    (cons_digit (time.minute / 10) _ (omega (arith, time.minute_in))
    (cons_digit (time.minute % 10) _ (omega arith)
    (cons_bare 58 _ (lit≤ tt) (lit< tt)
    (cons_digit (time.second / 10) _ (omega (arith, time.second_in))
    (cons_digit (time.second % 10) _ (omega arith)
    (cons_bare 90 [] (lit≤ tt) (lit< tt) (spelt_nil is_bare))))))))))))))))))))

moment_long : (n : ℤ) (field : List ℕ) (written : IsMomentText n field) → nat_lt 10 (length (civil_text written.date written.time)) ≡ true
unfolding civil_text four_text two_text
moment_long n field written = refl

-- what is written of the content stands in a line as it is, and spells the content
pub record Back (kind : Kind) (content : Content) : Type 0 where
  pub plain : Plain (spelled (shown_text content))
  pub reads : content_of kind (spelled (shown_text content)) ≡ Ok content

-- a text without escapes
bare_back : (kind : Kind) (content : Content) → Bare (shown_text content) → content_of kind (shown_text content) ≡ Ok content → Back kind content
bare_back kind content bare reads =
    let same : spelled (shown_text content) ≡ shown_text content = bare_same (shown_text content) bare in
    let P : List ℕ → Type 0 = λ t. Plain t in
    record { plain = subst P (sym same) (bare_plain (shown_text content) bare); reads = ap (content_of kind) same ∙ reads }

words_back : (text : List ℕ) → is_text text ≡ true → Back Text (Words text)
unfolding content_of
words_back text good = record { plain = spelled_plain text good; reads = ap words_of (spelled_back text good) }

flag_back : (b : Bool) → Back YesNo (Flag b)
unfolding content_of flag_of
flag_back true = bare_back YesNo (Flag true) (bare_word (codes "true") refl) refl
flag_back false = bare_back YesNo (Flag false) (bare_word (codes "false") refl) refl

moment_at : (o : Option Interval) (t : Bool) (n : ℤ) (field : List ℕ) → nat_lt 10 (length field) ≡ t → o ≡ Some (single n) → t ≡ true
    → moment_of field o ≡ Ok (Moment n)
unfolding moment_of
moment_at o t n field long spelled is =
    ap (moment_of field) spelled ∙ ap (λ b. cond b (Ok (Moment n)) (Err 607)) (long ∙ is)

is_moment : (n : ℤ) → is_moment_value n ≡ true → IsMoment n
is_moment n good =
    let above : int_le least_moment n ≡ true = left_true (int_le least_moment n) (int_le n greatest_moment) good in
    let below : int_le n greatest_moment ≡ true = right_true (int_le least_moment n) (int_le n greatest_moment) good in
    (grind (arith, ints, above), grind (arith, ints, below))

module _ (numbers : NumbersReadBack) (texts : MomentsAreWritten) (moments : MomentsReadBack) where
  pub number_back : (low high n : ℤ) → least_number ≤ℤ low → high ≤ℤ greatest_number
      → is_from_to low high n ≡ true → Bare (signed_decimal n) × (number_of (signed_decimal n) ≡ Ok n)
  number_back low high n first last good =
      let reads = numbers n (fits_64 low high n first last good) in
      (number_bare (signed_decimal n) n reads, reads)

  integer_back : (n : ℤ) → has_kind Integer (Number n) ≡ true → Back Integer (Number n)
  unfolding content_of
  integer_back n good =
      let back = number_back least_number greatest_number n (grind (arith, ints)) (grind (arith, ints)) good in
      bare_back Integer (Number n) back.0 (ap integer_of back.1)

  date_back : (n : ℤ) → has_kind DateTime (Moment n) ≡ true → Back DateTime (Moment n)
  unfolding content_of
  date_back n good =
      let field : List ℕ = text_of_moment n in
      let written : IsMomentText n (text_of_moment n) = texts n (is_moment n good) in
      let P : List ℕ → Type 0 = λ f. Bare f in
      let Q : List ℕ → Type 0 = λ f. nat_lt 10 (length f) ≡ true in
      bare_back DateTime (Moment n) (subst P (sym written.written) (moment_bare n field written))
      (moment_at (interval_of field) true n field (subst Q (sym written.written) (moment_long n field written)) (moments n field (is_moment n good) written) refl)

  pub content_back : (kind : Kind) (content : Content) → has_kind kind content ≡ true → Back kind content
  content_back Text (Words text) good = words_back text good
  content_back Integer (Number n) good = integer_back n good
  content_back DateTime (Moment n) good = date_back n good
  content_back YesNo (Flag b) good = flag_back b
  content_back Text (Number n) good = cc
  content_back Text (Moment n) good = cc
  content_back Text (Flag b) good = cc
  content_back Integer (Words text) good = cc
  content_back Integer (Moment n) good = cc
  content_back Integer (Flag b) good = cc
  content_back DateTime (Words text) good = cc
  content_back DateTime (Number n) good = cc
  content_back DateTime (Flag b) good = cc
  content_back YesNo (Words text) good = cc
  content_back YesNo (Number n) good = cc
  content_back YesNo (Moment n) good = cc
