-- The texts of numbers, moments and flags have no star and at most twenty bytes, and the names of a schema are names of scopes.
use Rattle.std.proofs.Common.{◌≡◌, ℕ, zero, suc, ◌+◌, ◌-◌, ◌/◌, ◌%◌, ◌^◌, ◌<◌, ◌≤◌, ◌∙◌, Bool, true, false, not, ◌&&◌, ◌==◌, List, [], ◌∷◌, ◌++◌, length, take, Option, Some, None, refl, ap, rules, arith, codes, ℤ, pos, negsuc, neg_ℤ, int_le, int_eq}
use Rattle.std.specs.Prelude.{if◌then◌else◌, nat_le, position, slice_get, slice_index, unsigned_abs}
use Rattle.std.specs.Fmt.{decimal, signed_decimal}
use Rattle.std.specs.Char.{is_ascii_digit, is_ascii_alphabetic}
use Rattle.std.specs.Int.{int_rem_euclid}
use Rattle.std.specs.List.{list_all, prefix_len}
use Rattle.std.specs.Str.Parse.{digits_value}
use Rattle.std.proofs.lemmas.Bool.{false≢true, and_parts, and_from, le-ltb, ne_eqb}
use Rattle.std.proofs.lemmas.Bool.Decides.{nat_tests}
use Rattle.std.proofs.lemmas.Fmt.{digits_decimal, length-decimal-le}
use Rattle.std.proofs.lemmas.Int.{ints}
use Rattle.std.proofs.lemmas.List.Folds.{list_all-append}
use Rattle.std.proofs.lemmas.Option.{slice_get_within}
use Rattle.std.proofs.lemmas.Str.Parse.{IsNumeralModel, numerals_by_value}
use Rattle.sq_schema.specs.declared.property.Kind.{Kind}
use Rattle.sq_schema.specs.declared.property.Kind.TheVariants as kind
use Rattle.sq_schema.specs.declared.property.Property.{Property}
use Rattle.sq_schema.specs.Civil.{Civil, civil_of_day}
use Rattle.sq_schema.specs.Moments.{text_of_moment, date_text, time_text, two_text, four_text}
use Rattle.sq_schema.specs.Intervals.{day_of_moment}
use Rattle.sq_schema.specs.Names.{is_name_byte, is_name}
use Rattle.sq_schema.specs.Properties.{IsSchema, is_sound, fault_behind}
use Rattle.sq_tokens.specs.Pattern.{has_good_star, without_good_star, first_bad_star}
use Rattle.sq_schema.specs.Bounds.{least_number, greatest_number, is_integer_value}
use Rattle.sq_model.specs.KqlSound.{is_value_test}
use Rattle.sq_model.specs.declared.kql.Relation.{Relation}
use Rattle.sq_lex.specs.declared.class.Class.TheVariants as class
use Rattle.sq_lex.specs.Bytes.{is_in}
use Rattle.sq_fql.specs.WellFormed.{IsName}
use Rattle.sq_lower.specs.Lowered.{flag_text, number_text}
use Rattle.sq_lower.proofs.TestLemmas.{integers_are, moment_length}

-- ---- texts without a star

abbrev is_plain : ℕ → Bool
is_plain byte = not (byte == 42)

prefix_whole : (text : List ℕ) → list_all is_plain text ≡ true → prefix_len is_plain text ≡ length text
prefix_whole [] all = refl
prefix_whole (byte ∷ text) all =
    let parts = and_parts (is_plain byte) (list_all is_plain text) all in
    let one = parts.0 in
    rw one (omega (arith, prefix_whole text parts.1))

no_star : (text : List ℕ) → list_all is_plain text ≡ true → position (λ byte. byte == 42) text ≡ None
no_star text all =
    let whole : prefix_len is_plain text ≡ length text = prefix_whole text all in
    rw (whole, le-ltb (length text) (length text) (omega arith)) refl

take_starless : (n : ℕ) (text : List ℕ) → list_all is_plain text ≡ true → list_all is_plain (take n text) ≡ true
take_starless zero text all = refl
take_starless (suc n) [] all = refl
take_starless (suc n) (byte ∷ text) all =
    let parts = and_parts (is_plain byte) (list_all is_plain text) all in
    and_from (is_plain byte) (list_all is_plain (take n text)) parts.0 (take_starless n text parts.1)

front_starless : (good : Bool) (n : ℕ) (text : List ℕ) → list_all is_plain text ≡ true → list_all is_plain (if good then take n text else text) ≡ true
front_starless true n text all = take_starless n text all
front_starless false n text all = all

-- a text of a value: no star, and at most twenty bytes
pub record IsShort (text : List ℕ) : Type 0 where
  pub starless : list_all is_plain text ≡ true
  pub short : length text ≤ 20

pub no_bad_star : (text : List ℕ) → IsShort text → first_bad_star text ≡ None
no_bad_star text h = no_star (without_good_star text) (front_starless (has_good_star text) (length text - 1) text h.starless)

pub min_short : IsShort (codes "min")
min_short = record { starless = refl; short = omega arith }

pub max_short : IsShort (codes "max")
max_short = record { starless = refl; short = omega arith }

-- ---- numbers

digits_are : IsNumeralModel (λ ds. list_all is_ascii_digit ds ≡ true) (digits_value 10)
digits_are = numerals_by_value _ (search rules)

plain_digit : (byte : ℕ) → is_ascii_digit byte ≡ true → is_plain byte ≡ true
plain_digit byte h = grind (arith, nat_tests)

digits_starless : (text : List ℕ) → list_all is_ascii_digit text ≡ true → list_all is_plain text ≡ true
digits_starless [] all = refl
digits_starless (byte ∷ text) all =
    let parts = and_parts (is_ascii_digit byte) (list_all is_ascii_digit text) all in
    and_from (is_plain byte) (list_all is_plain text) (plain_digit byte parts.0) (digits_starless text parts.1)

decimal_starless : (n : ℕ) → n < 2 ^ 64 → list_all is_plain (decimal n) ≡ true
decimal_starless n small = digits_starless (decimal n) (digits_decimal digits_are n small)

decimal_short : (n : ℕ) → n ≤ 9_223_372_036_854_775_808 → length (decimal n) ≤ 19
decimal_short n small = length-decimal-le 19 n (omega arith) (omega arith) (omega arith)

integer_short : (n : ℤ) → is_integer_value n ≡ true → IsShort (signed_decimal n)
integer_short (pos n) h =
    let parts = and_parts (int_le least_number (pos n)) (int_le (pos n) greatest_number) h in
    let few : n ≤ 9_223_372_036_854_775_807 = grind (arith, ints, nat_tests, parts.1) in
    record { starless = decimal_starless n (omega arith); short = omega (arith, decimal_short n (omega arith)) }
integer_short (negsuc n) h =
    let parts = and_parts (int_le least_number (negsuc n)) (int_le (negsuc n) greatest_number) h in
    let few : suc n ≤ 9_223_372_036_854_775_808 = grind (arith, ints, nat_tests, parts.0) in
    record { starless = decimal_starless (suc n) (omega arith); short = omega (arith, decimal_short (suc n) (omega arith)) }

-- ---- moments

plain_above : (n : ℕ) → is_plain (48 + n) ≡ true
plain_above n = grind (arith, nat_tests)

two_starless : (n : ℕ) → list_all is_plain (two_text n) ≡ true
unfolding two_text
two_starless n = rw (plain_above (n / 10), plain_above (n % 10)) refl

four_starless : (n : ℕ) → list_all is_plain (four_text n) ≡ true
unfolding four_text
four_starless n = rw (plain_above (n / 1000), plain_above (n / 100 % 10), plain_above (n / 10 % 10), plain_above (n % 10)) refl

joined_starless : (left right : List ℕ) → list_all is_plain left ≡ true → list_all is_plain right ≡ true → list_all is_plain (left ++ right) ≡ true
joined_starless left right h k = list_all-append is_plain left right ∙ and_from (list_all is_plain left) (list_all is_plain right) h k

date_starless : (date : Civil) → list_all is_plain (date_text date) ≡ true
date_starless date =
    let year = four_text (unsigned_abs date.year) ++ codes "-" in
    let month = year ++ two_text date.month in
    joined_starless (month ++ codes "-") (two_text date.day)
    (joined_starless month (codes "-") (joined_starless year (two_text date.month) (joined_starless (four_text _) (codes "-") (four_starless _) refl) (two_starless _)) refl)
    (two_starless _)

time_starless : (second : ℕ) → list_all is_plain (time_text second) ≡ true
time_starless second =
    let hour = two_text (second / 3600) ++ codes ":" in
    let minute = hour ++ two_text (second / 60 % 60) in
    joined_starless (minute ++ codes ":") (two_text (second % 60))
    (joined_starless minute (codes ":") (joined_starless hour (two_text (second / 60 % 60)) (joined_starless (two_text _) (codes ":") (two_starless _) refl) (two_starless _)) refl)
    (two_starless _)

moment_starless : (n : ℤ) → list_all is_plain (text_of_moment n) ≡ true
unfolding text_of_moment
moment_starless n =
    let day = civil_of_day (day_of_moment n) in
    let date = date_text day ++ codes "T" in
    let time = time_text (unsigned_abs (int_rem_euclid n (pos 86_400))) in
    joined_starless (date ++ time) (codes "Z")
    (joined_starless date time (joined_starless (date_text day) (codes "T") (date_starless day) refl) (time_starless _)) refl

moment_short : (n : ℤ) → IsShort (text_of_moment n)
moment_short n = record { starless = moment_starless n; short = omega (arith, moment_length n) }

-- ---- flags

flag_by : (b : Bool) → IsShort (if b then codes "true" else codes "false")
flag_by true = record { starless = refl; short = omega arith }
flag_by false = record { starless = refl; short = omega arith }

flag_short : (n : ℤ) → IsShort (flag_text n)
flag_short n = flag_by (int_eq n (pos 1))

-- the texts of a restriction's numbers
pub numbers_short : (k : Kind) (r : Relation) (first last : ℤ) → is_value_test k r first last ≡ true → IsShort (number_text k first) × IsShort (number_text k last)
numbers_short kind.Text r first last h = absurd (false≢true h)
numbers_short kind.Integer r first last h =
    let are = integers_are r first last h in
    (integer_short first are.0, integer_short last are.1)
numbers_short kind.DateTime r first last h = (moment_short first, moment_short last)
numbers_short kind.YesNo r first last h = (flag_short first, flag_short last)

-- ---- names

not_here : (byte other : ℕ) → is_name_byte byte ≡ true → is_name_byte other ≡ false → (byte == other) ≡ false
not_here byte other is isnt = ne_eqb byte other (λ e. let same = ap is_name_byte e in cc)

name_byte : (byte : ℕ) → is_name_byte byte ≡ true → is_in class.Term byte ≡ true
unfolding is_name_byte
name_byte byte is =
    rw (
      not_here byte 9 is refl,
      not_here byte 10 is refl,
      not_here byte 13 is refl,
      not_here byte 32 is refl,
      not_here byte 34 is refl,
      not_here byte 40 is refl,
      not_here byte 41 is refl,
      not_here byte 44 is refl,
      not_here byte 61 is refl,
      not_here byte 58 is refl,
    ) refl

name_word : (name : List ℕ) → list_all is_name_byte name ≡ true → list_all (is_in class.Term) name ≡ true
name_word [] all = refl
name_word (byte ∷ name) all =
    let parts = and_parts (is_name_byte byte) (list_all is_name_byte name) all in
    and_from (is_in class.Term byte) (list_all (is_in class.Term) name) (name_byte byte parts.0) (name_word name parts.1)

name_is : (name : List ℕ) → is_name name ≡ true → IsName name
unfolding is_name
name_is name h =
    let parts = and_parts (is_ascii_alphabetic (slice_index name 0) && nat_le (length name) 64) (list_all is_name_byte name) h in
    record { letter = (and_parts (is_ascii_alphabetic (slice_index name 0)) (nat_le (length name) 64) parts.0).0; word = name_word name parts.1 }

sound_by : {X : Type 0} (sound : Bool) (fault : X) (other : Option X) → (if not sound then Some fault else other) ≡ None → sound ≡ true
sound_by true fault other none = refl
sound_by false fault other none = cc

sound_row : (earlier : List Property) (i : ℕ) (row : Property) → fault_behind earlier i row ≡ None → is_sound row ≡ true
sound_row earlier i row none = sound_by (is_sound row) _ _ none

sound_name : (row : Property) → is_sound row ≡ true → is_name row.name ≡ true
unfolding is_sound
sound_name row h = (and_parts (is_name row.name) _ (and_parts (is_name row.name && _) _ h).0).0

pub row_name : (schema : List Property) (property : ℕ) (row : Property) → IsSchema schema → slice_get schema property ≡ Some row → IsName row.name
row_name schema property row good here =
    let within = slice_get_within schema property row here in
    let faultless = rw here at (good.faultless property within) in
    name_is row.name (sound_name row (sound_row (take property schema) property row faultless))
