-- What short texts say: whole numbers, yes or no.
use Rattle.std.specs.Prelude.{ℕ, ◌^◌, Bool, true, false, ◌&&◌, nat_le, nat_lt, if◌then◌else◌, List, length, codes, Option, Some, None}
use Rattle.std.specs.Char.{is_ascii_digit}
use Rattle.std.specs.List.{list_all}
use Rattle.std.specs.Str.{str_eq_ignore_ascii_case}
use Rattle.std.specs.Str.Parse.{digits_value}
use Rattle.sq_base.specs.Limits.{most_digits}

-- the text is this word, ASCII case ignored
abbrev pub is_word : List ℕ → List ℕ → Bool
is_word word text = str_eq_ignore_ascii_case text word

-- one digit or more, of at most 32 bits
abbrev pub whole_of : List ℕ → Option ℕ
whole_of text =
    if nat_le 1 (length text) && nat_le (length text) most_digits && list_all is_ascii_digit text && nat_lt (digits_value 10 text) (2 ^ 32) then Some (digits_value 10 text)
    else None

abbrev pub truth_of : List ℕ → Option Bool
truth_of text = if is_word (codes "true") text then Some true else (if is_word (codes "false") text then Some false else None)
