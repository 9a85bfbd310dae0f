-- The least and the greatest values: numbers of 64 bits signed, and moments of the years 0001 to 9999.
use Rattle.std.specs.Prelude.{ℕ, Bool, ◌&&◌, ℤ, pos, neg_ℤ, int_le}

-- the number lies from first to last
abbrev pub is_from_to : ℤ → ℤ → ℤ → Bool
is_from_to first last n = int_le first n && int_le n last

abbrev pub least_number : ℤ
least_number = neg_ℤ (pos 9_223_372_036_854_775_808)

abbrev pub greatest_number : ℤ
greatest_number = pos 9_223_372_036_854_775_807

abbrev pub is_integer_value : ℤ → Bool
is_integer_value n = is_from_to least_number greatest_number n

-- 0001-01-01T00:00:00Z and 9999-12-31T23:59:59Z, in seconds from 1970-01-01T00:00:00Z
abbrev pub least_moment : ℤ
least_moment = neg_ℤ (pos 62_135_596_800)

abbrev pub greatest_moment : ℤ
greatest_moment = pos 253_402_300_799

abbrev pub is_moment_value : ℤ → Bool
is_moment_value n = is_from_to least_moment greatest_moment n

-- dates have years from 0001 to this one
abbrev pub greatest_year : ℕ
greatest_year = 9_999

-- the greatest moment about which intervals are named, in the year 8307
abbrev pub greatest_now : ℤ
greatest_now = pos 200_000_000_000
