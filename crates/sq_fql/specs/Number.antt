-- Numbers as values of parameters: an optional `-`, and then digits.
use Rattle.std.specs.Prelude.{ℕ, ◌+◌, ◌*◌, ◌-◌, ℤ, pos, neg_ℤ, not, ◌==◌, nat_lt, if◌then◌else◌, [], ◌∷◌, Option, Some, None}
use Rattle.std.specs.Option.{option_map}
use Rattle.std.specs.Char.{is_ascii_digit}
use Rattle.sq_lex.specs.Bytes.{TextBytes}

-- the number that digits write behind those of another, where it is at most the limit
abbrev pub size_from : ℕ → TextBytes → ℕ → Option ℕ
size_from n [] limit = Some n
size_from n (b ∷ z) limit =
    if not (is_ascii_digit b) then None
    else (if nat_lt limit (10 * n + (b - 48)) then None else size_from (10 * n + (b - 48)) z limit)

-- the number that one or more digits write, where it is at most the limit
abbrev pub size : TextBytes → ℕ → Option ℕ
size [] limit = None
size (b ∷ z) limit = size_from 0 (b ∷ z) limit

-- a number from 0 to the limit; behind `-` it is 0
abbrev pub natural : TextBytes → ℕ → Option ℕ
natural [] limit = None
natural (b ∷ z) limit = if b == 45 then size z 0 else size (b ∷ z) limit

-- a number whose size is at most the limit
abbrev pub whole : TextBytes → ℕ → Option ℤ
whole [] limit = None
whole (b ∷ z) limit = if b == 45 then option_map (λ n. neg_ℤ (pos n)) (size z limit) else option_map pos (size (b ∷ z) limit)
