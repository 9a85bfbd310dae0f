-- The texts of refiners: a name, or a name and `(discretize=manual/B1/B2/..)`.
use Rattle.std.specs.Prelude.{ℕ, ℤ, int_lt, Bool, true, false, not, ◌&&◌, ◌==◌, nat_le, if◌then◌else◌, List, [], ◌∷◌, length, codes, Option, Some, None, Result, Ok}
use Rattle.std.specs.List.{list_all, slice_split}
use Rattle.std.specs.Str.{bytes_eq}
use Rattle.sq_schema.specs.declared.values.NumberFault.{NumberFault}
use Rattle.sq_schema.specs.Values.{number_of}
use Rattle.sq_packet.specs.declared.request.RefinerSpec.{RefinerSpec}
use Rattle.sq_packet.specs.Limits.{most_bounds}
pub use Rattle.sq_packet.specs.Marks.{is_blank}

abbrev pub refiner : List ℕ → List ℤ → RefinerSpec
refiner name bounds = record { name = name; bounds = bounds }

abbrev pub last_of : ℕ → List ℕ → ℕ
last_of b [] = b
last_of b (c ∷ cs) = last_of c cs

abbrev pub has_no_parentheses : List ℕ → Bool
has_no_parentheses bytes = list_all (λ b. not (b == 40) && not (b == 41)) bytes

-- one or more characters other than parentheses, without white space at either end
abbrev pub is_refiner_name : List ℕ → Bool
is_refiner_name [] = false
is_refiner_name (b ∷ bytes) =
    not (is_blank b) && not (is_blank (last_of b bytes)) && has_no_parentheses (b ∷ bytes)

-- each is below the next one
abbrev pub are_rising : List ℤ → Bool
are_rising [] = true
are_rising (n ∷ []) = true
are_rising (n ∷ (next ∷ ns)) = int_lt n next && are_rising (next ∷ ns)

abbrev pub onto_numbers : Result ℤ NumberFault → Option (List ℤ) → Option (List ℤ)
onto_numbers (Ok n) (Some ns) = Some (n ∷ ns)
onto_numbers n ns = None

-- the numbers that texts write, if each writes one
abbrev pub numbers_of : List (List ℕ) → Option (List ℤ)
numbers_of [] = Some []
numbers_of (part ∷ parts) = onto_numbers (number_of part) (numbers_of parts)

abbrev pub with_bounds : List ℕ → Option (List ℤ) → Option RefinerSpec
with_bounds name None = None
with_bounds name (Some bounds) = if nat_le (length bounds) most_bounds && are_rising bounds then Some (refiner name bounds) else None

abbrev pub bounded : List ℕ → List (List ℕ) → Option RefinerSpec
bounded name [] = None
bounded name (bound ∷ bounds) = with_bounds name (numbers_of (bound ∷ bounds))

unfoldable pub is_manual : List ℕ → Bool
is_manual word = bytes_eq word (codes "discretize=manual")

-- `discretize=manual` and one bound or more, each behind a `/`
abbrev pub discretized : List ℕ → List (List ℕ) → Option RefinerSpec
discretized name [] = None
discretized name (word ∷ bounds) = if is_manual word then bounded name bounds else None

-- only an empty part is left
abbrev pub is_end : List (List ℕ) → Bool
is_end [] = false
is_end ([] ∷ []) = true
is_end ((b ∷ bytes) ∷ []) = false
is_end (part ∷ (other ∷ more)) = false

-- nothing stands behind the `)`
abbrev pub closed_list : List ℕ → List (List ℕ) → Option RefinerSpec
closed_list name [] = None
closed_list name (list ∷ behind) = if is_end behind then discretized name (slice_split (λ b. b == 47) list) else None

-- a name alone, or a name and what stands between `(` and the `)` at the end
abbrev pub refiner_by : List ℕ → List (List ℕ) → Option RefinerSpec
refiner_by name [] = Some (refiner name [])
refiner_by name (inside ∷ []) = closed_list name (slice_split (λ b. b == 41) inside)
refiner_by name (inside ∷ (other ∷ more)) = None

abbrev pub refiner_parts : List (List ℕ) → Option RefinerSpec
refiner_parts [] = None
refiner_parts (name ∷ more) = if is_refiner_name name then refiner_by name more else None

-- the refiner that a text asks for, which is cut at its `(`, its `)` and each `/` between
unfoldable pub refiner_of : List ℕ → Option RefinerSpec
refiner_of text = refiner_parts (slice_split (λ b. b == 40) text)
