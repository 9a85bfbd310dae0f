-- The canonical text of a tree: no white space, and one way to write each literal, operator and parameter.
use Rattle.std.specs.Prelude.{ℕ, Bool, true, false, ◌||◌, ◌==◌, if◌then◌else◌, List, [], ◌∷◌, ◌++◌, flat_map, chars, Option, Some, None, codes}
use Rattle.std.specs.Char.{is_ascii_digit, encode_utf8}
use Rattle.std.specs.Fmt.{decimal, signed_decimal}
use Rattle.std.specs.List.{list_all}
use Rattle.std.specs.Str.{bytes_eq}
use Rattle.sq_lex.specs.Bytes.{TextBytes}
use Rattle.sq_fql.specs.declared.raw.Mode.{Mode}
use Rattle.sq_fql.specs.declared.raw.Mode.TheVariants as mode
use Rattle.sq_fql.specs.declared.raw.Op.{Op}
use Rattle.sq_fql.specs.declared.raw.Op.TheVariants as op
use Rattle.sq_fql.specs.declared.raw.FRaw.{FRaw, All, Literal, Scope', Apply', Row_of-FRaw, end_of-FRaw, more_of-FRaw}

-- ---- literals

abbrev pub are_digits : TextBytes → Bool
are_digits [] = false
are_digits (b ∷ z) = list_all is_ascii_digit (b ∷ z)

-- digits, behind `-` or not
abbrev pub is_number : TextBytes → Bool
is_number [] = false
is_number (b ∷ z) = if b == 45 then are_digits z else are_digits (b ∷ z)

-- numbers, `min` and `max` are written without quotes
abbrev pub is_bare : TextBytes → Bool
is_bare text = is_number text || bytes_eq text (codes "min") || bytes_eq text (codes "max")

-- `"` and `\` stand behind `\`
abbrev pub escaped : ℕ → TextBytes
escaped c = if c == 34 || c == 92 then 92 ∷ encode_utf8 c else encode_utf8 c

abbrev pub quoted : TextBytes → TextBytes
quoted text = codes "\"" ++ flat_map escaped (chars text) ++ codes "\""

abbrev pub literal_text : TextBytes → TextBytes
literal_text text = if is_bare text then text else quoted text

-- ---- operators

abbrev pub operator_word : Op → TextBytes
operator_word op.And = codes "and"
operator_word op.Or = codes "or"
operator_word op.Any = codes "any"
operator_word op.AndNot = codes "andnot"
operator_word op.Not = codes "not"
operator_word (op.Near n) = codes "near"
operator_word (op.Onear n) = codes "onear"
operator_word op.Words = codes "words"
operator_word (op.Count from to) = codes "count"
operator_word (op.Range above below) = codes "range"
operator_word op.StartsWith = codes "starts-with"
operator_word op.EndsWith = codes "ends-with"
operator_word op.Equals = codes "equals"
operator_word op.Filter = codes "filter"
operator_word (op.Str m n) = codes "string"
operator_word op.Int = codes "int"
operator_word op.DateTime = codes "datetime"
operator_word op.Phrase = codes "phrase"
operator_word (op.Xrank cb) = codes "xrank"

-- ---- parameters, each behind a comma

abbrev pub assigned : TextBytes → TextBytes → TextBytes
assigned name value = codes "," ++ name ++ codes "=" ++ value

-- a word as a value
abbrev pub word_value : TextBytes → TextBytes
word_value word = codes "\"" ++ word ++ codes "\""

abbrev pub distance_text : ℕ → TextBytes
distance_text n = assigned (codes "N") (decimal n)

abbrev pub mode_text : Mode → ℕ → TextBytes
mode_text mode.Phrase n = []
mode_text mode.And n = assigned (codes "mode") (word_value (codes "AND"))
mode_text mode.Or n = assigned (codes "mode") (word_value (codes "OR"))
mode_text mode.Any n = assigned (codes "mode") (word_value (codes "ANY"))
mode_text mode.Near n = assigned (codes "mode") (word_value (codes "NEAR")) ++ distance_text n
mode_text mode.Onear n = assigned (codes "mode") (word_value (codes "ONEAR")) ++ distance_text n

abbrev pub end_text : Option ℕ → TextBytes
end_text None = []
end_text (Some to) = assigned (codes "to") (decimal to)

abbrev pub lower_word : Bool → TextBytes
lower_word true = codes "GT"
lower_word false = codes "GE"

abbrev pub upper_word : Bool → TextBytes
upper_word true = codes "LT"
upper_word false = codes "LE"

abbrev pub parameters_text : Op → TextBytes
parameters_text (op.Near n) = distance_text n
parameters_text (op.Onear n) = distance_text n
parameters_text (op.Count from to) = assigned (codes "from") (decimal from) ++ end_text to
parameters_text (op.Range above below) = assigned (codes "from") (word_value (lower_word above)) ++ assigned (codes "to") (word_value (upper_word below))
parameters_text (op.Str m n) = mode_text m n
parameters_text (op.Xrank cb) = assigned (codes "cb") (signed_decimal cb)
parameters_text _ = []

-- ---- trees

abbrev pub separator : Bool → TextBytes
separator true = codes ","
separator false = []

-- texts with commas between, and before the first if another stands before it
abbrev pub listed : Bool → List TextBytes → TextBytes
listed behind [] = []
listed behind (text ∷ texts) = separator behind ++ text ++ listed true texts

abbrev mutual
  pub canon : FRaw → TextBytes
  canon (All at) = codes "*"
  canon (Literal piece) = literal_text piece.text
  canon (Scope' at name s (more_of-FRaw inner end_of-FRaw)) = name ++ codes ":" ++ canon inner
  canon (Apply' at o s operands) = operator_word o ++ codes "(" ++ listed false (canon_each operands) ++ parameters_text o ++ codes ")"

  pub canon_each : {m : _} → Row_of-FRaw m → List TextBytes
  canon_each end_of-FRaw = []
  canon_each (more_of-FRaw tree rest) = canon tree ∷ canon_each rest
