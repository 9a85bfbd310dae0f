-- The lines of a text, and the fields of a line.
use Rattle.std.specs.Prelude.{ℕ, List, [], ◌∷◌, ◌==◌, if◌then◌else◌}

-- a byte, and then the pieces
abbrev pub onto_first : ℕ → List (List ℕ) → List (List ℕ)
onto_first byte [] = (byte ∷ []) ∷ []
onto_first byte (piece ∷ pieces) = (byte ∷ piece) ∷ pieces

-- the pieces of a text between the separators; a text without a separator is one piece
abbrev pub pieces : ℕ → List ℕ → List (List ℕ)
pieces separator [] = [] ∷ []
pieces separator (byte ∷ bytes) =
    if byte == separator then [] ∷ pieces separator bytes else onto_first byte (pieces separator bytes)

-- what stands before each LF, and then what stands behind the last one
abbrev pub lines_of : List ℕ → List (List ℕ)
lines_of bytes = pieces 10 bytes

-- the fields of a line, between its TABs
abbrev pub fields_of : List ℕ → List (List ℕ)
fields_of line = pieces 9 line
