-- Parts of a tree.
use Rattle.std.specs.Prelude.{ℕ}
use Rattle.sq_lex.specs.declared.lexeme.Cut.{Cut}
use Rattle.sq_lex.specs.Bytes.{TextBytes}
use Rattle.sq_lex.specs.Kql.{cut_at, cut_text}
use Rattle.sq_kql.specs.declared.raw.Piece.{Piece}
use Rattle.sq_kql.specs.declared.raw.RawSign.{RawSign}
use Rattle.sq_kql.specs.declared.raw.KRawOperand.{KRawOperand, roll-KRawOperand}
use Rattle.sq_kql.specs.declared.raw.KRaw.{KRaw}

-- the piece of a text, at its opening quote where it has one
abbrev pub piece : TextBytes → Cut → Piece
piece z c = record { at = cut_at c; text = cut_text z c }

abbrev pub operand_of : RawSign → ℕ → KRaw → KRawOperand
operand_of s at t = roll-KRawOperand (record { sign = s; at = at; tree = t })
