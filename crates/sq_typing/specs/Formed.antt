-- Parts of well-formed trees.
use Rattle.std.specs.Prelude.{◌<◌, length}
use Rattle.sq_base.specs.Limits.{kql_byte_bound}
use Rattle.sq_kql.specs.declared.raw.Piece.{Piece}
use Rattle.sq_kql.specs.declared.raw.KRaw.{KRaw}
use Rattle.sq_kql.specs.WellFormed.{IsPattern, IsStarless, HasForm, bytes}

-- a tree whose pieces are not too long together
pub record IsFormed (t : KRaw) : Type 0 where
  pub form : HasForm t
  pub short : bytes t < kql_byte_bound

-- a piece that has a token
pub record IsLiteral (p : Piece) : Type 0 where
  pub pattern : IsPattern p
  pub short : length p.text < kql_byte_bound

-- a value of a restriction
pub record IsValue (p : Piece) : Type 0 where
  pub starless : IsStarless p
  pub short : length p.text < kql_byte_bound
