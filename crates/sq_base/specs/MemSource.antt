-- What contracts see of a source in memory.
use Rattle.std.specs.Prelude.{◌≡◌, ℕ, ◌+◌, ◌-◌, ◌^◌, min, vec_len, Contains}
use Rattle.sq_base.specs.declared.source.MemSource.{MemSource}
use Rattle.sq_base.specs.Pieces.{bound_at}

-- the call is one of those that fail
abbrev pub RefusesRead : MemSource → Type 0
RefusesRead source = Contains source.failing.items source.calls

-- how many bytes a call that doesn't fail gives where there is so much room: no more than its piece, its room and what is left
abbrev pub read_count : MemSource → ℕ → ℕ
read_count source room = min (bound_at source.pieces.items source.calls) (min room (vec_len source.bytes))

-- the next read has the next number, as far as numbers go, and the pieces and the calls that fail stay
pub record IsNextRead (old new : MemSource) : Type 0 where
  pub calls : new.calls ≡ min (old.calls + 1) (2 ^ 32 - 1)
  pub pieces : new.pieces ≡ old.pieces
  pub failing : new.failing ≡ old.failing
