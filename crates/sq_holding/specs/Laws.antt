-- Laws of the definitions, which callers may use.
use Rattle.std.specs.Prelude.{◌≡◌, length}
use Rattle.sq_model.specs.Alike.{Alike}
use Rattle.sq_model.specs.declared.corpus.Corpus.{Corpus}
use Rattle.sq_holding.specs.Held.{Held}
use Rattle.sq_holding.specs.Holds.{Holds}
use Rattle.sq_holding.specs.Told.{told}

-- what is held tells the corpus that is held, or one that is alike
abbrev pub ToldIsAlike : Type 0
ToldIsAlike = (held : Held) (corpus : Corpus) → Holds held corpus → Alike (told held) corpus

-- the corpus that is told has an item for each row
abbrev pub ToldHasRows : Type 0
ToldHasRows = (held : Held) → length (told held).items ≡ length held.index.rows
