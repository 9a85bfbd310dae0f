-- When what is held is that of a corpus.
use Rattle.std.specs.Prelude.{◌≡◌}
use Rattle.sq_model.specs.Valid.{IsValid}
use Rattle.sq_model.specs.declared.corpus.Corpus.{Corpus}
use Rattle.sq_postings.specs.StandsFor.{StandsFor}
use Rattle.sq_stored.specs.Stored.{stored_items}
use Rattle.sq_holding.specs.Held.{Held}

pub record Holds (held : Held) (corpus : Corpus) : Type 0 where
  pub valid : IsValid corpus
  pub schema : held.schema ≡ corpus.schema
  pub callers : held.callers ≡ corpus.callers
  pub index : StandsFor held.index corpus
  pub stored : held.stored ≡ stored_items corpus.schema corpus.items

-- there is a corpus that is held
abbrev pub IsHeld : Held → Type 0
IsHeld held = (corpus : Corpus) × Holds held corpus
