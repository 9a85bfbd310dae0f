-- What a reader keeps beside what the lines before say.
use Rattle.std.specs.Prelude.{◌≡◌, ℕ, List, slice_index, IfSome}
use Rattle.std.specs.List.{list_any}
use Rattle.std.specs.BTreeSet.{contains_text}
use Rattle.sq_schema.specs.Properties.{IsSchema}
use Rattle.sq_model.specs.Valid.{count_of}
use Rattle.sq_corpus.specs.declared.reader.Reader.{Reader}
use Rattle.sq_corpus.specs.Lines.{is_named, values_of}

-- The set of names is that of the callers, and the counts are those of the values of the item that is read. The rows have no
-- fault, and a schema that was made is theirs.
pub record IsKept (reader : Reader) : Type 0 where
  pub named : (name : List ℕ) → contains_text reader.names name ≡ list_any (is_named name) reader.before.callers
  pub counted : (property : ℕ) → slice_index reader.counts.items property ≡ count_of (values_of reader.before.item) property
  pub sound : IsSchema reader.before.rows
  pub made : IfSome reader.schema (λ schema. schema ≡ reader.before.rows)
