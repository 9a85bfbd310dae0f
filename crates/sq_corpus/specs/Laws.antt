-- Laws of the definitions, which callers may use.
use Rattle.std.specs.Prelude.{◌≡◌, ℕ, ◌≤◌, List, true, length, map, filter, Ok}
use Rattle.sq_base.specs.Limits.{most_corpus_bytes}
use Rattle.sq_schema.specs.declared.property.Property.{Property}
use Rattle.sq_model.specs.declared.corpus.Corpus.{Corpus}
use Rattle.sq_model.specs.declared.corpus.Item.{Item}
use Rattle.sq_model.specs.Valid.{IsValid, is_item}
use Rattle.sq_corpus.specs.CorpusText.{corpus_of}
use Rattle.sq_corpus.specs.Written.{corpus_text, is_at, values_from}

-- the item with its values by the rows of their properties, and those of one property in their order
abbrev pub in_rows : List Property → Item → Item
in_rows rows item = record item { values = values_from item.values 0 rows }

abbrev pub by_property : Corpus → Corpus
by_property corpus = record { schema = corpus.schema; callers = corpus.callers; items = map (in_rows corpus.schema) corpus.items }

-- a corpus that a text spells is valid
abbrev pub SpelledCorporaAreValid : Type 0
SpelledCorporaAreValid = (bytes : List ℕ) (corpus : Corpus) → length bytes ≤ most_corpus_bytes → corpus_of bytes ≡ Ok corpus → IsValid corpus

-- the text of a valid corpus spells it, each item with its values by their properties
abbrev pub WrittenTextsReadBack : Type 0
WrittenTextsReadBack = (corpus : Corpus) → IsValid corpus → corpus_of (corpus_text corpus) ≡ Ok (by_property corpus)

-- an item of a valid corpus keeps of each property the list of its values
abbrev pub ValuesAreKept : Type 0
ValuesAreKept = (rows : List Property) (item : Item) (property : ℕ) → is_item rows item ≡ true
    → filter (is_at property) (in_rows rows item).values ≡ filter (is_at property) item.values
