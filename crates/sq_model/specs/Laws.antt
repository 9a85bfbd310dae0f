-- Laws of the definitions, which callers may use.
use Rattle.std.specs.Prelude.{◌≡◌, true, List}
use Rattle.std.specs.List.{list_all}
use Rattle.sq_schema.specs.declared.property.Property.{Property}
use Rattle.sq_model.specs.declared.corpus.Corpus.{Corpus}
use Rattle.sq_model.specs.declared.corpus.Value.{Value}
use Rattle.sq_model.specs.Shown.{has_shown_text}
use Rattle.sq_model.specs.Valid.{IsValid, has_short_texts, is_value}

-- the texts of a valid corpus are short enough for the slow meanings
abbrev pub ValidTextsAreShort : Type 0
ValidTextsAreShort = (corpus : Corpus) → IsValid corpus → list_all has_short_texts corpus.items ≡ true

-- a value of a schema has a text
abbrev pub ValuesAreShown : Type 0
ValuesAreShown = (schema : List Property) (value : Value) → is_value schema value ≡ true → has_shown_text value.content ≡ true
