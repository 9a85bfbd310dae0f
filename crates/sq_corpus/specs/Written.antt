-- The text that a corpus is written as. The values of an item stand by the rows of their properties, and those of one property in
-- their order.
use Rattle.std.specs.Prelude.{ℕ, ◌+◌, ◌==◌, if◌then◌else◌, Bool, true, false, List, [], ◌∷◌, ◌++◌, filter, codes, chars, pos}
use Rattle.std.specs.Fmt.{signed_decimal}
use Rattle.std.specs.List.{flat_map}
use Rattle.std.specs.Str.{encode_utf8_all}
use Rattle.sq_schema.specs.declared.property.Kind.{Kind}
use Rattle.sq_schema.specs.declared.property.Kind.TheVariants.{Text, Integer, DateTime, YesNo}
use Rattle.sq_schema.specs.declared.property.Property.{Property}
use Rattle.sq_model.specs.declared.corpus.Caller.{Caller}
use Rattle.sq_model.specs.declared.corpus.Corpus.{Corpus}
use Rattle.sq_model.specs.declared.corpus.Item.{Item}
use Rattle.sq_model.specs.declared.corpus.Value.{Value}
use Rattle.sq_model.specs.Shown.{shown_text}

-- Values by their properties.

abbrev pub is_at : ℕ → Value → Bool
is_at property value = value.property == property

-- the values of these rows, of which the first has this number, row after row
abbrev pub values_from : List Value → ℕ → List Property → List Value
values_from values at [] = []
values_from values at (row ∷ rows) = filter (is_at at) values ++ values_from values (at + 1) rows

-- Lines.

-- what stands behind the first field of a line
abbrev pub line_end : List (List ℕ) → List ℕ
line_end [] = 10 ∷ []
line_end (field ∷ fields) = 9 ∷ (field ++ line_end fields)

abbrev pub line : List ℕ → List (List ℕ) → List ℕ
line word fields = word ++ line_end fields

-- the characters that stand for one in a url or a text
unfoldable pub escape : ℕ → List ℕ
escape c =
    if c == 9 then codes "\\t"
    else (if c == 10 then codes "\\n"
    else (if c == 13 then codes "\\r"
    else (if c == 92 then codes "\\\\"
    else c ∷ [])))

abbrev pub spelled : List ℕ → List ℕ
spelled text = encode_utf8_all (flat_map escape (chars text))

-- Properties.

abbrev pub kind_word : Kind → List ℕ
kind_word Text = codes "text"
kind_word Integer = codes "integer"
kind_word DateTime = codes "datetime"
kind_word YesNo = codes "yesno"

abbrev pub flags_word : Bool → Bool → Bool → List ℕ
flags_word false false false = codes "-"
flags_word true false false = codes "s"
flags_word false true false = codes "m"
flags_word false false true = codes "r"
flags_word true true false = codes "sm"
flags_word true false true = codes "sr"
flags_word false true true = codes "mr"
flags_word true true true = codes "smr"

abbrev pub property_line : Property → List ℕ
property_line row =
    line (codes "property") (row.name ∷ (kind_word row.kind ∷ (flags_word row.searchable row.multi row.refinable ∷ [])))

-- Callers.

abbrev pub caller_line : Caller → List ℕ
caller_line caller = line (codes "caller") (caller.name ∷ caller.claims)

-- Items.

-- a value of the property of this name
abbrev pub value_line : List ℕ → Value → List ℕ
value_line name value = line (codes "value") (name ∷ (spelled (shown_text value.content) ∷ []))

-- the values of these rows, of which the first has this number, row after row
abbrev pub row_lines : List Value → ℕ → List Property → List ℕ
row_lines values at [] = []
row_lines values at (row ∷ rows) = flat_map (value_line row.name) (filter (is_at at) values) ++ row_lines values (at + 1) rows

abbrev pub item_line : Item → List ℕ
item_line item =
    line (codes "item") (signed_decimal (pos item.number) ∷ (signed_decimal item.rank ∷ (spelled item.url ∷ [])))

-- an item of a corpus of these properties
abbrev pub item_text : List Property → Item → List ℕ
item_text rows item =
    item_line item ++ (line (codes "allow") item.allow ++ (line (codes "deny") item.deny ++ row_lines item.values 0 rows))

-- the text of the corpus
abbrev pub corpus_text : Corpus → List ℕ
corpus_text corpus =
    line (codes "SQCORPUS 1") []
    ++ (flat_map property_line corpus.schema ++ (flat_map caller_line corpus.callers ++ flat_map (item_text corpus.schema) corpus.items))
