-- Worked examples, by computation.
use Rattle.std.proofs.Common.{◌≡◌, ℕ, List, [], ◌∷◌, ◌++◌, map, true, false, refl, Ok, pos}
use Rattle.std.specs.Prelude.{codes}
use Rattle.std.specs.Str.{is_utf8, chars}
use lib.Utf8.{encode}
use Rattle.sq_base.specs.Xml.{is_xml_char}
use Rattle.sq_schema.specs.declared.property.Kind.TheVariants.{Integer}
use Rattle.sq_schema.specs.declared.property.Property.{Property}
use Rattle.sq_schema.specs.Names.{is_name, is_name_byte}
use Rattle.sq_schema.specs.Properties.{is_sound, has_name}
use Rattle.sq_schema.specs.Values.{number_of, is_numeral, behind_minus}
use Rattle.sq_schema.specs.Words.{is_same_word}
use Rattle.sq_model.specs.declared.corpus.Content.TheVariants.{Number}
use Rattle.sq_model.specs.declared.corpus.Value.{Value}
use Rattle.sq_corpus.specs.CorpusText.{faulty, at_end, corpus_of}
use Rattle.sq_corpus.specs.Escapes.{escaped}
use Rattle.sq_corpus.specs.Lines.{with_row, with_property, is_named, with_caller, number_from_to, with_url, with_item, list_fault, with_allow, with_deny, flag_of, content_of, refused_content, with_content, with_value_of, with_value, with_known, with_fields, with_line}
use Rattle.sq_corpus.specs.Words.{line_kind, kind_of, flags_of}
use Rattle.sq_corpus.specs.Written.{escape, spelled, property_line, values_from}

-- the line of these fields
abbrev line : List (List ℕ) → List ℕ
line [] = 10 ∷ []
line (field ∷ []) = field ++ 10 ∷ []
line (field ∷ (next ∷ fields)) = field ++ 9 ∷ line (next ∷ fields)

-- two properties, and a caller
abbrev head : List ℕ
head = line (codes "SQCORPUS 1" ∷ []) ++ line (codes "property" ∷ codes "title" ∷ codes "text" ∷ codes "s" ∷ [])
    ++ line (codes "property" ∷ codes "size" ∷ codes "integer" ∷ codes "r" ∷ []) ++ line (codes "caller" ∷ codes "Ann" ∷ codes "staff" ∷ [])

-- and an item
abbrev item : List ℕ
item = head ++ line (codes "item" ∷ codes "7" ∷ codes "-0" ∷ codes "u" ∷ []) ++ line (codes "allow" ∷ []) ++ line (codes "deny" ∷ [])

first_lines : map corpus_of ([] ∷ codes "SQCORPUS 1" ∷ line (codes "SQCORPUS 2" ∷ []) ∷ line (codes "SQCORPUS 1" ∷ []) ∷ (255 ∷ []) ∷ [])
    ≡ faulty 602 1 ∷ faulty 602 1 ∷ faulty 602 1 ∷ Ok (record { schema = []; callers = []; items = [] }) ∷ faulty 601 1 ∷ []
unfolding corpus_of at_end with_line with_fields with_known line_kind is_utf8 chars is_xml_char encode
first_lines = refl

faults : map (λ last. corpus_of (head ++ last)) (line (codes "property" ∷ codes "x" ∷ codes "text" ∷ codes "-" ∷ []) ∷ line (codes "item" ∷ codes "0" ∷ codes "1" ∷ codes "u" ∷ [])
    ∷ line (codes "caller" ∷ codes "Ann" ∷ []) ∷ line (codes "caller" ∷ [] ∷ []) ∷ line (codes "item" ∷ codes "1" ∷ codes "1" ∷ codes "u" ∷ []) ∷ [])
    ≡ faulty 602 5 ∷ faulty 603 5 ∷ faulty 605 5 ∷ faulty 607 5 ∷ faulty 602 6 ∷ []
unfolding corpus_of at_end with_line with_fields with_known with_property with_row with_caller with_item with_url is_named number_from_to line_kind kind_of flags_of escaped is_utf8 chars is_xml_char encode is_sound is_name is_name_byte has_name is_same_word number_of is_numeral behind_minus
faults = refl

value_faults : map (λ last. corpus_of (item ++ last)) (line (codes "value" ∷ codes "colour" ∷ codes "red" ∷ []) ∷ line (codes "value" ∷ codes "size" ∷ codes "x" ∷ [])
    ∷ (line (codes "value" ∷ codes "SIZE" ∷ codes "1" ∷ []) ++ line (codes "value" ∷ codes "size" ∷ codes "2" ∷ []))
    ∷ line (codes "item" ∷ codes "7" ∷ codes "1" ∷ codes "u" ∷ []) ∷ [])
    ≡ faulty 604 8 ∷ faulty 603 8 ∷ faulty 605 9 ∷ faulty 606 8 ∷ []
unfolding corpus_of at_end with_line with_fields with_known with_property with_row with_caller with_item with_url with_allow with_deny list_fault with_value with_value_of with_content refused_content content_of flag_of is_named number_from_to line_kind kind_of flags_of escaped is_utf8 chars is_xml_char encode is_sound is_name is_name_byte has_name is_same_word number_of is_numeral behind_minus
value_faults = refl

spellings : map spelled (codes "a\tb" ∷ codes "c\n\r" ∷ codes "\\" ∷ [] ∷ []) ≡ codes "a\\tb" ∷ codes "c\\n\\r" ∷ codes "\\\\" ∷ [] ∷ []
unfolding escape chars encode
spellings = refl

abbrev size : Property
size = record { name = codes "size"; kind = Integer; searchable = false; multi = true; refinable = true }

abbrev value : ℕ → ℕ → Value
value property n = record { property = property; content = Number (pos n) }

size_line : property_line size ≡ line (codes "property" ∷ codes "size" ∷ codes "integer" ∷ codes "mr" ∷ [])
size_line = refl

rows_of_values : values_from (value 1 5 ∷ value 0 3 ∷ value 1 4 ∷ value 0 9 ∷ []) 0 (size ∷ size ∷ [])
    ≡ value 0 3 ∷ value 0 9 ∷ value 1 5 ∷ value 1 4 ∷ []
rows_of_values = refl
