-- Written tags with attributes are read.
use Rattle.std.proofs.Common.{◌≡◌, ℕ, suc, ◌<◌, true, false, ◌||◌, List, [], ◌∷◌, ◌++◌, length, chars, Ok, refl, sym, ◌∙◌, ap, subst, append_assoc, arith, length-append}
use Rattle.std.proofs.lemmas.Str.{encodes-chars}
use Rattle.std.specs.Prelude.{codes}
use Rattle.std.specs.Str.{bytes_eq, encode_utf8_all as encoded}
use Rattle.sq_packet.specs.declared.mark.Class.TheVariants as class
use Rattle.sq_packet.specs.declared.element.Element.{Element}
use Rattle.sq_packet.specs.declared.draft.Tag.{Tag}
use Rattle.sq_packet.specs.Marks.{marks_from, skip_blanks}
use Rattle.sq_packet.specs.Packet.{attribute as attribute_of, ends_tag, attributes, with_attribute, no_attributes}
use Rattle.sq_response.specs.Escaped.{escaped}
use Rattle.sq_packet_writer.specs.PacketText.{attribute, opened_with, lone}
use Rattle.sq_packet_writer.specs.Writable.{IsXmlText}
use Rattle.sq_packet_writer.proofs.LetterLemmas.{past, is_ascii, letters, length-marks, chars_cons, chars_word, escaped_chars}
use Rattle.sq_packet_writer.proofs.TagLemmas.{IsName, said, attribute_reads, attributes_on, attributes_end}

-- ---- characters

said_chars : (word text rest : List ℕ) → is_ascii word ≡ true → IsXmlText text
    → chars (32 ∷ (word ++ 61 ∷ (34 ∷ (escaped text ++ 34 ∷ rest)))) ≡ said word (chars text) (chars rest)
said_chars word text rest low xml =
    chars_cons 32 (word ++ 61 ∷ (34 ∷ (escaped text ++ 34 ∷ rest))) refl
    ∙ ap (λ (t : List ℕ). 32 ∷ t) (chars_word word (61 ∷ (34 ∷ (escaped text ++ 34 ∷ rest))) low
    ∙ ap (λ (t : List ℕ). word ++ t) (chars_cons 61 (34 ∷ (escaped text ++ 34 ∷ rest)) refl
    ∙ ap (λ (t : List ℕ). 61 ∷ t) (chars_cons 34 (escaped text ++ 34 ∷ rest) refl
    ∙ ap (λ (t : List ℕ). 34 ∷ t) (escaped_chars text (34 ∷ rest) xml
    ∙ ap (λ (t : List ℕ). letters (chars text) ++ t) (chars_cons 34 rest refl)))))

attribute_apart : (word value rest : List ℕ) → attribute word value ++ rest ≡ 32 ∷ (word ++ 61 ∷ (34 ∷ (value ++ 34 ∷ rest)))
unfolding attribute
attribute_apart word value rest =
    ap (λ (t : List ℕ). 32 ∷ t) (append_assoc (word ++ codes "=\"" ++ value) (codes "\"") rest
    ∙ (append_assoc (word ++ codes "=\"") value (34 ∷ rest) ∙ append_assoc word (codes "=\"") (value ++ 34 ∷ rest)))

pub attribute_chars : (word text rest : List ℕ) → is_ascii word ≡ true → IsXmlText text → chars (attribute word (escaped text) ++ rest) ≡ said word (chars text) (chars rest)
attribute_chars word text rest low xml = ap chars (attribute_apart word (escaped text) rest) ∙ said_chars word text rest low xml

tagged_chars : (name rest : List ℕ) → is_ascii name ≡ true → chars (60 ∷ (name ++ rest)) ≡ 60 ∷ (name ++ chars rest)
tagged_chars name rest low = chars_cons 60 (name ++ rest) refl ∙ ap (λ (t : List ℕ). 60 ∷ t) (chars_word name rest low)

lone_apart : (name attrs rest : List ℕ) → lone name attrs ++ rest ≡ 60 ∷ (name ++ (attrs ++ 47 ∷ (62 ∷ rest)))
unfolding lone
lone_apart name attrs rest = ap (λ (t : List ℕ). 60 ∷ t) (append_assoc (name ++ attrs) (codes "/>") rest ∙ append_assoc name attrs (47 ∷ (62 ∷ rest)))

pub lone_chars : (name attrs rest : List ℕ) → is_ascii name ≡ true → chars (lone name attrs ++ rest) ≡ 60 ∷ (name ++ chars (attrs ++ 47 ∷ (62 ∷ rest)))
lone_chars name attrs rest low = ap chars (lone_apart name attrs rest) ∙ tagged_chars name (attrs ++ 47 ∷ (62 ∷ rest)) low

with_apart : (name attrs rest : List ℕ) → opened_with name attrs ++ rest ≡ 60 ∷ (name ++ (attrs ++ 62 ∷ rest))
unfolding opened_with
with_apart name attrs rest = ap (λ (t : List ℕ). 60 ∷ t) (append_assoc (name ++ attrs) (codes ">") rest ∙ append_assoc name attrs (62 ∷ rest))

pub with_chars : (name attrs rest : List ℕ) → is_ascii name ≡ true → chars (opened_with name attrs ++ rest) ≡ 60 ∷ (name ++ chars (attrs ++ 62 ∷ rest))
with_chars name attrs rest low = ap chars (with_apart name attrs rest) ∙ tagged_chars name (attrs ++ 62 ∷ rest) low

pub end_chars : (rest : List ℕ) → chars (47 ∷ (62 ∷ rest)) ≡ 47 ∷ (62 ∷ chars rest)
end_chars rest = chars_cons 47 (62 ∷ rest) refl ∙ ap (λ (t : List ℕ). 47 ∷ t) (chars_cons 62 rest refl)

-- ---- attributes

-- the attributes of a tag are read up to what ends it
pub record TagReads (end at : ℕ) (e : Element) (cs tail : List ℕ) (tag : Tag) : Type 0 where
  pub behind : ℕ
  pub is : attributes (suc (length (marks_from at cs))) end e [] no_attributes (marks_from at cs) ≡ Ok (tag, marks_from behind tail)

-- what ends a tag
pub record EndsTag (tail : List ℕ) : Type 0 where
  pub blank : (at : ℕ) → skip_blanks (marks_from at tail) ≡ marks_from at tail
  pub ends : (at : ℕ) → ends_tag (marks_from at tail) ≡ true

said_value : (e : Element) (word text : List ℕ) (tag after : Tag) → IsXmlText text → ((at : ℕ) → with_attribute e (attribute_of word text at) tag ≡ Ok after)
    → (at : ℕ) → with_attribute e (attribute_of word (encoded (chars text)) at) tag ≡ Ok after
said_value e word text tag after xml says at =
    subst (λ (t : List ℕ). with_attribute e (attribute_of word t at) tag ≡ Ok after) (sym (encodes-chars text xml.utf8)) (says at)

pub one_reads : (end at : ℕ) (e : Element) (word text tail : List ℕ) (tag : Tag) → IsName class.AttributeName word → IsXmlText text → EndsTag tail
    → ((p : ℕ) → with_attribute e (attribute_of word text p) no_attributes ≡ Ok tag) → TagReads end at e (said word (chars text) tail) tail tag
one_reads end at e word text tail tag named xml ends says =
    let one = attribute_reads end at [] word (chars text) tail named refl xml.xml in
    let ms = marks_from at (said word (chars text) tail) in
    record {
      behind = one.behind;
      is = attributes_on (length ms) end e [] no_attributes tag ms (attribute_of word (encoded (chars text)) one.at_value) (marks_from one.behind tail) one.is
          (said_value e word text no_attributes tag xml says one.at_value)
          ∙ attributes_end (length ms) end e (word ∷ []) tag (marks_from one.behind tail) (omega arith) (ends.blank one.behind) (ends.ends one.behind);
    }

pub two_read : (end at : ℕ) (e : Element) (word text word_then text_then tail : List ℕ) (tag after : Tag) → IsName class.AttributeName word → IsName class.AttributeName word_then
    → (bytes_eq word_then word || false) ≡ false → IsXmlText text → IsXmlText text_then → EndsTag tail
    → ((p : ℕ) → with_attribute e (attribute_of word text p) no_attributes ≡ Ok tag) → ((p : ℕ) → with_attribute e (attribute_of word_then text_then p) tag ≡ Ok after)
    → TagReads end at e (said word (chars text) (said word_then (chars text_then) tail)) tail after
two_read end at e word text word_then text_then tail tag after named named_then other xml xml_then ends says says_then =
    let more = said word_then (chars text_then) tail in
    let one = attribute_reads end at [] word (chars text) more named refl xml.xml in
    let two = attribute_reads end one.behind (word ∷ []) word_then (chars text_then) tail named_then other xml_then.xml in
    let ms = marks_from at (said word (chars text) more) in
    let behind = marks_from (past at (32 ∷ [])) (word ++ 61 ∷ (34 ∷ (letters (chars text) ++ 34 ∷ more))) in
    let some : 0 < length behind = omega (
      arith,
      length-marks (past at (32 ∷ [])) (word ++ 61 ∷ (34 ∷ (letters (chars text) ++ 34 ∷ more))),
      length-append word (61 ∷ (34 ∷ (letters (chars text) ++ 34 ∷ more))),
    ) in
    record {
      behind = two.behind;
      is = attributes_on (suc (length behind)) end e [] no_attributes tag ms (attribute_of word (encoded (chars text)) one.at_value) (marks_from one.behind more) one.is
          (said_value e word text no_attributes tag xml says one.at_value)
          ∙ (attributes_on (length behind) end e (word ∷ []) tag after (marks_from one.behind more) (attribute_of word_then (encoded (chars text_then)) two.at_value)
          (marks_from two.behind tail) two.is (said_value e word_then text_then tag after xml_then says_then two.at_value)
          ∙ attributes_end (length behind) end e (word ∷ (word_then ∷ [])) after (marks_from two.behind tail) some (ends.blank two.behind) (ends.ends two.behind));
    }
