-- What the elements of a written packet are read as.
use Rattle.std.proofs.Common.{◌≡◌, ℕ, ◌<◌, nat_le, Bool, true, false, not, ◌&&◌, if◌then◌else◌, List, [], ◌∷◌, ◌++◌, length, chars, Option, Some, None, Ok, refl, sym, ◌∙◌, ap, subst, append_assoc, arith, length-append}
use Rattle.std.proofs.lemmas.Bool.{lt-leb}
use Rattle.std.specs.Prelude.{codes}
use Rattle.std.specs.List.{list_all}
use Rattle.std.specs.Str.{bytes_eq}
use Rattle.sq_packet.specs.declared.mark.Mark.{Mark}
use Rattle.sq_packet.specs.declared.mark.Class.TheVariants as class
use Rattle.sq_packet.specs.declared.element.Element.{Element}
use Rattle.sq_packet.specs.declared.element.Element.TheVariants as element
use Rattle.sq_packet.specs.declared.element.Content.TheVariants.{Elements, Words}
use Rattle.sq_packet.specs.declared.request.Language.{Language}
use Rattle.sq_packet.specs.declared.request.Language.TheVariants as language
use Rattle.sq_packet.specs.declared.request.Direction.{Direction}
use Rattle.sq_packet.specs.declared.request.Direction.TheVariants as direction
use Rattle.sq_packet.specs.declared.request.SortSpec.{SortSpec}
use Rattle.sq_packet.specs.declared.request.Request.{Request}
use Rattle.sq_packet.specs.declared.draft.Tag.{Tag}
use Rattle.sq_packet.specs.Elements.{name_of, is_named, child_of, parent_of, content_of, key_of, repeats, is_seen, full_code}
use Rattle.sq_packet.specs.Packet.{state, with_attribute, attribute as attribute_of, no_attributes, begun, ended, tag_end, at_tag, with_name, sort_spec}
use Rattle.sq_packet.specs.Marks.{marks_from}
use Rattle.sq_response.specs.Escaped.{escaped}
use Rattle.sq_response.specs.Response.{opened, closed, element as element_text}
use Rattle.sq_packet_writer.specs.PacketText.{attribute, opened_with, type_text, direction_text, property_text, sort_attributes, sort_text}
use Rattle.sq_packet_writer.specs.Writable.{IsXmlText}
use Rattle.sq_packet_writer.proofs.GivenLemmas.{letters_of}
use Rattle.sq_packet_writer.proofs.LetterLemmas.{past, letters, chars_cons, is_plain, plain_escaped, plain_xml}
use Rattle.sq_packet_writer.proofs.TagLemmas.{IsName, Opens, said, length_said, start_reads, start_turn, if_false}
use Rattle.sq_packet_writer.proofs.AttributeLemmas.{attribute_chars, lone_chars, with_chars, end_chars, TagReads, EndsTag, one_reads, two_read}
use Rattle.sq_packet_writer.proofs.ReadsLemmas.{Known, is_other, known_on, known_self, drafted, Reads, Turned, reads_on, IsPlain, IsClosed, Entry, open_reads, words_read}

-- ---- the parts of an element

pub element_apart : (name inside rest : List ℕ) → element_text name inside ++ rest ≡ opened name ++ (inside ++ (closed name ++ rest))
unfolding element_text
element_apart name inside rest = append_assoc (opened name ++ inside) (closed name) rest ∙ append_assoc (opened name) inside (closed name ++ rest)

pub reads_as : (end : ℕ) (whole : Request) (bytes other : List ℕ) (inside : Option Element) (request : Request) (later stood : List Element) → bytes ≡ other
    → Reads end whole other inside request later stood → Reads end whole bytes inside request later stood
reads_as end whole bytes other inside request later stood is h = subst (λ (t : List ℕ). Reads end whole t inside request later stood) (sym is) h

-- an element that stands once
pub once_entry : (e : Element) (request : Request) (later stood : List Element) → ((seen : List Element) (range : ℕ) → full_code (Some e) (drafted request seen range) ≡ None)
    → repeats e ≡ false → is_other e later ≡ true → Entry e request (e ∷ later) stood later stood
once_entry e request later stood room once other = record {
  room = room;
  first = λ seen known. ap (λ (b : Bool). not b && is_seen e seen) once ∙ known.coming.0;
  next = λ seen known. known_on e later stood seen other (record { coming = known.coming.1; gone = known.gone });
}

-- and is asked for later
pub kept_entry : (e : Element) (request : Request) (later stood : List Element) → ((seen : List Element) (range : ℕ) → full_code (Some e) (drafted request seen range) ≡ None)
    → repeats e ≡ false → is_other e later ≡ true → bytes_eq (key_of e) (key_of e) ≡ true → Entry e request (e ∷ later) stood later (e ∷ stood)
kept_entry e request later stood room once other same = record {
  room = room;
  first = λ seen known. ap (λ (b : Bool). not b && is_seen e seen) once ∙ known.coming.0;
  next = λ seen known. known_self e later stood seen other same (record { coming = known.coming.1; gone = known.gone });
}

-- an element that may stand again
pub again_entry : (e : Element) (request : Request) (later stood : List Element) → ((seen : List Element) (range : ℕ) → full_code (Some e) (drafted request seen range) ≡ None)
    → repeats e ≡ true → is_other e later ≡ true → Entry e request later stood later stood
again_entry e request later stood room again other = record {
  room = room;
  first = λ seen known. ap (λ (b : Bool). not b && is_seen e seen) again;
  next = λ seen known. known_on e later stood seen other known;
}

pub room_for : (most n code : ℕ) → n < most → (if nat_le most n then Some code else None) ≡ None
room_for most n code low = if_false (nat_le most n) (Some code) None (lt-leb most n low)

-- an element of words
pub worded_read : (end : ℕ) (whole : Request) (parent e : Element) (text rest : List ℕ) (request next : Request) (later stood later_then stood_then : List Element)
    → IsPlain parent e → Entry e request later stood later_then stood_then → content_of e ≡ Words → IsClosed e → IsXmlText text
    → ((words : List Mark) (at range : ℕ) (seen : List Element) → letters_of words ≡ chars text → ended e words at (drafted request seen range) ≡ Ok (drafted next seen range))
    → Reads end whole rest (parent_of e) next later_then stood_then
    → Reads end whole (element_text (name_of e) (escaped text) ++ rest) (Some parent) request later stood
worded_read end whole parent e text rest request next later stood later_then stood_then plain entry content closes xml ends h =
    reads_as end whole (element_text (name_of e) (escaped text) ++ rest) (opened (name_of e) ++ (escaped text ++ (closed (name_of e) ++ rest))) (Some parent) request later stood
    (element_apart (name_of e) (escaped text) rest)
    (open_reads end whole parent e (escaped text ++ (closed (name_of e) ++ rest)) request later stood later_then stood_then plain entry
    (words_read end whole e text rest request next later_then stood_then content closes xml ends h))

-- ---- tags with attributes

lone_ends : (cs : List ℕ) → EndsTag (47 ∷ (62 ∷ cs))
lone_ends cs = record { blank = λ at. refl; ends = λ at. refl }

pub open_ends : (cs : List ℕ) → EndsTag (62 ∷ cs)
open_ends cs = record { blank = λ at. refl; ends = λ at. refl }

-- an element that may stand in another
pub record Stands (parent e : Element) : Type 0 where
  pub content : content_of parent ≡ Elements
  pub named : IsName class.Name (name_of e)
  pub child : child_of (Some parent) (name_of e) ≡ Some e

tagged_turned : (end at range : ℕ) (parent e : Element) (more tail stop cs : List ℕ) (tag : Tag) (after : Option Element) (request next : Request)
    (seen later stood later_then stood_then : List Element) → Stands parent e → Entry e request later stood later_then stood_then → Known later stood seen
    → ((p : ℕ) → TagReads end p e (32 ∷ more) tail tag)
    → ((from p r : ℕ) (s : List Element) → tag_end end e from (Some parent) tag (drafted request s r) (marks_from p tail) ≡ Ok (state (marks_from (past p stop) cs) after (drafted next s r)))
    → Turned end (state (marks_from at (60 ∷ (name_of e ++ 32 ∷ more))) (Some parent) (drafted request seen range)) cs after next later_then stood_then
tagged_turned end at range parent e more tail stop cs tag after request next seen later stood later_then stood_then stands entry known attrs ends =
    let d = drafted request seen range in
    let behind = past (past at (60 ∷ [])) (name_of e) in
    let opens : Opens (Some parent) e d = record { named = stands.named; child = stands.child; room = entry.room seen range; first = entry.first seen known } in
    let read = attrs behind in
    record {
      place = past read.behind stop;
      range = (at_tag e at d).range;
      seen = seen ++ e ∷ [];
      known = entry.next seen known;
      is = start_turn end at parent d (name_of e) (32 ∷ more) stands.content stands.named.begins
          ∙ (start_reads end at (Some parent) d e 32 more tag (marks_from read.behind tail) opens refl refl read.is
          ∙ ends at read.behind (at_tag e at d).range (seen ++ e ∷ []));
    }

tagged_read : (end : ℕ) (whole : Request) (parent e : Element) (bytes rest more tail stop : List ℕ) (tag : Tag) (after : Option Element) (request next : Request)
    (later stood later_then stood_then : List Element) → Stands parent e → Entry e request later stood later_then stood_then
    → chars bytes ≡ 60 ∷ (name_of e ++ 32 ∷ more) → length (chars rest) < length (32 ∷ more)
    → ((p : ℕ) → TagReads end p e (32 ∷ more) tail tag)
    → ((from p r : ℕ) (s : List Element) → tag_end end e from (Some parent) tag (drafted request s r) (marks_from p tail) ≡ Ok (state (marks_from (past p stop) (chars rest)) after (drafted next s r)))
    → Reads end whole rest after next later_then stood_then → Reads end whole bytes (Some parent) request later stood
tagged_read end whole parent e bytes rest more tail stop tag after request next later stood later_then stood_then stands entry are shorter attrs ends h =
    reads_on end whole bytes rest (60 ∷ (name_of e ++ 32 ∷ more)) parent after request next later stood later_then stood_then are
    (omega (arith, shorter, length-append (name_of e) (32 ∷ more)))
    (λ at range seen known. tagged_turned end at range parent e more tail stop (chars rest) tag after request next seen later stood later_then stood_then stands entry known attrs ends) h

-- ---- properties

abbrev name_word : List ℕ
name_word = codes "name"

name_is_name : IsName class.AttributeName name_word
name_is_name = record { begins = refl; known = refl; ascii = refl }

property_stands : Stands element.Properties element.Property
unfolding is_named
property_stands = record { content = refl; named = record { begins = refl; known = refl; ascii = refl }; child = refl }

abbrev pub with_property : Request → List ℕ → Request
with_property r name = record r { properties = r.properties ++ name ∷ [] }

property_says : (name : List ℕ) (p : ℕ) → with_attribute element.Property (attribute_of name_word name p) no_attributes ≡ Ok (with_name name no_attributes)
unfolding with_attribute
property_says name p = refl

property_ends : (end : ℕ) (name cs : List ℕ) (request : Request) (from p r : ℕ) (s : List Element)
    → tag_end end element.Property from (Some element.Properties) (with_name name no_attributes) (drafted request s r) (marks_from p (47 ∷ (62 ∷ cs)))
    ≡ Ok (state (marks_from (past p (47 ∷ (62 ∷ []))) cs) (Some element.Properties) (drafted (with_property request name) s r))
unfolding ended begun
property_ends end name cs request from p r s = refl

property_chars : (name rest : List ℕ) → IsXmlText name
    → chars (property_text name ++ rest) ≡ 60 ∷ (name_of element.Property ++ said name_word (chars name) (47 ∷ (62 ∷ chars rest)))
unfolding property_text
property_chars name rest xml =
    lone_chars (name_of element.Property) (attribute name_word (escaped name)) rest refl
    ∙ ap (λ (t : List ℕ). 60 ∷ (name_of element.Property ++ t)) (attribute_chars name_word name (47 ∷ (62 ∷ rest)) refl xml
    ∙ ap (said name_word (chars name)) (end_chars rest))

pub property_read : (end : ℕ) (whole : Request) (name rest : List ℕ) (request : Request) (later stood : List Element) → length request.properties < 64 → IsXmlText name
    → is_other element.Property later ≡ true → Reads end whole rest (Some element.Properties) (with_property request name) later stood
    → Reads end whole (property_text name ++ rest) (Some element.Properties) request later stood
property_read end whole name rest request later stood room xml other h =
    let tail = 47 ∷ (62 ∷ chars rest) in
    tagged_read end whole element.Properties element.Property (property_text name ++ rest) rest (name_word ++ 61 ∷ (34 ∷ (letters (chars name) ++ 34 ∷ tail))) tail (47 ∷ (62 ∷ []))
    (with_name name no_attributes) (Some element.Properties) request (with_property request name) later stood later stood property_stands
    (again_entry element.Property request later stood (λ seen range. room_for 64 (length request.properties) 513 room) refl other)
    (property_chars name rest xml) (omega (arith, length_said name_word (chars name) tail))
    (λ p. one_reads end p element.Property name_word name tail (with_name name no_attributes) name_is_name xml (lone_ends (chars rest)) (property_says name))
    (property_ends end name (chars rest) request) h

-- ---- sorts

abbrev direction_word : List ℕ
direction_word = codes "direction"

direction_is_name : IsName class.AttributeName direction_word
direction_is_name = record { begins = refl; known = refl; ascii = refl }

sort_stands : Stands element.SortByProperties element.SortByProperty
unfolding is_named
sort_stands = record { content = refl; named = record { begins = refl; known = refl; ascii = refl }; child = refl }

abbrev pub with_sort : Request → SortSpec → Request
with_sort r sort = record r { sorts = r.sorts ++ sort ∷ [] }

abbrev sort_tag : SortSpec → Tag
sort_tag sort = record (with_name sort.name no_attributes) { direction = sort.direction }

sort_named : (name : List ℕ) (p : ℕ) → with_attribute element.SortByProperty (attribute_of name_word name p) no_attributes ≡ Ok (with_name name no_attributes)
unfolding with_attribute
sort_named name p = refl

sort_directed : (name : List ℕ) (d : Direction) (p : ℕ)
    → with_attribute element.SortByProperty (attribute_of direction_word (direction_text d) p) (with_name name no_attributes) ≡ Ok (sort_tag (sort_spec name d))
unfolding with_attribute
sort_directed name direction.Ascending p = refl
sort_directed name direction.Descending p = refl

sort_ends : (end : ℕ) (sort : SortSpec) (cs : List ℕ) (request : Request) (from p r : ℕ) (s : List Element)
    → tag_end end element.SortByProperty from (Some element.SortByProperties) (sort_tag sort) (drafted request s r) (marks_from p (47 ∷ (62 ∷ cs)))
    ≡ Ok (state (marks_from (past p (47 ∷ (62 ∷ []))) cs) (Some element.SortByProperties) (drafted (with_sort request sort) s r))
unfolding ended begun
sort_ends end sort cs request from p r s = refl

direction_plain : (d : Direction) → list_all is_plain (direction_text d) ≡ true
direction_plain direction.Ascending = refl
direction_plain direction.Descending = refl

attributes_chars : (sort : SortSpec) (rest : List ℕ) → IsXmlText sort.name
    → chars (sort_attributes sort ++ rest) ≡ said name_word (chars sort.name) (said direction_word (chars (direction_text sort.direction)) (chars rest))
unfolding sort_attributes
attributes_chars sort rest xml =
    let plain = direction_plain sort.direction in
    let second = attribute direction_word (direction_text sort.direction) in
    let escapes : attribute direction_word (escaped (direction_text sort.direction)) ++ rest ≡ second ++ rest =
    ap (λ (t : List ℕ). attribute direction_word t ++ rest) (plain_escaped (direction_text sort.direction) plain) in
    ap chars (append_assoc (attribute name_word (escaped sort.name)) second rest)
    ∙ (attribute_chars name_word sort.name (second ++ rest) refl xml
    ∙ ap (said name_word (chars sort.name)) (ap chars (sym escapes)
    ∙ attribute_chars direction_word (direction_text sort.direction) rest refl (plain_xml (direction_text sort.direction) plain)))

sort_chars : (sort : SortSpec) (rest : List ℕ) → IsXmlText sort.name
    → chars (sort_text sort ++ rest)
    ≡ 60 ∷ (name_of element.SortByProperty ++ said name_word (chars sort.name) (said direction_word (chars (direction_text sort.direction)) (47 ∷ (62 ∷ chars rest))))
unfolding sort_text
sort_chars sort rest xml =
    lone_chars (name_of element.SortByProperty) (sort_attributes sort) rest refl
    ∙ ap (λ (t : List ℕ). 60 ∷ (name_of element.SortByProperty ++ t)) (attributes_chars sort (47 ∷ (62 ∷ rest)) xml
    ∙ ap (λ (t : List ℕ). said name_word (chars sort.name) (said direction_word (chars (direction_text sort.direction)) t)) (end_chars rest))

pub sort_read : (end : ℕ) (whole : Request) (sort : SortSpec) (rest : List ℕ) (request : Request) (later stood : List Element) → length request.sorts < 4 → IsXmlText sort.name
    → is_other element.SortByProperty later ≡ true → Reads end whole rest (Some element.SortByProperties) (with_sort request sort) later stood
    → Reads end whole (sort_text sort ++ rest) (Some element.SortByProperties) request later stood
sort_read end whole sort rest request later stood room xml other h =
    let tail = 47 ∷ (62 ∷ chars rest) in
    let second = said direction_word (chars (direction_text sort.direction)) tail in
    let plain = direction_plain sort.direction in
    tagged_read end whole element.SortByProperties element.SortByProperty (sort_text sort ++ rest) rest (name_word ++ 61 ∷ (34 ∷ (letters (chars sort.name) ++ 34 ∷ second))) tail
    (47 ∷ (62 ∷ [])) (sort_tag sort) (Some element.SortByProperties) request (with_sort request sort) later stood later stood sort_stands
    (again_entry element.SortByProperty request later stood (λ seen range. room_for 4 (length request.sorts) 515 room) refl other)
    (sort_chars sort rest xml)
    (omega (arith, length_said name_word (chars sort.name) second, length_said direction_word (chars (direction_text sort.direction)) tail))
    (λ p. two_read end p element.SortByProperty name_word sort.name direction_word (direction_text sort.direction) tail (with_name sort.name no_attributes) (sort_tag sort)
    name_is_name direction_is_name refl xml (plain_xml (direction_text sort.direction) plain) (lone_ends (chars rest)) (sort_named sort.name) (sort_directed sort.name sort.direction))
    (sort_ends end sort (chars rest) request) h

-- ---- the query's start tag

abbrev type_word : List ℕ
type_word = codes "type"

type_is_name : IsName class.AttributeName type_word
type_is_name = record { begins = refl; known = refl; ascii = refl }

query_stands : Stands element.Context element.QueryText
unfolding is_named
query_stands = record { content = refl; named = record { begins = refl; known = refl; ascii = refl }; child = refl }

abbrev pub with_language : Request → Language → Request
with_language r l = record r { language = l }

abbrev language_tag : Language → Tag
language_tag l = record no_attributes { language = l }

type_says : (l : Language) (p : ℕ) → with_attribute element.QueryText (attribute_of type_word (type_text l) p) no_attributes ≡ Ok (language_tag l)
unfolding with_attribute
type_says language.Kql p = refl
type_says language.Fql p = refl

query_ends : (end : ℕ) (l : Language) (cs : List ℕ) (request : Request) (from p r : ℕ) (s : List Element)
    → tag_end end element.QueryText from (Some element.Context) (language_tag l) (drafted request s r) (marks_from p (62 ∷ cs))
    ≡ Ok (state (marks_from (past p (62 ∷ [])) cs) (Some element.QueryText) (drafted (with_language request l) s r))
unfolding begun
query_ends end l cs request from p r s = refl

type_plain : (l : Language) → list_all is_plain (type_text l) ≡ true
type_plain language.Kql = refl
type_plain language.Fql = refl

query_chars : (l : Language) (rest : List ℕ)
    → chars (opened_with (name_of element.QueryText) (attribute type_word (type_text l)) ++ rest)
    ≡ 60 ∷ (name_of element.QueryText ++ said type_word (chars (type_text l)) (62 ∷ chars rest))
query_chars l rest =
    let plain = type_plain l in
    ap (λ (t : List ℕ). chars (opened_with (name_of element.QueryText) (attribute type_word t) ++ rest)) (sym (plain_escaped (type_text l) plain))
    ∙ (with_chars (name_of element.QueryText) (attribute type_word (escaped (type_text l))) rest refl
    ∙ ap (λ (t : List ℕ). 60 ∷ (name_of element.QueryText ++ t)) (attribute_chars type_word (type_text l) (62 ∷ rest) refl (plain_xml (type_text l) plain)
    ∙ ap (said type_word (chars (type_text l))) (chars_cons 62 rest refl)))

pub query_opens : (end : ℕ) (whole : Request) (l : Language) (rest : List ℕ) (request : Request) (later stood later_then stood_then : List Element)
    → Entry element.QueryText request later stood later_then stood_then → Reads end whole rest (Some element.QueryText) (with_language request l) later_then stood_then
    → Reads end whole (opened_with (name_of element.QueryText) (attribute type_word (type_text l)) ++ rest) (Some element.Context) request later stood
query_opens end whole l rest request later stood later_then stood_then entry h =
    let tail = 62 ∷ chars rest in
    tagged_read end whole element.Context element.QueryText (opened_with (name_of element.QueryText) (attribute type_word (type_text l)) ++ rest) rest
    (type_word ++ 61 ∷ (34 ∷ (letters (chars (type_text l)) ++ 34 ∷ tail))) tail (62 ∷ []) (language_tag l) (Some element.QueryText) request (with_language request l)
    later stood later_then stood_then query_stands entry (query_chars l rest) (omega (arith, length_said type_word (chars (type_text l)) tail))
    (λ p. one_reads end p element.QueryText type_word (type_text l) tail (language_tag l) type_is_name (plain_xml (type_text l) (type_plain l)) (open_ends (chars rest)) (type_says l))
    (query_ends end l (chars rest) request) h
