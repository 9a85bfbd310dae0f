-- The text of a request that has a packet is UTF-8.
use Rattle.std.proofs.Common.{◌≡◌, ℕ, ◌<◌, ◌^◌, Bool, true, false, List, [], ◌∷◌, ◌++◌, flat_map, IsUtf8, All, refl, arith}
use Rattle.std.proofs.lemmas.List.Elements.{All-tail}
use Rattle.std.proofs.lemmas.Str.{IsUtf8-append, IsUtf8-nil}
use Rattle.std.specs.Prelude.{codes}
use Rattle.std.specs.Fmt.{decimal}
use Rattle.std.specs.List.{list_all}
use Rattle.sq_packet.specs.declared.request.Language.{Language}
use Rattle.sq_packet.specs.declared.request.Language.TheVariants as language
use Rattle.sq_packet.specs.declared.request.Direction.{Direction}
use Rattle.sq_packet.specs.declared.request.Direction.TheVariants as direction
use Rattle.sq_packet.specs.declared.request.RefinerSpec.{RefinerSpec}
use Rattle.sq_packet.specs.declared.request.SortSpec.{SortSpec}
use Rattle.sq_packet.specs.declared.request.Request.{Request}
use Rattle.sq_response.specs.Escaped.{escaped}
use Rattle.sq_response.specs.Response.{opened, closed, element}
use Rattle.sq_packet_writer.specs.PacketText.{attribute, opened_with, lone, group, type_text, query_text, range_text, property_text, bounds_text, refiner_text, direction_text, sort_attributes, sort_text, behavior_text, settings_text, asked_text, packet_text}
use Rattle.sq_packet_writer.specs.Writable.{IsXmlText, IsWritableRefiner, IsWritableSort, IsWritable}
use Rattle.sq_packet_writer.proofs.LetterLemmas.{is_ascii, is_plain, ascii_utf8, escaped_utf8, plain_ascii}
use Rattle.sq_packet_writer.proofs.ValueLemmas.{decimal_plain, bounds_plain}

plain_utf8 : (text : List ℕ) → list_all is_plain text ≡ true → IsUtf8 text
plain_utf8 text h = ascii_utf8 text (plain_ascii text h).0

-- ---- tags

opened_utf8 : (name : List ℕ) → is_ascii name ≡ true → IsUtf8 (opened name)
unfolding opened
opened_utf8 name low = IsUtf8-append (codes "<" ++ name) (codes ">") (IsUtf8-append (codes "<") name (ascii_utf8 (codes "<") refl) (ascii_utf8 name low)) (ascii_utf8 (codes ">") refl)

closed_utf8 : (name : List ℕ) → is_ascii name ≡ true → IsUtf8 (closed name)
unfolding closed
closed_utf8 name low = IsUtf8-append (codes "</" ++ name) (codes ">") (IsUtf8-append (codes "</") name (ascii_utf8 (codes "</") refl) (ascii_utf8 name low)) (ascii_utf8 (codes ">") refl)

element_utf8 : (name inside : List ℕ) → is_ascii name ≡ true → IsUtf8 inside → IsUtf8 (element name inside)
unfolding element
element_utf8 name inside low h = IsUtf8-append (opened name ++ inside) (closed name) (IsUtf8-append (opened name) inside (opened_utf8 name low) h) (closed_utf8 name low)

attribute_utf8 : (name value : List ℕ) → is_ascii name ≡ true → IsUtf8 value → IsUtf8 (attribute name value)
unfolding attribute
attribute_utf8 name value low h =
    let front = IsUtf8-append (codes " " ++ name) (codes "=\"") (IsUtf8-append (codes " ") name (ascii_utf8 (codes " ") refl) (ascii_utf8 name low)) (ascii_utf8 (codes "=\"") refl) in
    IsUtf8-append (codes " " ++ name ++ codes "=\"" ++ value) (codes "\"") (IsUtf8-append (codes " " ++ name ++ codes "=\"") value front h) (ascii_utf8 (codes "\"") refl)

with_utf8 : (name attrs : List ℕ) → is_ascii name ≡ true → IsUtf8 attrs → IsUtf8 (opened_with name attrs)
unfolding opened_with
with_utf8 name attrs low h =
    IsUtf8-append (codes "<" ++ name ++ attrs) (codes ">")
    (IsUtf8-append (codes "<" ++ name) attrs (IsUtf8-append (codes "<") name (ascii_utf8 (codes "<") refl) (ascii_utf8 name low)) h) (ascii_utf8 (codes ">") refl)

lone_utf8 : (name attrs : List ℕ) → is_ascii name ≡ true → IsUtf8 attrs → IsUtf8 (lone name attrs)
unfolding lone
lone_utf8 name attrs low h =
    IsUtf8-append (codes "<" ++ name ++ attrs) (codes "/>")
    (IsUtf8-append (codes "<" ++ name) attrs (IsUtf8-append (codes "<") name (ascii_utf8 (codes "<") refl) (ascii_utf8 name low)) h) (ascii_utf8 (codes "/>") refl)

each_utf8 : {X : Type 0} (P : X → Type 0) (text : X → List ℕ) (xs : List X) → ((x : X) → P x → IsUtf8 (text x)) → All P xs → IsUtf8 (flat_map text xs)
each_utf8 P text [] one all = IsUtf8-nil
each_utf8 P text (x ∷ xs) one all = IsUtf8-append (text x) (flat_map text xs) (one x (all 0 x (omega arith))) (each_utf8 P text xs one (All-tail P x xs all))

group_utf8 : {X : Type 0} (P : X → Type 0) (name : List ℕ) (text : X → List ℕ) (xs : List X) → is_ascii name ≡ true → ((x : X) → P x → IsUtf8 (text x)) → All P xs
    → IsUtf8 (group name text xs)
group_utf8 P name text [] low one all = IsUtf8-nil
group_utf8 P name text (x ∷ xs) low one all = element_utf8 name (flat_map text (x ∷ xs)) low (each_utf8 P text (x ∷ xs) one all)

-- ---- what is asked for

type_utf8 : (l : Language) → IsUtf8 (type_text l)
type_utf8 language.Kql = ascii_utf8 (codes "STRING") refl
type_utf8 language.Fql = ascii_utf8 (codes "FQL") refl

query_utf8 : (r : Request) → IsWritable r → IsUtf8 (query_text r)
unfolding query_text
query_utf8 r h =
    let tag = with_utf8 (codes "QueryText") (attribute (codes "type") (type_text r.language)) refl (attribute_utf8 (codes "type") (type_text r.language) refl (type_utf8 r.language)) in
    IsUtf8-append (opened_with (codes "QueryText") (attribute (codes "type") (type_text r.language)) ++ escaped r.text) (closed (codes "QueryText"))
    (IsUtf8-append (opened_with (codes "QueryText") (attribute (codes "type") (type_text r.language))) (escaped r.text) tag (escaped_utf8 r.text h.text)) (closed_utf8 (codes "QueryText") refl)

range_utf8 : (r : Request) → IsWritable r → IsUtf8 (range_text r)
unfolding range_text
range_utf8 r h =
    let asked = h.asked in
    let start : r.start < 2 ^ 64 = omega arith in
    let count : r.count < 2 ^ 64 = omega arith in
    IsUtf8-append (element (codes "StartAt") (decimal r.start)) (element (codes "Count") (decimal r.count))
    (element_utf8 (codes "StartAt") (decimal r.start) refl (plain_utf8 (decimal r.start) (decimal_plain r.start start)))
    (element_utf8 (codes "Count") (decimal r.count) refl (plain_utf8 (decimal r.count) (decimal_plain r.count count)))

property_utf8 : (name : List ℕ) → IsXmlText name → IsUtf8 (property_text name)
unfolding property_text
property_utf8 name h = lone_utf8 (codes "Property") (attribute (codes "name") (escaped name)) refl (attribute_utf8 (codes "name") (escaped name) refl (escaped_utf8 name h))

refiner_utf8 : (r : RefinerSpec) → IsWritableRefiner r → IsUtf8 (refiner_text r)
unfolding refiner_text
refiner_utf8 r h =
    element_utf8 (codes "Refiner") (escaped r.name ++ bounds_text r.bounds) refl
    (IsUtf8-append (escaped r.name) (bounds_text r.bounds) (escaped_utf8 r.name h.text) (plain_utf8 (bounds_text r.bounds) (bounds_plain r.bounds h.bounds)))

direction_utf8 : (d : Direction) → IsUtf8 (direction_text d)
direction_utf8 direction.Ascending = ascii_utf8 (codes "Ascending") refl
direction_utf8 direction.Descending = ascii_utf8 (codes "Descending") refl

sort_utf8 : (s : SortSpec) → IsWritableSort s → IsUtf8 (sort_text s)
unfolding sort_text sort_attributes
sort_utf8 s h =
    lone_utf8 (codes "SortByProperty") (sort_attributes s) refl
    (IsUtf8-append (attribute (codes "name") (escaped s.name)) (attribute (codes "direction") (direction_text s.direction))
    (attribute_utf8 (codes "name") (escaped s.name) refl (escaped_utf8 s.name h)) (attribute_utf8 (codes "direction") (direction_text s.direction) refl (direction_utf8 s.direction)))

behavior_utf8 : (b : Bool) → IsUtf8 (behavior_text b)
behavior_utf8 true = IsUtf8-nil
behavior_utf8 false = element_utf8 (codes "ImplicitAndBehavior") (codes "false") refl (ascii_utf8 (codes "false") refl)

settings_utf8 : (r : Request) → IsWritable r → IsUtf8 (settings_text r)
unfolding settings_text
settings_utf8 r h =
    let properties = group (codes "Properties") property_text r.properties in
    let refiners = group (codes "Refiners") refiner_text r.refiners in
    let sorts = group (codes "SortByProperties") sort_text r.sorts in
    IsUtf8-append (properties ++ refiners ++ sorts) (behavior_text r.implicit_and)
    (IsUtf8-append (properties ++ refiners) sorts
    (IsUtf8-append properties refiners (group_utf8 IsXmlText (codes "Properties") property_text r.properties refl property_utf8 h.properties)
    (group_utf8 IsWritableRefiner (codes "Refiners") refiner_text r.refiners refl refiner_utf8 h.refiners))
    (group_utf8 IsWritableSort (codes "SortByProperties") sort_text r.sorts refl sort_utf8 h.sorts)) (behavior_utf8 r.implicit_and)

asked_utf8 : (r : Request) → IsWritable r → IsUtf8 (asked_text r)
unfolding asked_text
asked_utf8 r h =
    IsUtf8-append (element (codes "Context") (query_text r) ++ element (codes "Range") (range_text r)) (settings_text r)
    (IsUtf8-append (element (codes "Context") (query_text r)) (element (codes "Range") (range_text r)) (element_utf8 (codes "Context") (query_text r) refl (query_utf8 r h))
    (element_utf8 (codes "Range") (range_text r) refl (range_utf8 r h))) (settings_utf8 r h)

pub packet_utf8 : (r : Request) → IsWritable r → IsUtf8 (packet_text r)
unfolding packet_text
packet_utf8 r h =
    let space = attribute (codes "xmlns") (codes "urn:Microsoft.Search.Query") in
    IsUtf8-append (opened_with (codes "QueryPacket") space ++ element (codes "Query") (asked_text r)) (closed (codes "QueryPacket"))
    (IsUtf8-append (opened_with (codes "QueryPacket") space) (element (codes "Query") (asked_text r))
    (with_utf8 (codes "QueryPacket") space refl (attribute_utf8 (codes "xmlns") (codes "urn:Microsoft.Search.Query") refl (ascii_utf8 (codes "urn:Microsoft.Search.Query") refl)))
    (element_utf8 (codes "Query") (asked_text r) refl (asked_utf8 r h))) (closed_utf8 (codes "QueryPacket") refl)
