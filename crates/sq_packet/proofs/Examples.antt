-- Worked packets, by computation.
use Rattle.std.proofs.Common.{◌≡◌, ℕ, List, [], ◌∷◌, ◌++◌, map, false, refl, Ok, Err, pos}
use Rattle.std.specs.Prelude.{codes}
use Rattle.std.specs.Str.{is_utf8, chars}
use Rattle.std.specs.Str.Lossy.{utf8_valid_len}
use lib.Utf8.{encode}
use Rattle.sq_base.specs.Xml.{is_xml_char}
use Rattle.sq_packet.specs.declared.request.Language.TheVariants as language
use Rattle.sq_packet.specs.declared.request.Direction.TheVariants as direction
use Rattle.sq_packet.specs.declared.request.Request.{Request}
use Rattle.sq_base.specs.Outcome.{Outcome}
use Rattle.sq_packet.specs.Texts.{reference, character, text_until, next_character}
use Rattle.sq_packet.specs.Packet.{packet_of, read_on, turn, end_tag, start_tag, begun, attributes, attribute_at, next_attribute, with_attribute, ended}
use Rattle.sq_packet.specs.Refiners.{refiner_of, is_manual}
use Rattle.sq_packet.specs.Elements.{is_named}
use Rattle.sq_schema.specs.Values as values

abbrev fault_of : Outcome Request → ℕ × ℕ
fault_of (Ok request) = (0, 0)
fault_of (Err fault) = (fault.code, fault.at)

abbrev head : List ℕ
head = codes "<QueryPacket xmlns='urn:Microsoft.Search.Query'>"

abbrev query : List ℕ → List ℕ
query inside = head ++ codes "<Query>" ++ inside ++ codes "</Query></QueryPacket>"

abbrev text : List ℕ
text = codes "<Context><QueryText>x</QueryText></Context>"

-- 48 bytes of head, 55 with <Query>, 98 with the text
whole : map fault_of (packet_of (query text) ∷ packet_of (query (codes "<Context/>")) ∷ packet_of (query (codes "<Range><Count>0</Count></Range>"))
    ∷ packet_of (query (codes "<Context><QueryText type='MSSQLFT'>x")) ∷ packet_of (query (text ++ codes "<Refiners><Refiner> size(discretize=manual/6/-07) </Refiner>"))
    ∷ packet_of (query (text ++ codes "<Foo!")) ∷ packet_of (query (text ++ codes "<Foo>")) ∷ packet_of (query (text ++ text)) ∷ packet_of (query (text ++ codes "<Foo"))
    ∷ packet_of (query text ++ codes " <!-- - --> ") ∷ packet_of (query text ++ codes " <x/>") ∷ packet_of (query text ++ codes "x") ∷ [])
    ≡ (0, 0) ∷ (505, 55) ∷ (508, 55) ∷ (507, 81) ∷ (510, 118) ∷ (502, 102) ∷ (503, 98) ∷ (504, 98) ∷ (502, 102) ∷ (0, 0) ∷ (502, 122) ∷ (502, 120) ∷ []
unfolding packet_of read_on turn end_tag start_tag begun attributes attribute_at with_attribute ended refiner_of is_manual is_named reference character text_until next_character next_attribute is_utf8 chars is_xml_char encode values.number_of values.is_numeral values.behind_minus
whole = refl

tags : map fault_of (packet_of (codes "<QueryPacket xmlns='urn:x'/>") ∷ packet_of (codes "<QueryPacket xmlns='urn:x'>") ∷ packet_of (codes "<QueryPacket>") ∷ packet_of (codes "")
    ∷ packet_of (codes "<QueryPacket a='1' a='2'>") ∷ packet_of (codes "<QueryPacket a='1'b='2'>") ∷ packet_of (codes "<QueryPacket a='1<'>") ∷ packet_of (codes "<QueryPacket a='&amp'>")
    ∷ packet_of (codes " <?xml?>") ∷ packet_of (codes "<?xml <x ?> <!DOCTYPE") ∷ packet_of (codes "<QueryPacket a")
    ∷ packet_of (query (text ++ codes "<Properties><Property/>")) ∷ packet_of (query (text ++ codes "<Properties><Property name='a'>b")) ∷ packet_of (query (codes "</Foo>"))
    ∷ packet_of (query (text ++ codes "</Foo>")) ∷ packet_of (query (text ++ codes "<QueryId>1</QueryID>")) ∷ packet_of (query (text ++ codes "<QueryId/><QueryID/>")) ∷ [])
    ≡ (505, 0) ∷ (503, 0) ∷ (503, 0) ∷ (502, 0) ∷ (502, 19) ∷ (502, 18) ∷ (502, 17) ∷ (502, 16)
    ∷ (502, 2) ∷ (502, 14) ∷ (502, 14)
    ∷ (502, 120) ∷ (502, 129) ∷ (505, 55)
    ∷ (502, 98) ∷ (502, 108) ∷ (504, 108) ∷ []
unfolding packet_of read_on turn end_tag start_tag begun attributes attribute_at with_attribute ended refiner_of is_manual is_named reference character text_until next_character next_attribute is_utf8 chars is_xml_char encode values.number_of values.is_numeral values.behind_minus
tags = refl

bad_numbers : map fault_of (packet_of (query (text ++ codes "<Range><StartAt> &#49;x</StartAt>")) ∷ packet_of (query (text ++ codes "<Range><StartAt> </StartAt>")) ∷ packet_of (query (text ++ codes "<Range><StartAt/>"))
    ∷ packet_of (query (text ++ codes "<Range><StartAt>4294967296</StartAt>")) ∷ packet_of (query (text ++ codes "<ImplicitAndBehavior> maybe</ImplicitAndBehavior>"))
    ∷ packet_of (query (text ++ codes "<SortByProperties><SortByProperty name='a' direction='Up' <"))
    ∷ packet_of (query (text ++ codes "<SortByProperties><SortByProperty direction='' <")) ∷ packet_of (255 ∷ []) ∷ packet_of (query (text ++ codes "<Range><Query>")) ∷ [])
    ≡ (506, 115) ∷ (506, 115) ∷ (506, 105) ∷ (506, 114) ∷ (512, 120) ∷ (514, 152) ∷ (514, 143) ∷ (501, 0) ∷ (503, 105) ∷ []
unfolding packet_of read_on turn end_tag start_tag begun attributes attribute_at with_attribute ended refiner_of is_manual is_named reference character text_until next_character next_attribute is_utf8 chars is_xml_char encode utf8_valid_len values.number_of values.is_numeral values.behind_minus
bad_numbers = refl

full : packet_of (239 ∷ 187 ∷ 191 ∷ codes "<?xml version='1.0'?>" ++ query (codes "<!-- all -->" ++ codes "<Context a = '>' ><QueryText type='FQL'> a&lt;&#x41; </QueryText ></Context><Range><Count> 5 </Count></Range><Properties><Property name=' t '/></Properties><Refiners><Refiner> size(discretize=manual/6/7) </Refiner></Refiners><SortByProperties><SortByProperty name='Rank' direction='descending'></SortByProperty></SortByProperties><ImplicitAndBehavior>False</ImplicitAndBehavior>"))
    ≡ Ok (record { language = language.Fql; text = codes " a<A "; start = 1; count = 5; properties = codes " t " ∷ []; refiners = record { name = codes "size"; bounds = pos 6 ∷ pos 7 ∷ [] } ∷ []; sorts = record { name = codes "Rank"; direction = direction.Descending } ∷ []; implicit_and = false })
unfolding packet_of read_on turn end_tag start_tag begun attributes attribute_at with_attribute ended refiner_of is_manual is_named reference character text_until next_character next_attribute is_utf8 chars is_xml_char encode values.number_of values.is_numeral values.behind_minus
full = refl
