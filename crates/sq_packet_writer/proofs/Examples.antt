-- A worked request, written and read again by computation.
use Rattle.std.proofs.Common.{◌≡◌, [], ◌∷◌, false, refl, Ok, pos, negsuc}
use Rattle.std.specs.Prelude.{codes}
use Rattle.std.specs.Str.{is_utf8, chars}
use Rattle.std.specs.Fmt.{digits}
use lib.Utf8.{encode}
use Rattle.sq_base.specs.Xml.{is_xml_char}
use Rattle.sq_packet.specs.declared.request.Language.TheVariants as language
use Rattle.sq_packet.specs.declared.request.Direction.TheVariants as direction
use Rattle.sq_packet.specs.declared.request.Request.{Request}
use Rattle.sq_packet.specs.Texts.{reference, character, text_until, next_character}
use Rattle.sq_packet.specs.Packet.{packet_of, read_on, turn, end_tag, start_tag, begun, attributes, attribute_at, next_attribute, with_attribute, ended}
use Rattle.sq_packet.specs.Refiners.{refiner_of, is_manual}
use Rattle.sq_packet.specs.Elements.{is_named}
use Rattle.sq_schema.specs.Values as values
use Rattle.sq_response.specs.Response.{opened, closed, element}
use Rattle.sq_packet_writer.specs.PacketText.{attribute, opened_with, lone, query_text, range_text, property_text, bound_text, refiner_text, sort_attributes, sort_text, settings_text, asked_text, packet_text}

abbrev worked : Request
worked = record {
  language = language.Fql;
  text = 9 ∷ codes " a<&\">";
  start = 11;
  count = 10;
  properties = codes " t " ∷ codes "\"" ∷ [];
  refiners = record { name = codes "au & or"; bounds = [] } ∷ record { name = codes "size"; bounds = negsuc 6 ∷ pos 0 ∷ pos 120 ∷ [] } ∷ [];
  sorts = record { name = codes "Rank"; direction = direction.Descending } ∷ record { name = codes "size"; direction = direction.Ascending } ∷ [];
  implicit_and = false;
}

written : packet_text worked
    ≡ codes "<QueryPacket xmlns=\"urn:Microsoft.Search.Query\"><Query><Context><QueryText type=\"FQL\">&#9; a&lt;&amp;&quot;&gt;</QueryText></Context><Range><StartAt>11</StartAt><Count>10</Count></Range><Properties><Property name=\" t \"/><Property name=\"&quot;\"/></Properties><Refiners><Refiner>au &amp; or</Refiner><Refiner>size(discretize=manual/-7/0/120)</Refiner></Refiners><SortByProperties><SortByProperty name=\"Rank\" direction=\"Descending\"/><SortByProperty name=\"size\" direction=\"Ascending\"/></SortByProperties><ImplicitAndBehavior>false</ImplicitAndBehavior></Query></QueryPacket>"
unfolding packet_text asked_text settings_text query_text range_text property_text bound_text refiner_text sort_attributes sort_text attribute opened_with lone opened closed element digits chars encode
written = refl

read : packet_of (packet_text worked) ≡ Ok worked
unfolding packet_text asked_text settings_text query_text range_text property_text bound_text refiner_text sort_attributes sort_text attribute opened_with lone opened closed element digits packet_of read_on turn end_tag start_tag begun attributes attribute_at with_attribute ended refiner_of is_manual is_named reference character text_until next_character next_attribute is_utf8 chars is_xml_char encode values.number_of values.is_numeral values.behind_minus
read = refl
