-- The requests that have a packet.
use Rattle.std.specs.Prelude.{◌≡◌, ℕ, true, List, All, FitsSigned, IsUtf8}
use Rattle.std.specs.Int.{w64}
use Rattle.sq_base.specs.Xml.{is_xml_text}
use Rattle.sq_packet.specs.declared.request.RefinerSpec.{RefinerSpec}
use Rattle.sq_packet.specs.declared.request.SortSpec.{SortSpec}
use Rattle.sq_packet.specs.declared.request.Request.{Request}
use Rattle.sq_packet.specs.Asked.{IsAsked}
use Rattle.sq_packet.specs.Refiners.{is_refiner_name}

-- UTF-8 of characters that an XML text may hold
pub record IsXmlText (text : List ℕ) : Type 0 where
  pub utf8 : IsUtf8 text
  pub xml : is_xml_text text ≡ true

-- A name that refiners may have, and bounds of 64 bits signed.
pub record IsWritableRefiner (refiner : RefinerSpec) : Type 0 where
  pub text : IsXmlText refiner.name
  pub name : is_refiner_name refiner.name ≡ true
  pub bounds : All (FitsSigned w64) refiner.bounds

abbrev pub IsWritableSort : SortSpec → Type 0
IsWritableSort sort = IsXmlText sort.name

-- A request that may be asked, whose texts a packet may hold.
pub record IsWritable (request : Request) : Type 0 where
  pub asked : IsAsked request
  pub text : IsXmlText request.text
  pub properties : All IsXmlText request.properties
  pub refiners : All IsWritableRefiner request.refiners
  pub sorts : All IsWritableSort request.sorts
