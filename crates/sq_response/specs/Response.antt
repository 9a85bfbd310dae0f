-- The text of a response. There is no white space between its elements.
use Rattle.std.specs.Prelude.{ℕ, List, [], ◌∷◌, ◌++◌, flat_map, length, codes, Option, Some, None, ℤ}
use Rattle.std.specs.Fmt.{decimal, signed_decimal}
use Rattle.sq_base.specs.declared.faults.QueryFault.{QueryFault}
use Rattle.sq_response.specs.declared.response.Entry.{Entry}
use Rattle.sq_response.specs.declared.response.Entry.TheVariants.{Single, Bucket}
use Rattle.sq_response.specs.declared.response.Refined.{Refined}
use Rattle.sq_response.specs.declared.response.Shown.{Shown}
use Rattle.sq_response.specs.declared.response.Hit.{Hit}
use Rattle.sq_response.specs.declared.response.Found.{Found}
use Rattle.sq_response.specs.declared.response.Response.{Response}
use Rattle.sq_response.specs.declared.response.Response.TheVariants as response
use Rattle.sq_response.specs.Escaped.{escaped}
use Rattle.sq_response.specs.Names.{code_name}

-- ---- elements

unfoldable pub opened : List ℕ → List ℕ
opened name = codes "<" ++ name ++ codes ">"

unfoldable pub closed : List ℕ → List ℕ
closed name = codes "</" ++ name ++ codes ">"

unfoldable pub element : List ℕ → List ℕ → List ℕ
element name inside = opened name ++ inside ++ closed name

-- ---- hits

-- a shown value of a property
unfoldable pub value_text : Shown → List ℕ
value_text shown =
    opened (codes "Property") ++ element (codes "Name") (escaped shown.name) ++ element (codes "Value") (escaped shown.text) ++ closed (codes "Property")

unfoldable pub properties_text : List Shown → List ℕ
properties_text values = opened (codes "Properties") ++ flat_map value_text values ++ closed (codes "Properties")

-- the item's number, its score and its url
unfoldable pub item_text : Hit → List ℕ
item_text hit =
    element (codes "Number") (decimal hit.number) ++ element (codes "Score") (signed_decimal hit.score) ++ element (codes "Url") (escaped hit.url)

unfoldable pub document_text : Hit → List ℕ
document_text hit = opened (codes "Document") ++ item_text hit ++ properties_text hit.values ++ closed (codes "Document")

unfoldable pub results_text : List Hit → List ℕ
results_text hits = opened (codes "Results") ++ flat_map document_text hits ++ closed (codes "Results")

-- the place of the first hit as it was asked for, how many are shown, the total, and the hits
unfoldable pub range_text : Found → List ℕ
range_text found =
    opened (codes "Range") ++ element (codes "StartAt") (decimal found.start) ++ element (codes "Count") (decimal (length found.hits))
    ++ element (codes "TotalAvailable") (decimal found.total) ++ results_text found.hits ++ closed (codes "Range")

-- ---- refiners

-- a bound of a bucket, if it has one
abbrev pub bound_text : List ℕ → Option ℤ → List ℕ
bound_text name None = []
bound_text name (Some bound) = element name (signed_decimal bound)

-- a value and how many hits have it, or a bucket and how many hits have a number in it: from a number on, and below another
unfoldable pub entry_text : Entry → List ℕ
entry_text (Single value count) =
    opened (codes "Entry") ++ element (codes "Value") (signed_decimal value) ++ element (codes "Count") (decimal count) ++ closed (codes "Entry")
entry_text (Bucket from to count) =
    opened (codes "Entry") ++ bound_text (codes "From") from ++ bound_text (codes "To") to ++ element (codes "Count") (decimal count)
    ++ closed (codes "Entry")

unfoldable pub refiner_text : Refined → List ℕ
refiner_text refined =
    opened (codes "Refiner") ++ element (codes "Name") (escaped refined.name) ++ flat_map entry_text refined.entries ++ closed (codes "Refiner")

-- nothing where no refiner was asked for
abbrev pub refiners_text : List Refined → List ℕ
refiners_text [] = []
refiners_text (refined ∷ more) = opened (codes "Refiners") ++ flat_map refiner_text (refined ∷ more) ++ closed (codes "Refiners")

-- ---- the whole

-- the code of a fault, its name and its place
unfoldable pub fault_text : QueryFault → List ℕ
fault_text fault = decimal fault.code ++ codes " " ++ code_name fault.code ++ codes " at " ++ decimal fault.at

abbrev pub status_text : List ℕ → List ℕ
status_text status = element (codes "Status") status

unfoldable pub refusal_text : List ℕ → QueryFault → List ℕ
refusal_text status fault = status_text status ++ element (codes "DebugErrorMessage") (fault_text fault)

abbrev pub answer_text : Response → List ℕ
answer_text (response.Found found) = range_text found ++ refiners_text found.refiners ++ status_text (codes "SUCCESS")
answer_text response.Nothing = status_text (codes "ERROR_NO_RESULTS_FOUND")
answer_text (response.BadQuery fault) = refusal_text (codes "ERROR_BAD_QUERY") fault
answer_text (response.BadRequest fault) = refusal_text (codes "ERROR_BAD_REQUEST") fault

unfoldable pub opening : List ℕ
opening = codes "<?xml version=\"1.0\" encoding=\"utf-8\"?><ResponsePacket xmlns=\"urn:Microsoft.Search.Response\"><Response>"

unfoldable pub closing : List ℕ
closing = codes "</Response></ResponsePacket>"

unfoldable pub response_text : Response → List ℕ
response_text told = opening ++ answer_text told ++ closing
