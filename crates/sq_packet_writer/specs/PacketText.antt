-- The text of a request: one packet, without declaration, and without white space between its elements.
use Rattle.std.specs.Prelude.{ℕ, Bool, true, false, List, [], ◌∷◌, ◌++◌, flat_map, codes, ℤ}
use Rattle.std.specs.Fmt.{decimal, signed_decimal}
use Rattle.sq_packet.specs.declared.request.Language.{Language}
use Rattle.sq_packet.specs.declared.request.Language.TheVariants as language
use Rattle.sq_packet.specs.declared.request.Direction.{Direction}
use Rattle.sq_packet.specs.declared.request.Direction.TheVariants as direction
use Rattle.sq_packet.specs.declared.request.RefinerSpec.{RefinerSpec}
use Rattle.sq_packet.specs.declared.request.SortSpec.{SortSpec}
use Rattle.sq_packet.specs.declared.request.Request.{Request}
use Rattle.sq_response.specs.Escaped.{escaped}
use Rattle.sq_response.specs.Response.{closed, element}

-- ---- tags

-- an attribute, behind a space
unfoldable pub attribute : List ℕ → List ℕ → List ℕ
attribute name value = codes " " ++ name ++ codes "=\"" ++ value ++ codes "\""

-- the start tag of an element that has attributes
unfoldable pub opened_with : List ℕ → List ℕ → List ℕ
opened_with name attributes = codes "<" ++ name ++ attributes ++ codes ">"

-- an element that has attributes and holds nothing
unfoldable pub lone : List ℕ → List ℕ → List ℕ
lone name attributes = codes "<" ++ name ++ attributes ++ codes "/>"

-- an element that holds one for each item of a list, where there are any
abbrev pub group : {X : Type 0} → List ℕ → (X → List ℕ) → List X → List ℕ
group name text [] = []
group name text (x ∷ xs) = element name (flat_map text (x ∷ xs))

-- ---- what is asked for

abbrev pub type_text : Language → List ℕ
type_text language.Kql = codes "STRING"
type_text language.Fql = codes "FQL"

unfoldable pub query_text : Request → List ℕ
query_text r = opened_with (codes "QueryText") (attribute (codes "type") (type_text r.language)) ++ escaped r.text ++ closed (codes "QueryText")

unfoldable pub range_text : Request → List ℕ
range_text r = element (codes "StartAt") (decimal r.start) ++ element (codes "Count") (decimal r.count)

unfoldable pub property_text : List ℕ → List ℕ
property_text name = lone (codes "Property") (attribute (codes "name") (escaped name))

unfoldable pub bound_text : ℤ → List ℕ
bound_text bound = codes "/" ++ signed_decimal bound

-- the bounds of a refiner, if it has some
abbrev pub bounds_text : List ℤ → List ℕ
bounds_text [] = []
bounds_text (bound ∷ bounds) = codes "(discretize=manual" ++ flat_map bound_text (bound ∷ bounds) ++ codes ")"

unfoldable pub refiner_text : RefinerSpec → List ℕ
refiner_text refiner = element (codes "Refiner") (escaped refiner.name ++ bounds_text refiner.bounds)

abbrev pub direction_text : Direction → List ℕ
direction_text direction.Ascending = codes "Ascending"
direction_text direction.Descending = codes "Descending"

unfoldable pub sort_attributes : SortSpec → List ℕ
sort_attributes sort = attribute (codes "name") (escaped sort.name) ++ attribute (codes "direction") (direction_text sort.direction)

unfoldable pub sort_text : SortSpec → List ℕ
sort_text sort = lone (codes "SortByProperty") (sort_attributes sort)

-- operands side by side are joined by and unless this is said
abbrev pub behavior_text : Bool → List ℕ
behavior_text true = []
behavior_text false = element (codes "ImplicitAndBehavior") (codes "false")

-- ---- the packet

-- the lists of a request, and how operands are joined
unfoldable pub settings_text : Request → List ℕ
settings_text r =
    group (codes "Properties") property_text r.properties ++ group (codes "Refiners") refiner_text r.refiners
    ++ group (codes "SortByProperties") sort_text r.sorts ++ behavior_text r.implicit_and

unfoldable pub asked_text : Request → List ℕ
asked_text r = element (codes "Context") (query_text r) ++ element (codes "Range") (range_text r) ++ settings_text r

unfoldable pub packet_text : Request → List ℕ
packet_text r =
    opened_with (codes "QueryPacket") (attribute (codes "xmlns") (codes "urn:Microsoft.Search.Query")) ++ element (codes "Query") (asked_text r)
    ++ closed (codes "QueryPacket")
