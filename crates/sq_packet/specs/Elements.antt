-- The elements of a packet: their names, where each stands, and what it holds.
use Rattle.std.specs.Prelude.{ℕ, Bool, true, false, nat_le, if◌then◌else◌, List, [], ◌∷◌, length, codes, Option, Some, None}
use Rattle.std.specs.List.{find, list_any}
use Rattle.std.specs.Str.{bytes_eq}
use Rattle.sq_packet.specs.declared.element.Element.{Element}
use Rattle.sq_packet.specs.declared.element.Element.TheVariants.{QueryPacket, Query, SupportedFormats, Format, Context, QueryText, Range, StartAt, Count, Properties, Property, Refiners, Refiner, SortByProperties, SortByProperty, ImplicitAndBehavior, QueryId, CapitalId, EnableStemming, TrimDuplicates, IgnoreAllNoiseQuery, IncludeRelevanceResults, IncludeSpecialTermResults, IncludeHighConfidenceResults}
use Rattle.sq_packet.specs.declared.element.Content.{Content}
use Rattle.sq_packet.specs.declared.element.Content.TheVariants.{Elements, Words}
use Rattle.sq_packet.specs.declared.draft.Draft.{Draft}
use Rattle.sq_packet.specs.Limits.{most_properties, most_refiners, most_sorts}

abbrev pub name_of : Element → List ℕ
name_of QueryPacket = codes "QueryPacket"
name_of Query = codes "Query"
name_of SupportedFormats = codes "SupportedFormats"
name_of Format = codes "Format"
name_of Context = codes "Context"
name_of QueryText = codes "QueryText"
name_of Range = codes "Range"
name_of StartAt = codes "StartAt"
name_of Count = codes "Count"
name_of Properties = codes "Properties"
name_of Property = codes "Property"
name_of Refiners = codes "Refiners"
name_of Refiner = codes "Refiner"
name_of SortByProperties = codes "SortByProperties"
name_of SortByProperty = codes "SortByProperty"
name_of ImplicitAndBehavior = codes "ImplicitAndBehavior"
name_of QueryId = codes "QueryId"
name_of CapitalId = codes "QueryID"
name_of EnableStemming = codes "EnableStemming"
name_of TrimDuplicates = codes "TrimDuplicates"
name_of IgnoreAllNoiseQuery = codes "IgnoreAllNoiseQuery"
name_of IncludeRelevanceResults = codes "IncludeRelevanceResults"
name_of IncludeSpecialTermResults = codes "IncludeSpecialTermResults"
name_of IncludeHighConfidenceResults = codes "IncludeHighConfidenceResults"

-- the elements that may stand in an element; at the top it is QueryPacket
abbrev pub children_of : Option Element → List Element
children_of None = QueryPacket ∷ []
children_of (Some QueryPacket) = Query ∷ []
children_of (Some Query) =
    SupportedFormats ∷ Context ∷ Range ∷ Properties ∷ Refiners ∷ SortByProperties ∷ ImplicitAndBehavior ∷ QueryId ∷ CapitalId ∷ EnableStemming
    ∷ TrimDuplicates ∷ IgnoreAllNoiseQuery ∷ IncludeRelevanceResults ∷ IncludeSpecialTermResults ∷ IncludeHighConfidenceResults ∷ []
children_of (Some SupportedFormats) = Format ∷ []
children_of (Some Context) = QueryText ∷ []
children_of (Some Range) = StartAt ∷ Count ∷ []
children_of (Some Properties) = Property ∷ []
children_of (Some Refiners) = Refiner ∷ []
children_of (Some SortByProperties) = SortByProperty ∷ []
children_of (Some other) = []

unfoldable pub is_named : List ℕ → Element → Bool
is_named name element = bytes_eq (name_of element) name

abbrev pub child_of : Option Element → List ℕ → Option Element
child_of inside name = find (is_named name) (children_of inside)

abbrev pub parent_of : Element → Option Element
parent_of QueryPacket = None
parent_of Query = Some QueryPacket
parent_of Format = Some SupportedFormats
parent_of QueryText = Some Context
parent_of StartAt = Some Range
parent_of Count = Some Range
parent_of Property = Some Properties
parent_of Refiner = Some Refiners
parent_of SortByProperty = Some SortByProperties
parent_of other = Some Query

-- Property and SortByProperty hold nothing: no element may stand in them.
abbrev pub content_of : Element → Content
content_of QueryPacket = Elements
content_of Query = Elements
content_of SupportedFormats = Elements
content_of Context = Elements
content_of Range = Elements
content_of Properties = Elements
content_of Property = Elements
content_of Refiners = Elements
content_of SortByProperties = Elements
content_of SortByProperty = Elements
content_of other = Words

-- the elements that may stand more than once
abbrev pub repeats : Element → Bool
repeats Format = true
repeats Property = true
repeats Refiner = true
repeats SortByProperty = true
repeats other = false

-- both spellings of the identifier are one element
abbrev pub key_of : Element → List ℕ
key_of CapitalId = codes "QueryId"
key_of other = name_of other

abbrev pub is_seen : Element → List Element → Bool
is_seen element seen = list_any (λ other. bytes_eq (key_of other) (key_of element)) seen

-- the code of one element too many
abbrev pub full_code : Option Element → Draft → Option ℕ
full_code (Some Property) draft = if nat_le most_properties (length draft.request.properties) then Some 513 else None
full_code (Some Refiner) draft = if nat_le most_refiners (length draft.request.refiners) then Some 510 else None
full_code (Some SortByProperty) draft = if nat_le most_sorts (length draft.request.sorts) then Some 515 else None
full_code other draft = None
