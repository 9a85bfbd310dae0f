-- What stands after each line of a corpus text, or the lowest code of the line: 601 it isn't UTF-8, 602 it isn't of its form or
-- may not stand there, 603 a number is bad, 604 the property is unknown, 605 a name or a value is repeated, 606 the item's number
-- isn't above the one before, 607 a field is bad, 608 there are too many of its kind.
use Rattle.std.specs.Prelude.{ℕ, min, nat_lt, nat_le, Bool, true, false, not, ◌&&◌, if◌then◌else◌, List, [], ◌∷◌, ◌++◌, length, position, slice_get, codes, Option, Some, None, option_map, option_to_list, Result, Ok, Err, ℤ, pos, unsigned_abs}
use Rattle.std.specs.List.{list_all, list_any}
use Rattle.std.specs.Str.{bytes_eq, is_utf8}
use Rattle.sq_base.specs.Xml.{is_xml_text}
use Rattle.sq_base.specs.Limits.{most_values, most_items}
use Rattle.sq_schema.specs.declared.interval.Interval.{Interval}
use Rattle.sq_schema.specs.declared.property.Kind.{Kind}
use Rattle.sq_schema.specs.declared.property.Kind.TheVariants.{Text, Integer, DateTime, YesNo}
use Rattle.sq_schema.specs.declared.property.Property.{Property}
use Rattle.sq_schema.specs.declared.values.NumberFault.{NumberFault}
use Rattle.sq_schema.specs.Bounds.{is_from_to}
use Rattle.sq_schema.specs.Dates.{interval_of}
use Rattle.sq_schema.specs.Properties.{is_sound, has_name}
use Rattle.sq_schema.specs.Values.{number_of}
use Rattle.sq_schema.specs.Limits.{most_rows}
use Rattle.sq_model.specs.declared.corpus.Content.{Content}
use Rattle.sq_model.specs.declared.corpus.Content.TheVariants.{Words, Number, Moment, Flag}
use Rattle.sq_model.specs.declared.corpus.Value.{Value}
use Rattle.sq_model.specs.declared.corpus.Item.{Item}
use Rattle.sq_model.specs.declared.corpus.Caller.{Caller}
use Rattle.sq_model.specs.Limits.{most_claims, most_callers, greatest_item_number, least_rank, greatest_rank}
use Rattle.sq_model.specs.Valid.{is_name, count_of}
use Rattle.sq_corpus.specs.declared.before.Before.{Before}
use Rattle.sq_corpus.specs.declared.before.Stage.{Stage}
use Rattle.sq_corpus.specs.declared.before.Stage.TheVariants.{Start, InProperties, InCallers, BeforeAllow, BeforeDeny, InValues}
use Rattle.sq_corpus.specs.declared.words.LineKind.{LineKind}
use Rattle.sq_corpus.specs.declared.words.LineKind.TheVariants.{Heading, PropertyRow, CallerRow, ItemHead, AllowList, DenyList, ValueRow}
use Rattle.sq_corpus.specs.declared.words.Flags.{Flags}
use Rattle.sq_corpus.specs.Escapes.{text_of}
use Rattle.sq_corpus.specs.Pieces.{fields_of}
use Rattle.sq_corpus.specs.Words.{line_kind, kind_of, flags_of}

-- which lines may stand where
abbrev pub may_stand : Stage → LineKind → Bool
may_stand Start Heading = true
may_stand InProperties PropertyRow = true
may_stand InProperties CallerRow = true
may_stand InProperties ItemHead = true
may_stand InCallers CallerRow = true
may_stand InCallers ItemHead = true
may_stand BeforeAllow AllowList = true
may_stand BeforeDeny DenyList = true
may_stand InValues ValueRow = true
may_stand InValues ItemHead = true
may_stand stage kind = false

-- A property: its name, its kind and its flags.

abbrev pub row_of : List ℕ → Kind → Flags → Property
row_of name kind flags = record {
  name = name;
  kind = kind;
  searchable = flags.searchable;
  multi = flags.multi;
  refinable = flags.refinable;
}

-- the row behind the earlier ones, as a schema takes it
unfoldable pub with_row : Before → Property → Result Before ℕ
with_row before row =
    if not (is_sound row) then Err 602
    else (if list_any (has_name row.name) before.rows then Err 605
    else (if nat_le most_rows (length before.rows) then Err 608
    else Ok (record before { rows = before.rows ++ row ∷ [] })))

unfoldable pub with_property : Before → List ℕ → Option Kind → Option Flags → Result Before ℕ
with_property before name (Some kind) (Some flags) = with_row before (row_of name kind flags)
with_property before name kind flags = Err 602

-- A caller: his name and his claims.

abbrev pub caller_of : List ℕ → List (List ℕ) → Caller
caller_of name claims = record { name = name; claims = claims }

unfoldable pub is_named : List ℕ → Caller → Bool
is_named name caller = bytes_eq caller.name name

unfoldable pub with_caller : Before → List ℕ → List (List ℕ) → Result Before ℕ
with_caller before name claims =
    if list_any (is_named name) before.callers then Err 605
    else (if not (is_name name && list_all is_name claims) then Err 607
    else (if nat_le most_callers (length before.callers) then Err 608
    else Ok (record before { stage = InCallers; callers = before.callers ++ caller_of name claims ∷ [] })))

-- An item: its number, its rank and its url, and then its access lists.

-- the number that the field writes, if it lies from first to last
unfoldable pub number_from_to : ℤ → ℤ → Result ℤ NumberFault → Option ℤ
number_from_to first last (Ok n) = if is_from_to first last n then Some n else None
number_from_to first last (Err fault) = None

abbrev pub item_number : List ℕ → Option ℕ
item_number field = option_map unsigned_abs (number_from_to (pos 1) (pos greatest_item_number) (number_of field))

abbrev pub rank_of : List ℕ → Option ℤ
rank_of field = number_from_to least_rank greatest_rank (number_of field)

-- the number is above that of the item before, if there is one
abbrev pub is_above : Option Item → ℕ → Bool
is_above None number = true
is_above (Some item) number = nat_lt item.number number

abbrev pub item_of : ℕ → ℤ → List ℕ → Item
item_of number rank url = record { number = number; rank = rank; url = url; allow = []; deny = []; values = [] }

-- all items, with the one that is being read
abbrev pub items_of : Before → List Item
items_of before = before.items ++ option_to_list before.item

abbrev pub closed : Before → Before
closed before = record before { items = items_of before; item = None }

unfoldable pub with_url : Before → ℕ → ℤ → Option (List ℕ) → Result Before ℕ
with_url before number rank None = Err 607
with_url before number rank (Some url) =
    if nat_le most_items (length (items_of before)) then Err 608
    else Ok (record before { stage = BeforeAllow; items = items_of before; item = Some (item_of number rank url) })

unfoldable pub with_item : Before → Option ℕ → Option ℤ → Option (List ℕ) → Result Before ℕ
with_item before (Some number) (Some rank) url = if is_above before.item number then with_url before number rank url else Err 606
with_item before number rank url = Err 603

-- an access list of these claims
unfoldable pub list_fault : List (List ℕ) → Option ℕ
list_fault claims =
    if not (list_all is_name claims) then Some 607
    else (if nat_lt most_claims (length claims) then Some 608
    else None)

abbrev pub allowing : List (List ℕ) → Item → Item
allowing claims item = record item { allow = claims }

abbrev pub denying : List (List ℕ) → Item → Item
denying claims item = record item { deny = claims }

abbrev pub if_faultless : Option ℕ → Before → Result Before ℕ
if_faultless (Some code) after = Err code
if_faultless None after = Ok after

abbrev pub allowed : Before → List (List ℕ) → Before
allowed before claims = record before { stage = BeforeDeny; item = option_map (allowing claims) before.item }

abbrev pub denied : Before → List (List ℕ) → Before
denied before claims = record before { stage = InValues; item = option_map (denying claims) before.item }

unfoldable pub with_allow : Before → List (List ℕ) → Result Before ℕ
with_allow before claims = if_faultless (list_fault claims) (allowed before claims)

unfoldable pub with_deny : Before → List (List ℕ) → Result Before ℕ
with_deny before claims = if_faultless (list_fault claims) (denied before claims)

-- A value: its property's name, and its text.

abbrev pub words_of : Option (List ℕ) → Result Content ℕ
words_of None = Err 607
words_of (Some text) = Ok (Words text)

abbrev pub integer_of : Result ℤ NumberFault → Result Content ℕ
integer_of (Ok n) = Ok (Number n)
integer_of (Err fault) = Err 603

-- a date with a time is longer than the date, of 10 bytes, and one moment
unfoldable pub moment_of : List ℕ → Option Interval → Result Content ℕ
moment_of field None = Err 607
moment_of field (Some interval) = if nat_lt 10 (length field) then Ok (Moment interval.first) else Err 607

unfoldable pub flag_of : List ℕ → Result Content ℕ
flag_of field =
    if bytes_eq field (codes "true") then Ok (Flag true)
    else (if bytes_eq field (codes "false") then Ok (Flag false)
    else Err 607)

unfoldable pub content_of : Kind → List ℕ → Result Content ℕ
content_of Text field = words_of (text_of field)
content_of Integer field = integer_of (number_of field)
content_of DateTime field = moment_of field (interval_of field)
content_of YesNo field = flag_of field

abbrev pub values_of : Option Item → List Value
values_of None = []
values_of (Some item) = item.values

abbrev pub value_of : ℕ → Content → Value
value_of property content = record { property = property; content = content }

-- the item with one value more
abbrev pub holding : Value → Item → Item
holding value item = record item { values = item.values ++ value ∷ [] }

abbrev pub held : Before → Value → Before
held before value = record before { item = option_map (holding value) before.item }

-- a bad value has 605 beside its code where it would be a second one
unfoldable pub refused_content : Bool → ℕ → ℕ → ℕ
refused_content multi earlier code = if not multi && nat_lt 0 earlier then min code 605 else code

-- the value behind so many earlier ones of its property
unfoldable pub with_content : Before → ℕ → Bool → ℕ → Result Content ℕ → Result Before ℕ
with_content before property multi earlier (Err code) = Err (refused_content multi earlier code)
with_content before property multi earlier (Ok content) =
    if not multi && nat_lt 0 earlier then Err 605
    else (if nat_le most_values earlier then Err 608
    else Ok (held before (value_of property content)))

unfoldable pub with_value_of : Before → ℕ → Option Property → List ℕ → Result Before ℕ
with_value_of before property None field = Err 604
with_value_of before property (Some row) field =
    with_content before property row.multi (count_of (values_of before.item) property) (content_of row.kind field)

unfoldable pub with_value : Before → Option ℕ → List ℕ → Result Before ℕ
with_value before None field = Err 604
with_value before (Some property) field = with_value_of before property (slice_get before.rows property) field

-- a line that may stand there, by the fields behind its first one
unfoldable pub with_known : Before → LineKind → List (List ℕ) → Result Before ℕ
with_known before Heading [] = Ok (record before { stage = InProperties })
with_known before PropertyRow (name ∷ (kind ∷ (flags ∷ []))) = with_property before name (kind_of kind) (flags_of flags)
with_known before CallerRow (name ∷ claims) = with_caller before name claims
with_known before ItemHead (number ∷ (rank ∷ (url ∷ []))) = with_item before (item_number number) (rank_of rank) (text_of url)
with_known before AllowList claims = with_allow before claims
with_known before DenyList claims = with_deny before claims
with_known before ValueRow (name ∷ (field ∷ [])) = with_value before (position (has_name name) before.rows) field
with_known before kind fields = Err 602

unfoldable pub with_fields : Before → List (List ℕ) → Result Before ℕ
with_fields before [] = Err 602
with_fields before (word ∷ fields) = if may_stand before.stage (line_kind word) then with_known before (line_kind word) fields else Err 602

-- a line with a character that isn't an XML character has 607 beside its other codes
abbrev pub at_most_607 : Result Before ℕ → Result Before ℕ
at_most_607 (Ok after) = Err 607
at_most_607 (Err code) = Err (min code 607)

abbrev pub with_text : Before → List ℕ → Result Before ℕ
with_text before line =
    if is_xml_text line then with_fields before (fields_of line) else at_most_607 (with_fields before (fields_of line))

-- what stands after the line, or its lowest code
unfoldable pub with_line : Before → List ℕ → Result Before ℕ
with_line before line = if is_utf8 line then with_text before line else Err 601
