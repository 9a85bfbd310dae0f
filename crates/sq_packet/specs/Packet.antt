-- The request that a packet is, or its first fault from left to right. A fault is refused where it is found, which its place may stand before:
-- so of two faults the one that stands first in a definition is found first, and those found at one byte stand by code and then by place.
use Rattle.std.specs.Prelude.{ℕ, zero, suc, ◌+◌, Bool, true, false, not, ◌&&◌, ◌||◌, ◌==◌, nat_le, if◌then◌else◌, List, [], ◌∷◌, ◌++◌, length, drop, chars, codes, Option, Some, None, is_some, Ok}
use Rattle.std.specs.Borrow.{Bor}
use Rattle.std.specs.List.{list_any}
use Rattle.std.specs.Str.{bytes_eq, is_utf8}
use Rattle.std.specs.Str.Lossy.{utf8_valid_len}
use Rattle.sq_base.specs.Outcome.{Outcome, refused, or_refused, ◌>>=◌, ◌>>◌}
use Rattle.sq_packet.specs.declared.mark.Mark.{Mark}
use Rattle.sq_packet.specs.declared.mark.Class.TheVariants as class
use Rattle.sq_packet.specs.declared.element.Element.{Element}
use Rattle.sq_packet.specs.declared.element.Element.TheVariants as element
use Rattle.sq_packet.specs.declared.element.Content.{Content}
use Rattle.sq_packet.specs.declared.element.Content.TheVariants.{Elements, Words}
use Rattle.sq_packet.specs.declared.request.Language.{Language}
use Rattle.sq_packet.specs.declared.request.Language.TheVariants as language
use Rattle.sq_packet.specs.declared.request.Direction.TheVariants.{Ascending, Descending}
use Rattle.sq_packet.specs.declared.request.Direction.{Direction}
use Rattle.sq_packet.specs.declared.request.RefinerSpec.{RefinerSpec}
use Rattle.sq_packet.specs.declared.request.SortSpec.{SortSpec}
use Rattle.sq_packet.specs.declared.request.Request.{Request}
use Rattle.sq_packet.specs.declared.draft.Draft.{Draft}
use Rattle.sq_packet.specs.declared.draft.Tag.{Tag}
use Rattle.sq_packet.specs.declared.draft.Attribute.{Attribute}
pub use Rattle.sq_packet.specs.Marks.{has_some}
use Rattle.sq_packet.specs.Marks.{marks_from, place, misfit, unless, begins, expected, skip_blanks, begins_blank, comment, declaration, name}
pub use Rattle.sq_packet.specs.Texts.{text_to, bytes_of, trimmed}
use Rattle.sq_packet.specs.Words.{is_word, whole_of, truth_of}
use Rattle.sq_packet.specs.Refiners.{refiner_of}
use Rattle.sq_packet.specs.Elements.{name_of, child_of, parent_of, content_of, repeats, is_seen, full_code}
use Rattle.sq_packet.specs.Limits.{most_hits, greatest_page_end}

-- ---- what is read

abbrev pub no_request : Request
no_request = record { language = language.Kql; text = []; start = 1; count = 10; properties = []; refiners = []; sorts = []; implicit_and = true }

abbrev pub nothing_read : Draft
nothing_read = record { request = no_request; seen = []; range = 0 }

abbrev pub has_range : Request → Bool
has_range r = nat_le 1 r.start && nat_le 1 r.count && nat_le r.count most_hits && nat_le (r.start + r.count) greatest_page_end

-- What a text says where its element ends at a place; a text that says nothing of its kind is refused where it begins, or at the end tag.
abbrev pub of_kind : {A : Type 0} → ℕ → ℕ → List Mark → (List ℕ → Option A) → Outcome A
of_kind code at text read = or_refused (read (bytes_of (trimmed text))) code (place at (trimmed text))

abbrev pub needs : Element → Draft → ℕ → Outcome Draft
needs child draft at = if is_seen child draft.seen then Ok draft else refused 505 at

abbrev pub with_start : Draft → ℕ → Draft
with_start draft n = record draft { request = record draft.request { start = n } }

abbrev pub with_count : Draft → ℕ → Draft
with_count draft n = record draft { request = record draft.request { count = n } }

abbrev pub with_refiner : Draft → RefinerSpec → Draft
with_refiner draft r = record draft { request = record draft.request { refiners = draft.request.refiners ++ r ∷ [] } }

abbrev pub with_text : Draft → List ℕ → Draft
with_text draft text = record draft { request = record draft.request { text = text } }

abbrev pub with_behavior : Draft → Bool → Draft
with_behavior draft b = record draft { request = record draft.request { implicit_and = b } }

abbrev pub range_ended : Draft → Outcome Draft
range_ended draft = if has_range draft.request then Ok draft else refused 508 draft.range

-- what an element adds where it ends: its text, and the place of its end tag
unfoldable pub ended : Element → List Mark → ℕ → Draft → Outcome Draft
ended element.QueryPacket text at draft = needs element.Query draft at
ended element.Query text at draft = needs element.Context draft at
ended element.Context text at draft = needs element.QueryText draft at
ended element.Range text at draft = range_ended draft
ended element.QueryText text at draft = Ok (with_text draft (bytes_of text))
ended element.StartAt text at draft = do
  n ← of_kind 506 at text whole_of
  Ok (with_start draft n)
ended element.Count text at draft = do
  n ← of_kind 506 at text whole_of
  Ok (with_count draft n)
ended element.Refiner text at draft = do
  r ← of_kind 510 at text refiner_of
  Ok (with_refiner draft r)
ended element.ImplicitAndBehavior text at draft = do
  b ← of_kind 512 at text truth_of
  Ok (with_behavior draft b)
ended other text at draft = Ok draft

-- ---- attributes

abbrev pub no_attributes : Tag
no_attributes = record { is_in_namespace = false; language = language.Kql; name = None; direction = Ascending }

abbrev pub with_language : List ℕ → ℕ → Tag → Outcome Tag
with_language value at tag =
    if bytes_eq value (codes "STRING") then Ok (record tag { language = language.Kql })
    else (if bytes_eq value (codes "FQL") then Ok (record tag { language = language.Fql })
    else refused 507 at)

abbrev pub with_direction : List ℕ → ℕ → Tag → Outcome Tag
with_direction value at tag =
    if is_word (codes "ascending") value then Ok (record tag { direction = Ascending })
    else (if is_word (codes "descending") value then Ok (record tag { direction = Descending })
    else refused 514 at)

abbrev pub with_name : List ℕ → Tag → Tag
with_name value tag = record tag { name = Some value }

abbrev pub with_namespace : List ℕ → Tag → Tag
with_namespace value tag = record tag { is_in_namespace = bytes_eq value (codes "urn:Microsoft.Search.Query") }

-- an attribute of a sort: its name, or its direction
abbrev pub sort_attribute : Attribute → Tag → Outcome Tag
sort_attribute a tag =
    if bytes_eq a.name (codes "name") then Ok (with_name a.value tag)
    else (if bytes_eq a.name (codes "direction") then with_direction a.value a.at tag else Ok tag)

-- what an attribute says, at its closing quote; most say nothing
unfoldable pub with_attribute : Element → Attribute → Tag → Outcome Tag
with_attribute element.QueryPacket a tag =
    if bytes_eq a.name (codes "xmlns") then Ok (with_namespace a.value tag) else Ok tag
with_attribute element.QueryText a tag = if bytes_eq a.name (codes "type") then with_language a.value a.at tag else Ok tag
with_attribute element.Property a tag = if bytes_eq a.name (codes "name") then Ok (with_name a.value tag) else Ok tag
with_attribute element.SortByProperty a tag = sort_attribute a tag
with_attribute other a tag = Ok tag

-- the quote at the front
abbrev pub quote : ℕ → List Mark → Outcome (ℕ × List Mark)
quote end [] = misfit end []
quote end (m ∷ ms) = if m.c == 34 || m.c == 39 then Ok (m.c, ms) else misfit end (m ∷ ms)

abbrev pub attribute : List ℕ → List ℕ → ℕ → Attribute
attribute name value at = record { name = name; value = value; at = at }

-- the attribute at the front, whose name none of these is
unfoldable pub attribute_at : ℕ → List (List ℕ) → List Mark → Outcome (Attribute × List Mark)
attribute_at end names ms = do
  n ← name class.AttributeName end ms
  unless (list_any (bytes_eq n.0) names) 502 (place end ms)
  value ← expected end (codes "=") (skip_blanks n.1)
  q ← quote end (skip_blanks value)
  text ← text_to end q.0 q.1
  Ok (attribute n.0 (bytes_of text.0) (place end q.1), drop 1 text.1)

-- the marks begin with what ends a tag
abbrev pub ends_tag : List Mark → Bool
ends_tag ms = begins (codes "/") ms || begins (codes ">") ms

-- the attribute at the front behind white space, or nothing where the tag ends
unfoldable pub next_attribute : ℕ → List (List ℕ) → List Mark → Outcome (Option (Attribute × List Mark))
next_attribute end names ms =
    if ends_tag (skip_blanks ms) then Ok None
    else (if begins_blank ms then (attribute_at end names (skip_blanks ms) >>= (λ a. Ok (Some a))) else misfit end ms)

-- what a call that takes an attribute or stands at the end of a tag answers
abbrev pub attribute_view : Option (Attribute × Bor (List Mark)) → Option (Attribute × List Mark)
attribute_view None = None
attribute_view (Some (a, rest)) = Some (a, rest.now)

abbrev pub attributes_by : (List (List ℕ) → Tag → List Mark → Outcome (Tag × List Mark)) → Element → List (List ℕ) → Tag → List Mark
    → Option (Attribute × List Mark) → Outcome (Tag × List Mark)
attributes_by next e names tag ms None = Ok (tag, skip_blanks ms)
attributes_by next e names tag ms (Some a) = do
  after ← with_attribute e a.0 tag
  next (names ++ a.0.name ∷ []) after a.1

-- The attributes of a tag, up to its `/` or `>`. The number bounds the turns.
unfoldable pub attributes : ℕ → ℕ → Element → List (List ℕ) → Tag → List Mark → Outcome (Tag × List Mark)
attributes zero end e names tag ms = misfit end ms
attributes (suc turns) end e names tag ms = next_attribute end names ms >>= attributes_by (attributes turns end e) e names tag ms

-- ---- tags

abbrev pub named : Option (List ℕ) → ℕ → Outcome (List ℕ)
named value at = or_refused value 502 at

abbrev pub sort_spec : List ℕ → Direction → SortSpec
sort_spec name direction = record { name = name; direction = direction }

abbrev pub with_property : Draft → List ℕ → Draft
with_property draft n = record draft { request = record draft.request { properties = draft.request.properties ++ n ∷ [] } }

abbrev pub with_sort : Draft → SortSpec → Draft
with_sort draft s = record draft { request = record draft.request { sorts = draft.request.sorts ++ s ∷ [] } }

abbrev pub with_query_language : Draft → Language → Draft
with_query_language draft l = record draft { request = record draft.request { language = l } }

-- what a start tag adds, at its `>`; its `<` stands at `from`
unfoldable pub begun : Element → Tag → ℕ → ℕ → Draft → Outcome Draft
begun element.QueryPacket tag from at draft = if tag.is_in_namespace then Ok draft else refused 503 from
begun element.QueryText tag from at draft = Ok (with_query_language draft tag.language)
begun element.Property tag from at draft = do
  n ← named tag.name at
  Ok (with_property draft n)
begun element.SortByProperty tag from at draft = do
  n ← named tag.name at
  Ok (with_sort draft (sort_spec n tag.direction))
begun other tag from at draft = Ok draft

-- a reading: the marks that are left, the element that is open, and what has been read
pub record State : Type 0 where
  pub rest : List Mark
  pub inside : Option Element
  pub draft : Draft

abbrev pub state : List Mark → Option Element → Draft → State
state rest inside draft = record { rest = rest; inside = inside; draft = draft }

abbrev pub range_at : Element → ℕ → ℕ → ℕ
range_at element.Range from at = from
range_at other from at = at

-- the draft before the attributes of a tag
abbrev pub at_tag : Element → ℕ → Draft → Draft
at_tag e from draft = record draft { seen = draft.seen ++ e ∷ []; range = range_at e from draft.range }

-- behind the attributes of a tag: `/>` ends the element at once
abbrev pub tag_end : ℕ → Element → ℕ → Option Element → Tag → Draft → List Mark → Outcome State
tag_end end e from inside tag draft ms =
    if begins (codes "/") ms then (do
      done ← ended e [] from draft
      rest ← expected end (codes ">") (drop 1 ms)
      after ← begun e tag from (place end (drop 1 ms)) done
      Ok (state rest inside after))
    else (do
      after ← begun e tag from (place end ms) draft
      Ok (state (drop 1 ms) (Some e) after))

-- behind a name: white space, `/` or `>`
abbrev pub name_ends : ℕ → List Mark → Outcome (Unit {0})
name_ends end ms = if begins_blank ms || ends_tag ms then Ok tt else misfit end ms

abbrev pub unless_code : Option ℕ → ℕ → Outcome (Unit {0})
unless_code None at = Ok tt
unless_code (Some code) at = refused code at

abbrev pub room_for : Option Element → Draft → ℕ → Outcome (Unit {0})
room_for child draft from = unless_code (full_code child draft) from

abbrev pub once : Element → Draft → ℕ → Outcome (Unit {0})
once e draft from = unless (not (repeats e) && is_seen e draft.seen) 504 from

-- a start tag, whose `<` comes first
unfoldable pub start_tag : ℕ → Option Element → Draft → List Mark → Outcome State
start_tag end inside draft ms = do
  tag ← expected end (codes "<") ms
  n ← name class.Name end tag
  room_for (child_of inside n.0) draft (place end ms)
  name_ends end n.1
  e ← or_refused (child_of inside n.0) 503 (place end ms)
  once e draft (place end ms)
  a ← attributes (suc (length n.1)) end e [] no_attributes n.1
  tag_end end e (place end ms) inside a.0 (at_tag e (place end ms) draft) a.1

-- an end tag, whose `<` comes first, behind the text of its element
unfoldable pub end_tag : ℕ → Element → List Mark → Draft → List Mark → Outcome State
end_tag end e text draft ms = do
  tag ← expected end (codes "</") ms
  done ← ended e text (place end ms) draft
  n ← name class.Name end tag
  unless (not (bytes_eq n.0 (name_of e))) 502 (place end ms)
  rest ← expected end (codes ">") (skip_blanks n.1)
  Ok (state rest (parent_of e) done)

-- ---- the packet

abbrev pub open_comment : ℕ → Option Element → Draft → List Mark → Outcome State
open_comment end inside draft ms = do
  begun ← expected end (codes "<!--") ms
  rest ← comment end begun
  Ok (state rest inside draft)

-- outside QueryPacket: a comment, or its start tag where it hasn't stood
abbrev pub outer_turn : ℕ → Draft → List Mark → Outcome State
outer_turn end draft ms = if begins (codes "<!") ms || has_some draft.seen then open_comment end None draft ms else start_tag end None draft ms

-- where elements may stand: a comment, an end tag or a start tag
abbrev pub element_turn : ℕ → Element → Draft → List Mark → Outcome State
element_turn end e draft ms =
    if begins (codes "<!") ms then open_comment end (Some e) draft ms
    else (if begins (codes "</") ms then end_tag end e [] draft ms
    else start_tag end (Some e) draft ms)

abbrev pub text_turn : ℕ → Element → Draft → List Mark → Outcome State
text_turn end e draft ms = do
  text ← text_to end 60 ms
  end_tag end e text.0 draft text.1

abbrev pub turn_by : Content → ℕ → Element → Draft → List Mark → Outcome State
turn_by Words end e draft ms = text_turn end e draft ms
turn_by Elements end e draft ms = element_turn end e draft (skip_blanks ms)

abbrev pub turn_in : Option Element → ℕ → Draft → List Mark → Outcome State
turn_in None end draft ms = outer_turn end draft (skip_blanks ms)
turn_in (Some e) end draft ms = turn_by (content_of e) end e draft ms

-- one comment, start tag, or end tag with its text
unfoldable pub turn : ℕ → State → Outcome State
turn end s = turn_in s.inside end s.draft s.rest

-- QueryPacket has stood and ended, and only white space is left
abbrev pub is_done : State → Bool
is_done s = not (is_some s.inside) && has_some s.draft.seen && not (has_some (skip_blanks s.rest))

-- The number bounds the turns: each takes a mark.
unfoldable pub read_on : ℕ → ℕ → State → Outcome Draft
read_on zero end s = misfit end s.rest
read_on (suc turns) end s = if is_done s then Ok s.draft else (turn end s >>= read_on turns end)

-- behind a byte order mark
abbrev pub behind_order_mark : List Mark → List Mark
behind_order_mark [] = []
behind_order_mark (m ∷ ms) = if m.c == 65_279 then ms else m ∷ ms

-- behind a declaration
abbrev pub behind_declaration : ℕ → List Mark → Outcome (List Mark)
behind_declaration end ms = if begins (codes "<?") ms then (expected end (codes "<?xml") ms >>= declaration end) else Ok ms

abbrev pub packet_from : ℕ → List Mark → Outcome Request
packet_from end ms = do
  rest ← behind_declaration end (behind_order_mark ms)
  draft ← read_on (suc (length ms)) end (state rest None nothing_read)
  Ok draft.request

-- the request that the bytes are, or their first fault
unfoldable pub packet_of : List ℕ → Outcome Request
packet_of bytes = if is_utf8 bytes then packet_from (length bytes) (marks_from 0 (chars bytes)) else refused 501 (utf8_valid_len bytes)
