-- Each request that is read may be written.
use Rattle.std.proofs.Common.{◌≡◌, ℕ, zero, suc, ◌+◌, ◌<◌, ◌≤◌, nat_le, Bool, true, false, not, ◌&&◌, ◌||◌, if◌then◌else◌, List, [], ◌∷◌, ◌++◌, length, drop, chars, Option, Some, None, Ok, All, refl, sym, subst, arith, length-append}
use Rattle.std.proofs.lemmas.Bool.Decides.{nat_tests}
use Rattle.std.proofs.lemmas.List.Elements.{All-nil, All-push}
use Rattle.std.specs.Prelude.{codes}
use Rattle.std.specs.List.{find, list_any}
use Rattle.std.specs.Str.{bytes_eq, is_utf8}
use Rattle.sq_base.specs.Outcome.{Outcome, or_refused}
use Rattle.sq_packet.specs.declared.mark.Mark.{Mark}
use Rattle.sq_packet.specs.declared.mark.Class.TheVariants as class
use Rattle.sq_packet.specs.declared.element.Element.{Element}
use Rattle.sq_packet.specs.declared.element.Element.TheVariants as element
use Rattle.sq_packet.specs.declared.element.Content.{Content}
use Rattle.sq_packet.specs.declared.element.Content.TheVariants.{Elements, Words}
use Rattle.sq_packet.specs.declared.request.RefinerSpec.{RefinerSpec}
use Rattle.sq_packet.specs.declared.request.Request.{Request}
use Rattle.sq_packet.specs.declared.draft.Draft.{Draft}
use Rattle.sq_packet.specs.declared.draft.Tag.{Tag}
use Rattle.sq_packet.specs.declared.draft.Attribute.{Attribute}
use Rattle.sq_packet.specs.Asked.{HasBuckets}
use Rattle.sq_packet.specs.Marks.{marks_from, place, unless, begins, expected, skip_blanks, begins_blank, comment, name, has_some}
use Rattle.sq_packet.specs.Texts.{text_to, bytes_of, trimmed}
use Rattle.sq_packet.specs.Words.{is_word, whole_of, truth_of}
use Rattle.sq_packet.specs.Refiners.{refiner_of}
use Rattle.sq_packet.specs.Elements.{name_of, children_of, is_named, child_of, parent_of, content_of, is_seen, full_code}
use Rattle.sq_packet.specs.Packet.{has_range, of_kind, with_start, with_count, with_refiner, with_text, with_behavior, with_query_language, sort_spec, ended, with_attribute, with_language, with_direction, attribute_at, ends_tag, quote, next_attribute, attributes_by, attributes, no_attributes, named, begun, State, state, at_tag, tag_end, name_ends, unless_code, room_for, once, start_tag, end_tag, open_comment, turn_by, turn_in, turn, is_done, read_on, behind_order_mark, behind_declaration, packet_from, packet_of, nothing_read}
use Rattle.sq_packet_writer.specs.Writable.{IsXmlText, IsWritableRefiner, IsWritableSort, IsWritable}
use Rattle.sq_packet_writer.proofs.GivenLemmas.{Yields, yields_on, yields_any, holds_if, or_yields, Holds, AreXml, TextXml, text_xml, trimmed_xml, letters_of, letters_xml, bytes_xml}
use Rattle.sq_packet_writer.proofs.GivenRefinerLemmas.{IsRefiner, refiner_good}

-- ---- what stands of a draft

-- inside a range its numbers may be any
abbrev IsRanged : Option Element → Bool → Type 0
IsRanged (Some element.Range) b = Unit {0}
IsRanged (Some element.StartAt) b = Unit {0}
IsRanged (Some element.Count) b = Unit {0}
IsRanged inside b = b ≡ true

-- inside a refiner there is room for it
abbrev IsRoomy : Option Element → ℕ → Type 0
IsRoomy (Some element.Refiner) n = n < 16
IsRoomy inside n = n ≤ 16

record Good (inside : Option Element) (r : Request) : Type 0 where
  text : IsXmlText r.text
  properties : All IsXmlText r.properties
  refiners : All IsWritableRefiner r.refiners
  sorts : All IsWritableSort r.sorts
  buckets : All HasBuckets r.refiners
  shown : length r.properties ≤ 64
  keys : length r.sorts ≤ 4
  ranged : IsRanged inside (has_range r)
  roomy : IsRoomy inside (length r.refiners)

abbrev Stands : Option Element → Draft → Type 0
Stands inside d = Good inside d.request

abbrev Goes : State → Type 0
Goes s = Stands s.inside s.draft

moved : (a b : Option Element) (r : Request) → (IsRanged a (has_range r) → IsRanged b (has_range r)) → (IsRoomy a (length r.refiners) → IsRoomy b (length r.refiners))
    → Good a r → Good b r
moved a b r ranged roomy h = record {
  text = h.text;
  properties = h.properties;
  refiners = h.refiners;
  sorts = h.sorts;
  buckets = h.buckets;
  shown = h.shown;
  keys = h.keys;
  ranged = ranged h.ranged;
  roomy = roomy h.roomy;
}

-- another text, language or way of joining
worded : (a : Option Element) (r s : Request) → IsXmlText s.text → s.properties ≡ r.properties → s.refiners ≡ r.refiners → s.sorts ≡ r.sorts → has_range s ≡ has_range r
    → Good a r → Good a s
worded a r s text properties refiners sorts ranged h = record {
  text = text;
  properties = rw properties h.properties;
  refiners = rw refiners h.refiners;
  sorts = rw sorts h.sorts;
  buckets = rw refiners h.buckets;
  shown = rw properties h.shown;
  keys = rw sorts h.keys;
  ranged = rw ranged h.ranged;
  roomy = rw refiners h.roomy;
}

-- another page, of which nothing is known before its range ends
paged : (a : Option Element) (r s : Request) → s.text ≡ r.text → s.properties ≡ r.properties → s.refiners ≡ r.refiners → s.sorts ≡ r.sorts → length r.refiners ≤ 16
    → Good a r → Good (Some element.Range) s
paged a r s text properties refiners sorts few h = record {
  text = rw text h.text;
  properties = rw properties h.properties;
  refiners = rw refiners h.refiners;
  sorts = rw sorts h.sorts;
  buckets = rw refiners h.buckets;
  shown = rw properties h.shown;
  keys = rw sorts h.keys;
  ranged = tt;
  roomy = rw refiners few;
}

refiner_added : (d : Draft) (r : RefinerSpec) → IsRefiner r → Stands (Some element.Refiner) d → Stands (Some element.Refiners) (with_refiner d r)
refiner_added d r good h = record {
  text = h.text;
  properties = h.properties;
  refiners = All-push IsWritableRefiner d.request.refiners r h.refiners good.0;
  sorts = h.sorts;
  buckets = All-push HasBuckets d.request.refiners r h.buckets good.1;
  shown = h.shown;
  keys = h.keys;
  ranged = h.ranged;
  roomy = omega (arith, h.roomy, length-append d.request.refiners (r ∷ []));
}

-- ---- ends of elements

-- there is room for what a start tag adds
abbrev HasRoom : Element → Request → Type 0
HasRoom element.Property r = length r.properties < 64
HasRoom element.SortByProperty r = length r.sorts < 4
HasRoom other r = Unit {0}

abbrev Ended : Element → Draft → Draft → Type 0
Ended e before d = Stands (parent_of e) d × (HasRoom e before.request → HasRoom e d.request)

refiner_read : (text : List Mark) (r : RefinerSpec) → AreXml text → refiner_of (bytes_of (trimmed text)) ≡ Some r → IsRefiner r
refiner_read text r xml is =
    subst (Holds IsRefiner) is (refiner_good (letters_of (trimmed text)) (letters_xml (trimmed text) (trimmed_xml text xml)))

ended_good : (e : Element) (text : List Mark) (at : ℕ) (d : Draft) → AreXml text → Stands (Some e) d → Yields (Ended e d) (ended e text at d)
unfolding ended
ended_good element.QueryPacket text at d xml h =
    holds_if (Yields (Ended element.QueryPacket d)) (is_seen element.Query d.seen) _ _ (λ _. (moved (Some element.QueryPacket) None d.request (λ x. x) (λ x. x) h, λ x. x)) (λ _. tt)
ended_good element.Query text at d xml h =
    holds_if (Yields (Ended element.Query d)) (is_seen element.Context d.seen) _ _
    (λ _. (moved (Some element.Query) (Some element.QueryPacket) d.request (λ x. x) (λ x. x) h, λ x. x)) (λ _. tt)
ended_good element.Context text at d xml h =
    holds_if (Yields (Ended element.Context d)) (is_seen element.QueryText d.seen) _ _
    (λ _. (moved (Some element.Context) (Some element.Query) d.request (λ x. x) (λ x. x) h, λ x. x)) (λ _. tt)
ended_good element.Range text at d xml h =
    holds_if (Yields (Ended element.Range d)) (has_range d.request) _ _
    (λ yes. (moved (Some element.Range) (Some element.Query) d.request (λ _. yes) (λ x. x) h, λ x. x)) (λ _. tt)
ended_good element.QueryText text at d xml h = (
  worded (Some element.Context) d.request (with_text d (bytes_of text)).request (bytes_xml text xml) refl refl refl refl
      (moved (Some element.QueryText) (Some element.Context) d.request (λ x. x) (λ x. x) h),
  λ x. x,
)
ended_good element.StartAt text at d xml h =
    yields_any (Ended element.StartAt d) (of_kind 506 at text whole_of) _
    (λ n. (paged (Some element.StartAt) d.request (with_start d n).request refl refl refl refl h.roomy h, λ x. x))
ended_good element.Count text at d xml h =
    yields_any (Ended element.Count d) (of_kind 506 at text whole_of) _
    (λ n. (paged (Some element.Count) d.request (with_count d n).request refl refl refl refl h.roomy h, λ x. x))
ended_good element.Refiner text at d xml h =
    yields_on IsRefiner (Ended element.Refiner d) (of_kind 510 at text refiner_of) _
    (or_yields IsRefiner (refiner_of (bytes_of (trimmed text))) 510 (place at (trimmed text)) (λ r is. refiner_read text r xml is))
    (λ r good. (refiner_added d r good h, λ x. x))
ended_good element.ImplicitAndBehavior text at d xml h =
    yields_any (Ended element.ImplicitAndBehavior d) (of_kind 512 at text truth_of) _
    (λ b. (
      worded (Some element.Query) d.request (with_behavior d b).request h.text refl refl refl refl
          (moved (Some element.ImplicitAndBehavior) (Some element.Query) d.request (λ x. x) (λ x. x) h),
      λ x. x,
    ))
ended_good other text at d xml h = (moved (Some other) (parent_of other) d.request (λ x. x) (λ x. x) h, λ x. x)

-- ---- attributes

abbrev TagGood : Tag → Type 0
TagGood t = Holds IsXmlText t.name

abbrev Said : Attribute → Type 0
Said a = IsXmlText a.value

language_good : (value : List ℕ) (at : ℕ) (tag : Tag) → TagGood tag → Yields TagGood (with_language value at tag)
language_good value at tag h =
    holds_if (Yields TagGood) (bytes_eq value (codes "STRING")) _ _ (λ _. h)
    (λ _. holds_if (Yields TagGood) (bytes_eq value (codes "FQL")) _ _ (λ _. h) (λ _. tt))

direction_good : (value : List ℕ) (at : ℕ) (tag : Tag) → TagGood tag → Yields TagGood (with_direction value at tag)
direction_good value at tag h =
    holds_if (Yields TagGood) (is_word (codes "ascending") value) _ _ (λ _. h)
    (λ _. holds_if (Yields TagGood) (is_word (codes "descending") value) _ _ (λ _. h) (λ _. tt))

with_good : (e : Element) (a : Attribute) (tag : Tag) → Said a → TagGood tag → Yields TagGood (with_attribute e a tag)
unfolding with_attribute
with_good element.QueryPacket a tag said h = holds_if (Yields TagGood) (bytes_eq a.name (codes "xmlns")) _ _ (λ _. h) (λ _. h)
with_good element.QueryText a tag said h =
    holds_if (Yields TagGood) (bytes_eq a.name (codes "type")) _ _ (λ _. language_good a.value a.at tag h) (λ _. h)
with_good element.Property a tag said h = holds_if (Yields TagGood) (bytes_eq a.name (codes "name")) _ _ (λ _. said) (λ _. h)
with_good element.SortByProperty a tag said h =
    holds_if (Yields TagGood) (bytes_eq a.name (codes "name")) _ _ (λ _. said)
    (λ _. holds_if (Yields TagGood) (bytes_eq a.name (codes "direction")) _ _ (λ _. direction_good a.value a.at tag h) (λ _. h))
with_good other a tag said h = h

abbrev SaidFirst : Attribute × List Mark → Type 0
SaidFirst r = Said r.0

abbrev TagFirst : Tag × List Mark → Type 0
TagFirst r = TagGood r.0

attribute_good : (end : ℕ) (names : List (List ℕ)) (ms : List Mark) → Yields SaidFirst (attribute_at end names ms)
unfolding attribute_at
attribute_good end names ms =
    yields_any SaidFirst (name class.AttributeName end ms) _
    (λ n. yields_any SaidFirst (unless (list_any (bytes_eq n.0) names) 502 (place end ms)) _
    (λ _. yields_any SaidFirst (expected end (codes "=") (skip_blanks n.1)) _
    (λ value. yields_any SaidFirst (quote end (skip_blanks value)) _
    (λ q. yields_on TextXml SaidFirst (text_to end q.0 q.1) _ (text_xml end q.0 q.1) (λ text xml. bytes_xml text.0 xml)))))

next_good : (end : ℕ) (names : List (List ℕ)) (ms : List Mark) → Yields (Holds SaidFirst) (next_attribute end names ms)
unfolding next_attribute
next_good end names ms =
    holds_if (Yields (Holds SaidFirst)) (ends_tag (skip_blanks ms)) _ _ (λ _. tt)
    (λ _. holds_if (Yields (Holds SaidFirst)) (begins_blank ms) _ _
    (λ _. yields_on SaidFirst (Holds SaidFirst) (attribute_at end names (skip_blanks ms)) _ (attribute_good end names (skip_blanks ms)) (λ x said. said)) (λ _. tt))

attributes_by_good : (next : List (List ℕ) → Tag → List Mark → Outcome (Tag × List Mark)) (e : Element) (names : List (List ℕ)) (tag : Tag) (ms : List Mark)
    (o : Option (Attribute × List Mark)) → Holds SaidFirst o → TagGood tag
    → ((more : List (List ℕ)) (after : Tag) (rest : List Mark) → TagGood after → Yields TagFirst (next more after rest)) → Yields TagFirst (attributes_by next e names tag ms o)
attributes_by_good next e names tag ms None said h go = h
attributes_by_good next e names tag ms (Some a) said h go =
    yields_on TagGood TagFirst (with_attribute e a.0 tag) _ (with_good e a.0 tag said h) (λ after good. go (names ++ a.0.name ∷ []) after a.1 good)

attributes_good : (turns end : ℕ) (e : Element) (names : List (List ℕ)) (tag : Tag) (ms : List Mark) → TagGood tag → Yields TagFirst (attributes turns end e names tag ms)
unfolding attributes
attributes_good zero end e names tag ms h = tt
attributes_good (suc turns) end e names tag ms h =
    yields_on (Holds SaidFirst) TagFirst (next_attribute end names ms) _ (next_good end names ms)
    (λ o said. attributes_by_good (attributes turns end e) e names tag ms o said h (λ more after rest good. attributes_good turns end e more after rest good))

-- ---- tags

begun_good : (e : Element) (tag : Tag) (from at : ℕ) (inside : Option Element) (d : Draft) → TagGood tag → Stands inside d → HasRoom e d.request
    → Yields (Stands inside) (begun e tag from at d)
unfolding begun
begun_good element.QueryPacket tag from at inside d good h room = holds_if (Yields (Stands inside)) tag.is_in_namespace _ _ (λ _. h) (λ _. tt)
begun_good element.QueryText tag from at inside d good h room =
    worded inside d.request (with_query_language d tag.language).request h.text refl refl refl refl h
begun_good element.Property tag from at inside d good h room =
    yields_on IsXmlText (Stands inside) (named tag.name at) _ (or_yields IsXmlText tag.name 502 at (λ n is. subst (Holds IsXmlText) is good))
    (λ n xml. record {
      text = h.text;
      properties = All-push IsXmlText d.request.properties n h.properties xml;
      refiners = h.refiners;
      sorts = h.sorts;
      buckets = h.buckets;
      shown = omega (arith, room, length-append d.request.properties (n ∷ []));
      keys = h.keys;
      ranged = h.ranged;
      roomy = h.roomy;
    })
begun_good element.SortByProperty tag from at inside d good h room =
    yields_on IsXmlText (Stands inside) (named tag.name at) _ (or_yields IsXmlText tag.name 502 at (λ n is. subst (Holds IsXmlText) is good))
    (λ n xml. record {
      text = h.text;
      properties = h.properties;
      refiners = h.refiners;
      sorts = All-push IsWritableSort d.request.sorts (sort_spec n tag.direction) h.sorts xml;
      buckets = h.buckets;
      shown = h.shown;
      keys = omega (arith, room, length-append d.request.sorts (sort_spec n tag.direction ∷ []));
      ranged = h.ranged;
      roomy = h.roomy;
    })
begun_good other tag from at inside d good h room = h

abbrev Each : (Element → Type 0) → List Element → Type 0
Each P [] = Unit {0}
Each P (x ∷ xs) = P x × Each P xs

some_is : (x e : Element) → Some x ≡ Some e → x ≡ e
some_is x e h = cc

find_each : (P : Element → Type 0) (test : Element → Bool) (xs : List Element) (e : Element) → Each P xs → find test xs ≡ Some e → P e
find_each P test [] e each is = absurd cc
find_each P test (x ∷ xs) e each is =
    holds_if (λ (o : Option Element). o ≡ Some e → P e) (test x) _ _ (λ _ found. subst P (some_is x e found) each.0) (λ _ found. find_each P test xs e each.1 found) is

children_parents : (i : Option Element) → Each (λ e. parent_of e ≡ i) (children_of i)
children_parents None = (refl, tt)
children_parents (Some element.QueryPacket) = (refl, tt)
children_parents (Some element.Query) = (refl, (refl, (refl, (refl, (refl, (refl, (refl, (refl, (refl, (refl, (refl, (refl, (refl, (refl, (refl, tt)))))))))))))))
children_parents (Some element.SupportedFormats) = (refl, tt)
children_parents (Some element.Context) = (refl, tt)
children_parents (Some element.Range) = (refl, (refl, tt))
children_parents (Some element.Properties) = (refl, tt)
children_parents (Some element.Refiners) = (refl, tt)
children_parents (Some element.SortByProperties) = (refl, tt)
children_parents (Some other) = tt

child_parent : (i : Option Element) (name : List ℕ) (e : Element) → child_of i name ≡ Some e → parent_of e ≡ i
child_parent i name e is = find_each (λ (x : Element). parent_of x ≡ i) (is_named name) (children_of i) e (children_parents i) is

ranged_in : (e : Element) (b : Bool) → IsRanged (parent_of e) b → IsRanged (Some e) b
ranged_in element.Range b h = tt
ranged_in element.StartAt b h = tt
ranged_in element.Count b h = tt
ranged_in other b h = h

free_if : (b : Bool) (code : ℕ) → (if b then Some code else None) ≡ None → b ≡ false
free_if true code h = absurd cc
free_if false code h = refl

free_of : (most n : ℕ) (code : ℕ) → (if nat_le most n then Some code else None) ≡ None → n < most
free_of most n code h = let below = free_if (nat_le most n) code h in grind (arith, nat_tests, below)

roomy_in : (e : Element) (d : Draft) → full_code (Some e) d ≡ None → IsRoomy (parent_of e) (length d.request.refiners) → IsRoomy (Some e) (length d.request.refiners)
roomy_in element.Refiner d free h = free_of 16 (length d.request.refiners) 510 free
roomy_in other d free h = h

room_of : (e : Element) (d : Draft) → full_code (Some e) d ≡ None → HasRoom e d.request
room_of element.Property d free = free_of 64 (length d.request.properties) 513 free
room_of element.SortByProperty d free = free_of 4 (length d.request.sorts) 515 free
room_of other d free = tt

-- inside an element that has just begun
entered : (e : Element) (from : ℕ) (d : Draft) → full_code (Some e) d ≡ None → Stands (parent_of e) d → Stands (Some e) (at_tag e from d)
entered e from d free h = moved (parent_of e) (Some e) d.request (ranged_in e (has_range d.request)) (roomy_in e d free) h

tag_end_good : (end : ℕ) (e : Element) (from : ℕ) (tag : Tag) (d : Draft) (ms : List Mark) → TagGood tag → Stands (Some e) d → HasRoom e d.request
    → Yields Goes (tag_end end e from (parent_of e) tag d ms)
tag_end_good end e from tag d ms good h room =
    holds_if (Yields Goes) (begins (codes "/") ms) _ _
    (λ _. yields_on (Ended e d) Goes (ended e [] from d) _ (ended_good e [] from d tt h)
    (λ done fine. yields_any Goes (expected end (codes ">") (drop 1 ms)) _
    (λ rest. yields_on (Stands (parent_of e)) Goes (begun e tag from (place end (drop 1 ms)) done) _
    (begun_good e tag from (place end (drop 1 ms)) (parent_of e) done good fine.0 (fine.1 room)) (λ after stands. stands))))
    (λ _. yields_on (Stands (Some e)) Goes (begun e tag from (place end ms) d) _ (begun_good e tag from (place end ms) (Some e) d good h room) (λ after stands. stands))

code_none : (o : Option ℕ) (at : ℕ) → Yields (λ (u : Unit {0}). o ≡ None) (unless_code o at)
code_none None at = refl
code_none (Some code) at = tt

abbrev Known : Option Element → Draft → Element → Type 0
Known i d e = (parent_of e ≡ i) × (full_code (Some e) d ≡ None)

start_good : (end : ℕ) (i : Option Element) (d : Draft) (ms : List Mark) → Stands i d → Yields Goes (start_tag end i d ms)
unfolding start_tag
start_good end i d ms h =
    yields_any Goes (expected end (codes "<") ms) _
    (λ tag. yields_any Goes (name class.Name end tag) _
    (λ n. yields_on (λ (u : Unit {0}). full_code (child_of i n.0) d ≡ None) Goes (room_for (child_of i n.0) d (place end ms)) _
    (code_none (full_code (child_of i n.0) d) (place end ms))
    (λ _ free. yields_any Goes (name_ends end n.1) _
    (λ _. yields_on (Known i d) Goes (or_refused (child_of i n.0) 503 (place end ms)) _
    (or_yields (Known i d) (child_of i n.0) 503 (place end ms) (λ e is. (child_parent i n.0 e is, subst (λ (o : Option Element). full_code o d ≡ None) is free)))
    (λ e known. yields_any Goes (once e d (place end ms)) _
    (λ _. yields_on TagFirst Goes (attributes (suc (length n.1)) end e [] no_attributes n.1) _ (attributes_good (suc (length n.1)) end e [] no_attributes n.1 tt)
    (λ a good. subst (λ (o : Option Element). Yields Goes (tag_end end e (place end ms) o a.0 (at_tag e (place end ms) d) a.1)) known.0
    (tag_end_good end e (place end ms) a.0 (at_tag e (place end ms) d) a.1 good
    (entered e (place end ms) d known.1 (subst (λ (o : Option Element). Stands o d) (sym known.0) h)) (room_of e d known.1)))))))))

end_good : (end : ℕ) (e : Element) (text : List Mark) (d : Draft) (ms : List Mark) → AreXml text → Stands (Some e) d → Yields Goes (end_tag end e text d ms)
unfolding end_tag
end_good end e text d ms xml h =
    yields_any Goes (expected end (codes "</") ms) _
    (λ tag. yields_on (Ended e d) Goes (ended e text (place end ms) d) _ (ended_good e text (place end ms) d xml h)
    (λ done fine. yields_any Goes (name class.Name end tag) _
    (λ n. yields_any Goes (unless (not (bytes_eq n.0 (name_of e))) 502 (place end ms)) _
    (λ _. yields_any Goes (expected end (codes ">") (skip_blanks n.1)) _ (λ rest. fine.0)))))

-- ---- the packet

comment_good : (end : ℕ) (inside : Option Element) (d : Draft) (ms : List Mark) → Stands inside d → Yields Goes (open_comment end inside d ms)
comment_good end inside d ms h =
    yields_any Goes (expected end (codes "<!--") ms) _ (λ begun. yields_any Goes (comment end begun) _ (λ rest. h))

by_good : (end : ℕ) (c : Content) (e : Element) (d : Draft) (ms : List Mark) → Stands (Some e) d → Yields Goes (turn_by c end e d ms)
by_good end Words e d ms h = yields_on TextXml Goes (text_to end 60 ms) _ (text_xml end 60 ms) (λ text xml. end_good end e text.0 d text.1 xml h)
by_good end Elements e d ms h =
    holds_if (Yields Goes) (begins (codes "<!") (skip_blanks ms)) _ _ (λ _. comment_good end (Some e) d (skip_blanks ms) h)
    (λ _. holds_if (Yields Goes) (begins (codes "</") (skip_blanks ms)) _ _ (λ _. end_good end e [] d (skip_blanks ms) tt h)
    (λ _. start_good end (Some e) d (skip_blanks ms) h))

in_good : (end : ℕ) (inside : Option Element) (d : Draft) (ms : List Mark) → Stands inside d → Yields Goes (turn_in inside end d ms)
in_good end None d ms h =
    holds_if (Yields Goes) (begins (codes "<!") (skip_blanks ms) || has_some d.seen) _ _ (λ _. comment_good end None d (skip_blanks ms) h)
    (λ _. start_good end None d (skip_blanks ms) h)
in_good end (Some e) d ms h = by_good end (content_of e) e d ms h

turn_good : (end : ℕ) (s : State) → Goes s → Yields Goes (turn end s)
unfolding turn
turn_good end s h = in_good end s.inside s.draft s.rest h

done_good : (rest : List Mark) (i : Option Element) (d : Draft) → is_done (state rest i d) ≡ true → Stands i d → Stands None d
done_good rest None d done h = h
done_good rest (Some e) d done h = absurd cc

read_good : (turns end : ℕ) (s : State) → Goes s → Yields (Stands None) (read_on turns end s)
unfolding read_on
read_good zero end s h = tt
read_good (suc turns) end s h =
    holds_if (Yields (Stands None)) (is_done s) _ _ (λ done. done_good s.rest s.inside s.draft done h)
    (λ _. yields_on Goes (Stands None) (turn end s) _ (turn_good end s h) (λ next fine. read_good turns end next fine))

range_of : (start count : ℕ) → (nat_le 1 start && nat_le 1 count && nat_le count 500 && nat_le (start + count) 10_001) ≡ true
    → (1 ≤ start) × (1 ≤ count) × (count ≤ 500) × (start + count ≤ 10_001)
range_of start count h = (grind (arith, nat_tests), grind (arith, nat_tests), grind (arith, nat_tests), grind (arith, nat_tests))

writable : (r : Request) → Good None r → IsWritable r
writable r h =
    let page = range_of r.start r.count h.ranged in
    record {
      asked = record { start = page.0; some = page.1; count = page.2; range = page.3; properties = h.shown; refiners = h.roomy; buckets = h.buckets; sorts = h.keys };
      text = h.text;
      properties = h.properties;
      refiners = h.refiners;
      sorts = h.sorts;
    }

begin_good : Stands None nothing_read
begin_good = record {
  text = bytes_xml [] tt;
  properties = All-nil IsXmlText;
  refiners = All-nil IsWritableRefiner;
  sorts = All-nil IsWritableSort;
  buckets = All-nil HasBuckets;
  shown = omega arith;
  keys = omega arith;
  ranged = refl;
  roomy = omega arith;
}

from_good : (end : ℕ) (ms : List Mark) → Yields IsWritable (packet_from end ms)
from_good end ms =
    yields_any IsWritable (behind_declaration end (behind_order_mark ms)) _
    (λ rest. yields_on (Stands None) IsWritable (read_on (suc (length ms)) end (state rest None nothing_read)) _
    (read_good (suc (length ms)) end (state rest None nothing_read) begin_good) (λ d h. writable d.request h))

packet_good : (bytes : List ℕ) → Yields IsWritable (packet_of bytes)
unfolding packet_of
packet_good bytes = holds_if (Yields IsWritable) (is_utf8 bytes) _ _ (λ _. from_good (length bytes) (marks_from 0 (chars bytes))) (λ _. tt)

pub reads_writable : (bytes : List ℕ) (request : Request) → packet_of bytes ≡ Ok request → IsWritable request
reads_writable bytes request is = subst (Yields IsWritable) is (packet_good bytes)
