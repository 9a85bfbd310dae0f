-- Each request that is read may be asked, and each fault of a packet lies in it.
use Rattle.std.proofs.Common.{◌≡◌, ℕ, zero, suc, ◌+◌, ◌<◌, ◌≤◌, nat_le, ◌==◌, Bool, true, false, not, ◌&&◌, ◌||◌, if◌then◌else◌, List, [], ◌∷◌, ◌++◌, length, drop, chars, Option, Some, None, Result, Ok, Err, IfOk, ℤ, refl, sym, ap, subst, All, arith, length-append}
use Rattle.std.proofs.lemmas.Bool.Decides.{nat_tests}
use Rattle.std.proofs.lemmas.List.Elements.{All-push}
use Rattle.std.proofs.lemmas.Str.{utf8_valid_len_le, encodes-chars, IsUtf8-from_is_utf8}
use Rattle.std.specs.Prelude.{codes}
use Rattle.std.specs.List.{find, list_any, slice_split}
use Rattle.std.specs.Str.{bytes_eq, is_utf8}
use Rattle.sq_base.specs.declared.faults.QueryFault.{QueryFault}
use Rattle.sq_base.specs.Outcome.{Outcome, or_refused}
use Rattle.sq_packet.specs.declared.mark.Mark.{Mark}
use Rattle.sq_packet.specs.declared.mark.Class.TheVariants as class
use Rattle.sq_packet.specs.declared.element.Element.{Element}
use Rattle.sq_packet.specs.declared.element.Element.TheVariants as element
use Rattle.sq_packet.specs.declared.element.Content.{Content}
use Rattle.sq_packet.specs.declared.element.Content.TheVariants.{Elements, Words}
use Rattle.sq_packet.specs.declared.request.RefinerSpec.{RefinerSpec}
use Rattle.sq_packet.specs.declared.request.Request.{Request}
use Rattle.sq_packet.specs.declared.draft.Draft.{Draft}
use Rattle.sq_packet.specs.declared.draft.Tag.{Tag}
use Rattle.sq_packet.specs.declared.draft.Attribute.{Attribute}
use Rattle.sq_packet.specs.declared.fault.PacketFault.{PacketFault}
use Rattle.sq_packet.specs.Gives.{Gives}
use Rattle.sq_packet.specs.Asked.{HasBuckets, IsAsked}
use Rattle.sq_packet.specs.Marks.{marks_from, place, unless, begins, expected, skip_blanks, begins_blank, comment, name, has_some}
use Rattle.sq_packet.specs.Texts.{text_to, bytes_of, trimmed}
use Rattle.sq_packet.specs.Words.{is_word, whole_of, truth_of}
use Rattle.sq_packet.specs.Refiners.{is_refiner_name, are_rising, numbers_of, with_bounds, is_manual, bounded, discretized, is_end, closed_list, refiner_by, refiner_parts, refiner_of}
use Rattle.sq_packet.specs.Elements.{name_of, children_of, is_named, child_of, parent_of, content_of, repeats, is_seen, full_code}
use Rattle.sq_packet.specs.Packet.{has_range, of_kind, with_text, with_behavior, with_query_language, with_start, with_count, with_refiner, ended, with_attribute, quote, attribute_at, ends_tag, next_attribute, attributes_by, attributes, no_attributes, with_language, with_direction, named, sort_spec, begun, State, state, range_at, at_tag, tag_end, name_ends, unless_code, room_for, once, start_tag, end_tag, open_comment, turn_by, turn_in, turn, is_done, read_on, behind_order_mark, behind_declaration, packet_from, packet_of, nothing_read}
use Rattle.sq_packet.proofs.SoundLemmas.{Leads, leads_on, holds_if, or_leads, AreWithin, Rest, place_within, misfit_within, drop_within, skip_within, expected_leads, comment_leads, declaration_leads, name_leads, Next, IsTextWithin, text_leads, trimmed_within, marks_within}

-- ---- refiners

abbrev Bucketed : Option RefinerSpec → Type 0
Bucketed None = Unit {0}
Bucketed (Some r) = HasBuckets r

and_left : (a b : Bool) → (a && b) ≡ true → a ≡ true
and_left true b h = refl
and_left false b h = absurd cc

and_right : (a b : Bool) → (a && b) ≡ true → b ≡ true
and_right true b h = h
and_right false b h = absurd cc

few_of : (n : ℕ) → nat_le n 64 ≡ true → n ≤ 64
few_of n h = grind (arith, nat_tests)

bounds_bucketed : (name : List ℕ) (o : Option (List ℤ)) → Bucketed (with_bounds name o)
bounds_bucketed name None = tt
bounds_bucketed name (Some bounds) =
    holds_if Bucketed (nat_le (length bounds) 64 && are_rising bounds) _ _
    (λ h. record { few = few_of (length bounds) (and_left (nat_le (length bounds) 64) (are_rising bounds) h); rising = and_right (nat_le (length bounds) 64) (are_rising bounds) h })
    (λ _. tt)

bounded_bucketed : (name : List ℕ) (parts : List (List ℕ)) → Bucketed (bounded name parts)
bounded_bucketed name [] = tt
bounded_bucketed name (bound ∷ bounds) = bounds_bucketed name (numbers_of (bound ∷ bounds))

discretized_bucketed : (name : List ℕ) (parts : List (List ℕ)) → Bucketed (discretized name parts)
discretized_bucketed name [] = tt
discretized_bucketed name (word ∷ bounds) = holds_if Bucketed (is_manual word) _ _ (λ _. bounded_bucketed name bounds) (λ _. tt)

closed_bucketed : (name : List ℕ) (parts : List (List ℕ)) → Bucketed (closed_list name parts)
closed_bucketed name [] = tt
closed_bucketed name (list ∷ behind) = holds_if Bucketed (is_end behind) _ _ (λ _. discretized_bucketed name (slice_split (λ b. b == 47) list)) (λ _. tt)

by_bucketed : (name : List ℕ) (more : List (List ℕ)) → Bucketed (refiner_by name more)
by_bucketed name [] = record { few = omega arith; rising = refl }
by_bucketed name (inside ∷ []) = closed_bucketed name (slice_split (λ b. b == 41) inside)
by_bucketed name (inside ∷ (other ∷ more)) = tt

parts_bucketed : (parts : List (List ℕ)) → Bucketed (refiner_parts parts)
parts_bucketed [] = tt
parts_bucketed (name ∷ more) = holds_if Bucketed (is_refiner_name name) _ _ (λ _. by_bucketed name more) (λ _. tt)

refiner_bucketed : (text : List ℕ) → Bucketed (refiner_of text)
unfolding refiner_of
refiner_bucketed text = parts_bucketed (slice_split (λ b. b == 40) text)

bucketed_is : (o : Option RefinerSpec) (r : RefinerSpec) → Bucketed o → o ≡ Some r → HasBuckets r
bucketed_is o r h is = subst Bucketed is h

-- ---- what stands of a draft

-- inside a range its numbers may be any
abbrev IsRanged : Option Element → Bool → Type 0
IsRanged (Some element.Range) b = Unit {0}
IsRanged (Some element.StartAt) b = Unit {0}
IsRanged (Some element.Count) b = Unit {0}
IsRanged inside b = b ≡ true

-- inside a refiner there is room for it
abbrev IsRoomy : Option Element → ℕ → Type 0
IsRoomy (Some element.Refiner) n = n < 16
IsRoomy inside n = n ≤ 16

record Sound (end : ℕ) (inside : Option Element) (d : Draft) : Type 0 where
  range : d.range ≤ end
  properties : length d.request.properties ≤ 64
  buckets : All HasBuckets d.request.refiners
  sorts : length d.request.sorts ≤ 4
  ranged : IsRanged inside (has_range d.request)
  roomy : IsRoomy inside (length d.request.refiners)

moved : (end : ℕ) (a b : Option Element) (d : Draft) → (IsRanged a (has_range d.request) → IsRanged b (has_range d.request))
    → (IsRoomy a (length d.request.refiners) → IsRoomy b (length d.request.refiners)) → Sound end a d → Sound end b d
moved end a b d ranged roomy h = record {
  range = h.range;
  properties = h.properties;
  buckets = h.buckets;
  sorts = h.sorts;
  ranged = ranged h.ranged;
  roomy = roomy h.roomy;
}

-- there is room for what a start tag adds
abbrev HasRoom : Element → Request → Type 0
HasRoom element.Property r = length r.properties < 64
HasRoom element.SortByProperty r = length r.sorts < 4
HasRoom other r = Unit {0}

abbrev Ended : ℕ → Element → Draft → Draft → Type 0
Ended end e before d = Sound end (parent_of e) d × (HasRoom e before.request → HasRoom e d.request)

kind_leads : {A : Type 0} (end : ℕ) (Q : A → Type 0) (code at : ℕ) (text : List Mark) (read : List ℕ → Option A) → at ≤ end → AreWithin end text
    → ((x : A) → read (bytes_of (trimmed text)) ≡ Some x → Q x) → Leads end Q (of_kind code at text read)
kind_leads end Q code at text read low within next =
    or_leads end Q (read (bytes_of (trimmed text))) code (place at (trimmed text)) (place_within end at (trimmed text) low (trimmed_within end text within)) next

refiner_added : (end : ℕ) (d : Draft) (r : RefinerSpec) → HasBuckets r → Sound end (Some element.Refiner) d → Sound end (Some element.Refiners) (with_refiner d r)
refiner_added end d r has h = record {
  range = h.range;
  properties = h.properties;
  buckets = All-push HasBuckets d.request.refiners r h.buckets has;
  sorts = h.sorts;
  ranged = h.ranged;
  roomy = omega (arith, h.roomy, length-append d.request.refiners (r ∷ []));
}

unranged : (end : ℕ) (a : Option Element) (d : Draft) (n : ℕ) → length d.request.refiners ≤ 16 → Sound end a d → Sound end (Some element.Range) (with_start d n)
unranged end a d n few h = record { range = h.range; properties = h.properties; buckets = h.buckets; sorts = h.sorts; ranged = tt; roomy = few }

uncounted : (end : ℕ) (a : Option Element) (d : Draft) (n : ℕ) → length d.request.refiners ≤ 16 → Sound end a d → Sound end (Some element.Range) (with_count d n)
uncounted end a d n few h = record { range = h.range; properties = h.properties; buckets = h.buckets; sorts = h.sorts; ranged = tt; roomy = few }

same : (end : ℕ) (a : Option Element) (d e : Draft) → e.range ≡ d.range → e.request.properties ≡ d.request.properties → e.request.refiners ≡ d.request.refiners
    → e.request.sorts ≡ d.request.sorts → has_range e.request ≡ has_range d.request → Sound end a d → Sound end a e
same end a d e range properties refiners sorts ranged h = record {
  range = rw range h.range;
  properties = rw properties h.properties;
  buckets = rw refiners h.buckets;
  sorts = rw sorts h.sorts;
  ranged = rw ranged h.ranged;
  roomy = rw refiners h.roomy;
}

ended_leads : (end : ℕ) (e : Element) (text : List Mark) (at : ℕ) (d : Draft) → at ≤ end → AreWithin end text → Sound end (Some e) d
    → Leads end (Ended end e d) (ended e text at d)
unfolding ended
ended_leads end element.QueryPacket text at d low within h =
    holds_if (Leads end (Ended end element.QueryPacket d)) (is_seen element.Query d.seen) _ _ (λ _. (moved end (Some element.QueryPacket) None d (λ x. x) (λ x. x) h, λ x. x)) (λ _. low)
ended_leads end element.Query text at d low within h =
    holds_if (Leads end (Ended end element.Query d)) (is_seen element.Context d.seen) _ _ (λ _. (moved end (Some element.Query) (Some element.QueryPacket) d (λ x. x) (λ x. x) h, λ x. x)) (λ _. low)
ended_leads end element.Context text at d low within h =
    holds_if (Leads end (Ended end element.Context d)) (is_seen element.QueryText d.seen) _ _ (λ _. (moved end (Some element.Context) (Some element.Query) d (λ x. x) (λ x. x) h, λ x. x)) (λ _. low)
ended_leads end element.Range text at d low within h =
    holds_if (Leads end (Ended end element.Range d)) (has_range d.request) _ _ (λ yes_range. (moved end (Some element.Range) (Some element.Query) d (λ _. yes_range) (λ x. x) h, λ x. x)) (λ _. h.range)
ended_leads end element.QueryText text at d low within h =
    (same end (Some element.Context) d (with_text d (bytes_of text)) refl refl refl refl refl (moved end (Some element.QueryText) (Some element.Context) d (λ x. x) (λ x. x) h), λ x. x)
ended_leads end element.StartAt text at d low within h =
    leads_on end (λ (n : ℕ). Unit {0}) (Ended end element.StartAt d) (of_kind 506 at text whole_of) _
    (kind_leads end (λ (n : ℕ). Unit {0}) 506 at text whole_of low within (λ _ _. tt)) (λ n _. (unranged end (Some element.StartAt) d n h.roomy h, λ x. x))
ended_leads end element.Count text at d low within h =
    leads_on end (λ (n : ℕ). Unit {0}) (Ended end element.Count d) (of_kind 506 at text whole_of) _
    (kind_leads end (λ (n : ℕ). Unit {0}) 506 at text whole_of low within (λ _ _. tt)) (λ n _. (uncounted end (Some element.Count) d n h.roomy h, λ x. x))
ended_leads end element.Refiner text at d low within h =
    leads_on end HasBuckets (Ended end element.Refiner d) (of_kind 510 at text refiner_of) _
    (kind_leads end HasBuckets 510 at text refiner_of low within
    (λ r is. bucketed_is (refiner_of (bytes_of (trimmed text))) r (refiner_bucketed (bytes_of (trimmed text))) is))
    (λ r has. (refiner_added end d r has h, λ x. x))
ended_leads end element.ImplicitAndBehavior text at d low within h =
    leads_on end (λ (b : Bool). Unit {0}) (Ended end element.ImplicitAndBehavior d) (of_kind 512 at text truth_of) _
    (kind_leads end (λ (b : Bool). Unit {0}) 512 at text truth_of low within (λ _ _. tt))
    (λ b _. (same end (Some element.Query) d (with_behavior d b) refl refl refl refl refl (moved end (Some element.ImplicitAndBehavior) (Some element.Query) d (λ x. x) (λ x. x) h), λ x. x))
ended_leads end other text at d low within h = (moved end (Some other) (parent_of other) d (λ x. x) (λ x. x) h, λ x. x)

-- ---- attributes

abbrev AnyTag : Tag → Type 0
AnyTag t = Unit {0}

language_leads : (end : ℕ) (value : List ℕ) (at : ℕ) (tag : Tag) → at ≤ end → Leads end AnyTag (with_language value at tag)
language_leads end value at tag low =
    holds_if (Leads end AnyTag) (bytes_eq value (codes "STRING")) _ _ (λ _. tt)
    (λ _. holds_if (Leads end AnyTag) (bytes_eq value (codes "FQL")) _ _ (λ _. tt) (λ _. low))

direction_leads : (end : ℕ) (value : List ℕ) (at : ℕ) (tag : Tag) → at ≤ end → Leads end AnyTag (with_direction value at tag)
direction_leads end value at tag low =
    holds_if (Leads end AnyTag) (is_word (codes "ascending") value) _ _ (λ _. tt)
    (λ _. holds_if (Leads end AnyTag) (is_word (codes "descending") value) _ _ (λ _. tt) (λ _. low))

with_leads : (end : ℕ) (e : Element) (a : Attribute) (tag : Tag) → a.at ≤ end → Leads end AnyTag (with_attribute e a tag)
unfolding with_attribute
with_leads end element.QueryPacket a tag low = holds_if (Leads end AnyTag) (bytes_eq a.name (codes "xmlns")) _ _ (λ _. tt) (λ _. tt)
with_leads end element.QueryText a tag low =
    holds_if (Leads end AnyTag) (bytes_eq a.name (codes "type")) _ _ (λ _. language_leads end a.value a.at tag low) (λ _. tt)
with_leads end element.Property a tag low = holds_if (Leads end AnyTag) (bytes_eq a.name (codes "name")) _ _ (λ _. tt) (λ _. tt)
with_leads end element.SortByProperty a tag low =
    holds_if (Leads end AnyTag) (bytes_eq a.name (codes "name")) _ _ (λ _. tt)
    (λ _. holds_if (Leads end AnyTag) (bytes_eq a.name (codes "direction")) _ _ (λ _. direction_leads end a.value a.at tag low) (λ _. tt))
with_leads end other a tag low = tt

abbrev Freely : {A : Type 0} → A → Type 0
Freely x = Unit {0}

unless_leads : (end : ℕ) (b : Bool) (code at : ℕ) → at ≤ end → Leads end (Freely {A = Unit {0}}) (unless b code at)
unless_leads end b code at low = holds_if (Leads end (Freely {A = Unit {0}})) b _ _ (λ _. low) (λ _. tt)

quote_leads : (end : ℕ) (ms : List Mark) → AreWithin end ms → Leads end (Rest {X = ℕ} end) (quote end ms)
quote_leads end [] h = omega arith
quote_leads end (m ∷ ms) h = holds_if (Leads end (Rest {X = ℕ} end)) (m.c == 34 || m.c == 39) _ _ (λ _. h.1) (λ _. h.0)

abbrev Said : ℕ → Attribute × List Mark → Type 0
Said end r = (r.0.at ≤ end) × AreWithin end r.1

attribute_leads : (end : ℕ) (names : List (List ℕ)) (ms : List Mark) → AreWithin end ms → Leads end (Said end) (attribute_at end names ms)
unfolding attribute_at
attribute_leads end names ms h =
    leads_on end (Rest {X = List ℕ} end) (Said end) (name class.AttributeName end ms) _ (name_leads end class.AttributeName ms h)
    (λ n rest. leads_on end (Freely {A = Unit {0}}) (Said end) (unless (list_any (bytes_eq n.0) names) 502 (place end ms)) _
    (unless_leads end (list_any (bytes_eq n.0) names) 502 (place end ms) (misfit_within end ms h))
    (λ _ _. leads_on end (AreWithin end) (Said end) (expected end (codes "=") (skip_blanks n.1)) _ (expected_leads end (codes "=") (skip_blanks n.1) (skip_within end n.1 rest))
    (λ value within. leads_on end (Rest {X = ℕ} end) (Said end) (quote end (skip_blanks value)) _ (quote_leads end (skip_blanks value) (skip_within end value within))
    (λ q inside. leads_on end (IsTextWithin end) (Said end) (text_to end q.0 q.1) _ (text_leads end q.0 q.1 inside)
    (λ text both. (misfit_within end q.1 inside, drop_within end 1 text.1 both.1))))))

next_attribute_leads : (end : ℕ) (names : List (List ℕ)) (ms : List Mark) → AreWithin end ms → Leads end (Next (Said end)) (next_attribute end names ms)
unfolding next_attribute
next_attribute_leads end names ms h =
    holds_if (Leads end (Next (Said end))) (ends_tag (skip_blanks ms)) _ _ (λ _. tt)
    (λ _. holds_if (Leads end (Next (Said end))) (begins_blank ms) _ _
    (λ _. leads_on end (Said end) (Next (Said end)) (attribute_at end names (skip_blanks ms)) _ (attribute_leads end names (skip_blanks ms) (skip_within end ms h)) (λ x said. said))
    (λ _. misfit_within end ms h))

abbrev Tagged : ℕ → Tag × List Mark → Type 0
Tagged end r = AreWithin end r.1

attributes_by_leads : (end : ℕ) (next : List (List ℕ) → Tag → List Mark → Outcome (Tag × List Mark)) (e : Element) (names : List (List ℕ)) (tag : Tag) (ms : List Mark)
    (o : Option (Attribute × List Mark)) → AreWithin end ms → Next (Said end) o
    → ((more : List (List ℕ)) (after : Tag) (rest : List Mark) → AreWithin end rest → Leads end (Tagged end) (next more after rest))
    → Leads end (Tagged end) (attributes_by next e names tag ms o)
attributes_by_leads end next e names tag ms None h said go = skip_within end ms h
attributes_by_leads end next e names tag ms (Some a) h said go =
    leads_on end AnyTag (Tagged end) (with_attribute e a.0 tag) _ (with_leads end e a.0 tag said.0) (λ after _. go (names ++ a.0.name ∷ []) after a.1 said.1)

attributes_leads : (turns end : ℕ) (e : Element) (names : List (List ℕ)) (tag : Tag) (ms : List Mark) → AreWithin end ms
    → Leads end (Tagged end) (attributes turns end e names tag ms)
unfolding attributes
attributes_leads zero end e names tag ms h = misfit_within end ms h
attributes_leads (suc turns) end e names tag ms h =
    leads_on end (Next (Said end)) (Tagged end) (next_attribute end names ms) _ (next_attribute_leads end names ms h)
    (λ o said. attributes_by_leads end (attributes turns end e) e names tag ms o h said
    (λ more after rest within. attributes_leads turns end e more after rest within))

-- ---- tags

begun_leads : (end : ℕ) (e : Element) (tag : Tag) (from at : ℕ) (i : Option Element) (d : Draft) → from ≤ end → at ≤ end → Sound end i d → HasRoom e d.request
    → Leads end (Sound end i) (begun e tag from at d)
unfolding begun
begun_leads end element.QueryPacket tag from at i d low last h room = holds_if (Leads end (Sound end i)) tag.is_in_namespace _ _ (λ _. h) (λ _. low)
begun_leads end element.QueryText tag from at i d low last h room = same end i d (with_query_language d tag.language) refl refl refl refl refl h
begun_leads end element.Property tag from at i d low last h room =
    leads_on end (Freely {A = List ℕ}) (Sound end i) (named tag.name at) _ (or_leads end (Freely {A = List ℕ}) tag.name 502 at last (λ _ _. tt))
    (λ n _. record { range = h.range; properties = omega (arith, room, length-append d.request.properties (n ∷ [])); buckets = h.buckets; sorts = h.sorts; ranged = h.ranged; roomy = h.roomy })
begun_leads end element.SortByProperty tag from at i d low last h room =
    leads_on end (Freely {A = List ℕ}) (Sound end i) (named tag.name at) _ (or_leads end (Freely {A = List ℕ}) tag.name 502 at last (λ _ _. tt))
    (λ n _. record { range = h.range; properties = h.properties; buckets = h.buckets; sorts = omega (arith, room, length-append d.request.sorts (sort_spec n tag.direction ∷ [])); ranged = h.ranged; roomy = h.roomy })
begun_leads end other tag from at i d low last h room = h

abbrev Each : (Element → Type 0) → List Element → Type 0
Each P [] = Unit {0}
Each P (x ∷ xs) = P x × Each P xs

some_is : (x e : Element) → Some x ≡ Some e → x ≡ e
some_is x e h = cc

find_each : (P : Element → Type 0) (test : Element → Bool) (xs : List Element) (e : Element) → Each P xs → find test xs ≡ Some e → P e
find_each P test [] e each is = absurd cc
find_each P test (x ∷ xs) e each is =
    holds_if (λ (o : Option Element). o ≡ Some e → P e) (test x) _ _ (λ _ found. subst P (some_is x e found) each.0) (λ _ found. find_each P test xs e each.1 found) is

children_parents : (i : Option Element) → Each (λ e. parent_of e ≡ i) (children_of i)
children_parents None = (refl, tt)
children_parents (Some element.QueryPacket) = (refl, tt)
children_parents (Some element.Query) = (refl, (refl, (refl, (refl, (refl, (refl, (refl, (refl, (refl, (refl, (refl, (refl, (refl, (refl, (refl, tt)))))))))))))))
children_parents (Some element.SupportedFormats) = (refl, tt)
children_parents (Some element.Context) = (refl, tt)
children_parents (Some element.Range) = (refl, (refl, tt))
children_parents (Some element.Properties) = (refl, tt)
children_parents (Some element.Refiners) = (refl, tt)
children_parents (Some element.SortByProperties) = (refl, tt)
children_parents (Some other) = tt

child_parent : (i : Option Element) (name : List ℕ) (e : Element) → child_of i name ≡ Some e → parent_of e ≡ i
child_parent i name e is = find_each (λ (x : Element). parent_of x ≡ i) (is_named name) (children_of i) e (children_parents i) is

ranged_in : (e : Element) (b : Bool) → IsRanged (parent_of e) b → IsRanged (Some e) b
ranged_in element.Range b h = tt
ranged_in element.StartAt b h = tt
ranged_in element.Count b h = tt
ranged_in other b h = h

free_if : (b : Bool) (code : ℕ) → (if b then Some code else None) ≡ None → b ≡ false
free_if true code h = absurd cc
free_if false code h = refl

free_of : (most n : ℕ) (code : ℕ) → (if nat_le most n then Some code else None) ≡ None → n < most
free_of most n code h = let below = free_if (nat_le most n) code h in grind (arith, nat_tests, below)

roomy_in : (e : Element) (d : Draft) → full_code (Some e) d ≡ None → IsRoomy (parent_of e) (length d.request.refiners) → IsRoomy (Some e) (length d.request.refiners)
roomy_in element.Refiner d free h = free_of 16 (length d.request.refiners) 510 free
roomy_in other d free h = h

room_of : (e : Element) (d : Draft) → full_code (Some e) d ≡ None → HasRoom e d.request
room_of element.Property d free = free_of 64 (length d.request.properties) 513 free
room_of element.SortByProperty d free = free_of 4 (length d.request.sorts) 515 free
room_of other d free = tt

range_low : (end : ℕ) (e : Element) (from at : ℕ) → from ≤ end → at ≤ end → range_at e from at ≤ end
range_low end element.Range from at low last = low
range_low end other from at low last = last

-- inside an element that has just begun
entered : (end : ℕ) (e : Element) (from : ℕ) (d : Draft) → from ≤ end → full_code (Some e) d ≡ None → Sound end (parent_of e) d → Sound end (Some e) (at_tag e from d)
entered end e from d low free h = record {
  range = range_low end e from d.range low h.range;
  properties = h.properties;
  buckets = h.buckets;
  sorts = h.sorts;
  ranged = ranged_in e (has_range d.request) h.ranged;
  roomy = roomy_in e d free h.roomy;
}

abbrev Fine : ℕ → State → Type 0
Fine end s = AreWithin end s.rest × Sound end s.inside s.draft

tag_end_leads : (end : ℕ) (e : Element) (from : ℕ) (tag : Tag) (d : Draft) (ms : List Mark) → from ≤ end → AreWithin end ms → Sound end (Some e) d → HasRoom e d.request
    → Leads end (Fine end) (tag_end end e from (parent_of e) tag d ms)
tag_end_leads end e from tag d ms low h sound room =
    holds_if (Leads end (Fine end)) (begins (codes "/") ms) _ _
    (λ _. leads_on end (Ended end e d) (Fine end) (ended e [] from d) _ (ended_leads end e [] from d low tt sound)
    (λ done fine. leads_on end (AreWithin end) (Fine end) (expected end (codes ">") (drop 1 ms)) _ (expected_leads end (codes ">") (drop 1 ms) (drop_within end 1 ms h))
    (λ rest within. leads_on end (Sound end (parent_of e)) (Fine end) (begun e tag from (place end (drop 1 ms)) done) _
    (begun_leads end e tag from (place end (drop 1 ms)) (parent_of e) done low (misfit_within end (drop 1 ms) (drop_within end 1 ms h)) fine.0 (fine.1 room))
    (λ after good. (within, good)))))
    (λ _. leads_on end (Sound end (Some e)) (Fine end) (begun e tag from (place end ms) d) _
    (begun_leads end e tag from (place end ms) (Some e) d low (misfit_within end ms h) sound room) (λ after good. (drop_within end 1 ms h, good)))

code_leads : (end : ℕ) (o : Option ℕ) (at : ℕ) → at ≤ end → Leads end (λ (u : Unit {0}). o ≡ None) (unless_code o at)
code_leads end None at low = refl
code_leads end (Some code) at low = low

name_ends_leads : (end : ℕ) (ms : List Mark) → AreWithin end ms → Leads end (Freely {A = Unit {0}}) (name_ends end ms)
name_ends_leads end ms h = holds_if (Leads end (Freely {A = Unit {0}})) (begins_blank ms || ends_tag ms) _ _ (λ _. tt) (λ _. misfit_within end ms h)

abbrev Known : ℕ → Option Element → Draft → Element → Type 0
Known end i d e = (parent_of e ≡ i) × (full_code (Some e) d ≡ None)

start_leads : (end : ℕ) (i : Option Element) (d : Draft) (ms : List Mark) → AreWithin end ms → Sound end i d → Leads end (Fine end) (start_tag end i d ms)
unfolding start_tag
start_leads end i d ms h sound =
    let low = misfit_within end ms h in
    leads_on end (AreWithin end) (Fine end) (expected end (codes "<") ms) _ (expected_leads end (codes "<") ms h)
    (λ tag within. leads_on end (Rest {X = List ℕ} end) (Fine end) (name class.Name end tag) _ (name_leads end class.Name tag within)
    (λ n rest. leads_on end (λ (u : Unit {0}). full_code (child_of i n.0) d ≡ None) (Fine end) (room_for (child_of i n.0) d (place end ms)) _
    (code_leads end (full_code (child_of i n.0) d) (place end ms) low)
    (λ _ free. leads_on end (Freely {A = Unit {0}}) (Fine end) (name_ends end n.1) _ (name_ends_leads end n.1 rest)
    (λ _ _. leads_on end (Known end i d) (Fine end) (or_refused (child_of i n.0) 503 (place end ms)) _
    (or_leads end (Known end i d) (child_of i n.0) 503 (place end ms) low (λ e is. (child_parent i n.0 e is, subst (λ (o : Option Element). full_code o d ≡ None) is free)))
    (λ e known. leads_on end (Freely {A = Unit {0}}) (Fine end) (once e d (place end ms)) _
    (unless_leads end (not (repeats e) && is_seen e d.seen) 504 (place end ms) low)
    (λ _ _. leads_on end (Tagged end) (Fine end) (attributes (suc (length n.1)) end e [] no_attributes n.1) _ (attributes_leads (suc (length n.1)) end e [] no_attributes n.1 rest)
    (λ a more. subst (λ (o : Option Element). Leads end (Fine end) (tag_end end e (place end ms) o a.0 (at_tag e (place end ms) d) a.1)) known.0
    (tag_end_leads end e (place end ms) a.0 (at_tag e (place end ms) d) a.1 low more
    (entered end e (place end ms) d low known.1 (subst (λ (o : Option Element). Sound end o d) (sym known.0) sound)) (room_of e d known.1)))))))))

end_leads : (end : ℕ) (e : Element) (text : List Mark) (d : Draft) (ms : List Mark) → AreWithin end text → AreWithin end ms → Sound end (Some e) d
    → Leads end (Fine end) (end_tag end e text d ms)
unfolding end_tag
end_leads end e text d ms within h sound =
    let low = misfit_within end ms h in
    leads_on end (AreWithin end) (Fine end) (expected end (codes "</") ms) _ (expected_leads end (codes "</") ms h)
    (λ tag inside. leads_on end (Ended end e d) (Fine end) (ended e text (place end ms) d) _ (ended_leads end e text (place end ms) d low within sound)
    (λ done fine. leads_on end (Rest {X = List ℕ} end) (Fine end) (name class.Name end tag) _ (name_leads end class.Name tag inside)
    (λ n rest. leads_on end (Freely {A = Unit {0}}) (Fine end) (unless (not (bytes_eq n.0 (name_of e))) 502 (place end ms)) _
    (unless_leads end (not (bytes_eq n.0 (name_of e))) 502 (place end ms) low)
    (λ _ _. leads_on end (AreWithin end) (Fine end) (expected end (codes ">") (skip_blanks n.1)) _ (expected_leads end (codes ">") (skip_blanks n.1) (skip_within end n.1 rest))
    (λ after kept. (kept, fine.0))))))

-- ---- the packet

comment_turn : (end : ℕ) (i : Option Element) (d : Draft) (ms : List Mark) → AreWithin end ms → Sound end i d → Leads end (Fine end) (open_comment end i d ms)
comment_turn end i d ms h sound =
    leads_on end (AreWithin end) (Fine end) (expected end (codes "<!--") ms) _ (expected_leads end (codes "<!--") ms h)
    (λ inside within. leads_on end (AreWithin end) (Fine end) (comment end inside) _ (comment_leads end inside within) (λ rest kept. (kept, sound)))

by_content : (end : ℕ) (c : Content) (e : Element) (d : Draft) (ms : List Mark) → AreWithin end ms → Sound end (Some e) d → Leads end (Fine end) (turn_by c end e d ms)
by_content end Words e d ms h sound =
    leads_on end (IsTextWithin end) (Fine end) (text_to end 60 ms) _ (text_leads end 60 ms h) (λ text both. end_leads end e text.0 d text.1 both.0 both.1 sound)
by_content end Elements e d ms h sound =
    let within = skip_within end ms h in
    holds_if (Leads end (Fine end)) (begins (codes "<!") (skip_blanks ms)) _ _ (λ _. comment_turn end (Some e) d (skip_blanks ms) within sound)
    (λ _. holds_if (Leads end (Fine end)) (begins (codes "</") (skip_blanks ms)) _ _ (λ _. end_leads end e [] d (skip_blanks ms) tt within sound)
    (λ _. start_leads end (Some e) d (skip_blanks ms) within sound))

in_leads : (end : ℕ) (i : Option Element) (d : Draft) (ms : List Mark) → AreWithin end ms → Sound end i d → Leads end (Fine end) (turn_in i end d ms)
in_leads end None d ms h sound =
    let within = skip_within end ms h in
    holds_if (Leads end (Fine end)) (begins (codes "<!") (skip_blanks ms) || has_some d.seen) _ _ (λ _. comment_turn end None d (skip_blanks ms) within sound)
    (λ _. start_leads end None d (skip_blanks ms) within sound)
in_leads end (Some e) d ms h sound = by_content end (content_of e) e d ms h sound

turn_leads : (end : ℕ) (s : State) → Fine end s → Leads end (Fine end) (turn end s)
unfolding turn
turn_leads end s h = in_leads end s.inside s.draft s.rest h.0 h.1

done_sound : (end : ℕ) (rest : List Mark) (i : Option Element) (d : Draft) → is_done (state rest i d) ≡ true → Sound end i d → Sound end None d
done_sound end rest None d done h = h
done_sound end rest (Some e) d done h = absurd cc

read_leads : (turns end : ℕ) (s : State) → Fine end s → Leads end (Sound end None) (read_on turns end s)
unfolding read_on
read_leads zero end s h = misfit_within end s.rest h.0
read_leads (suc turns) end s h =
    holds_if (Leads end (Sound end None)) (is_done s) _ _ (λ done. done_sound end s.rest s.inside s.draft done h.1)
    (λ _. leads_on end (Fine end) (Sound end None) (turn end s) _ (turn_leads end s h) (λ next fine. read_leads turns end next fine))

range_of : (start count : ℕ) → (nat_le 1 start && nat_le 1 count && nat_le count 500 && nat_le (start + count) 10_001) ≡ true
    → (1 ≤ start) × (1 ≤ count) × (count ≤ 500) × (start + count ≤ 10_001)
range_of start count h = (grind (arith, nat_tests), grind (arith, nat_tests), grind (arith, nat_tests), grind (arith, nat_tests))

asked : (end : ℕ) (d : Draft) → Sound end None d → IsAsked d.request
asked end d h =
    let page = range_of d.request.start d.request.count h.ranged in
    record { start = page.0; some = page.1; count = page.2; range = page.3; properties = h.properties; refiners = h.roomy; buckets = h.buckets; sorts = h.sorts }

mark_within : (end : ℕ) (ms : List Mark) → AreWithin end ms → AreWithin end (behind_order_mark ms)
mark_within end [] h = tt
mark_within end (m ∷ ms) h = holds_if (AreWithin end) (m.c == 65_279) _ _ (λ _. h.1) (λ _. h)

declared_leads : (end : ℕ) (ms : List Mark) → AreWithin end ms → Leads end (AreWithin end) (behind_declaration end ms)
declared_leads end ms h =
    holds_if (Leads end (AreWithin end)) (begins (codes "<?") ms) _ _
    (λ _. leads_on end (AreWithin end) (AreWithin end) (expected end (codes "<?xml") ms) _ (expected_leads end (codes "<?xml") ms h) (λ rest within. declaration_leads end rest within))
    (λ _. h)

none_bucketed : All HasBuckets []
none_bucketed k d below = absurd (omega arith)

begin_sound : (end : ℕ) → Sound end None nothing_read
begin_sound end = record { range = omega arith; properties = omega arith; buckets = none_bucketed; sorts = omega arith; ranged = refl; roomy = omega arith }

from_leads : (end : ℕ) (ms : List Mark) → AreWithin end ms → Leads end IsAsked (packet_from end ms)
from_leads end ms h =
    leads_on end (AreWithin end) IsAsked (behind_declaration end (behind_order_mark ms)) _ (declared_leads end (behind_order_mark ms) (mark_within end ms h))
    (λ rest within. leads_on end (Sound end None) IsAsked (read_on (suc (length ms)) end (state rest None nothing_read)) _
    (read_leads (suc (length ms)) end (state rest None nothing_read) (within, begin_sound end)) (λ d sound. asked end d sound))

pub packet_leads : (bytes : List ℕ) → Leads (length bytes) IsAsked (packet_of bytes)
unfolding packet_of
packet_leads bytes =
    holds_if (Leads (length bytes) IsAsked) (is_utf8 bytes) _ _
    (λ good. from_leads (length bytes) (marks_from 0 (chars bytes)) (marks_within (length bytes) 0 (chars bytes)
    (omega (arith, ap length (encodes-chars bytes (IsUtf8-from_is_utf8 bytes good))))))
    (λ _. utf8_valid_len_le bytes)

pub faults_lie : (bytes : List ℕ) (fault : QueryFault) → packet_of bytes ≡ Err fault → fault.at ≤ length bytes
faults_lie bytes fault is = subst (Leads (length bytes) IsAsked) is (packet_leads bytes)

pub requests_asked : (bytes : List ℕ) (request : Request) → packet_of bytes ≡ Ok request → IsAsked request
requests_asked bytes request is = subst (Leads (length bytes) IsAsked) is (packet_leads bytes)

pub limits_of : (bytes : List ℕ) (r : Result Request PacketFault) → Gives (λ (x : Request). x) r (packet_of bytes) → IfOk r IsAsked
limits_of bytes (Ok request) is = requests_asked bytes request is
limits_of bytes (Err fault) is = tt
