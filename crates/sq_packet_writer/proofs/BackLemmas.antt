-- The packet of a request is read as that request.
use Rattle.std.proofs.Common.{◌≡◌, ℕ, zero, suc, ◌+◌, ◌<◌, ◌≤◌, ◌^◌, Bool, true, false, List, [], ◌∷◌, ◌++◌, length, reverse, chars, Option, Some, None, Ok, refl, sym, ◌∙◌, ap, subst, append_assoc, append-nil, arith}
use Rattle.std.proofs.lemmas.Bool.{and_parts}
use Rattle.std.proofs.lemmas.Bool.Decides.{nat_tests}
use Rattle.std.proofs.lemmas.Str.{chars-nil, encodes-chars, is_utf8-from_IsUtf8}
use Rattle.std.specs.Prelude.{codes}
use Rattle.std.specs.Char.{is_ascii_digit}
use Rattle.std.specs.Fmt.{decimal}
use Rattle.std.specs.List.{list_all}
use Rattle.std.specs.Str.{bytes_eq, is_utf8, encode_utf8_all as encoded}
use Rattle.std.specs.Str.Lossy.{utf8_valid_len}
use Rattle.sq_base.specs.Outcome.{Outcome, ◌>>=◌, refused}
use Rattle.sq_schema.specs.Laws.{NumbersReadBack}
use Rattle.sq_packet.specs.declared.mark.Mark.{Mark}
use Rattle.sq_packet.specs.declared.mark.Class.TheVariants as class
use Rattle.sq_packet.specs.declared.element.Element.{Element}
use Rattle.sq_packet.specs.declared.element.Element.TheVariants as element
use Rattle.sq_packet.specs.declared.element.Content.TheVariants.{Words}
use Rattle.sq_packet.specs.declared.request.SortSpec.{SortSpec}
use Rattle.sq_packet.specs.declared.request.Request.{Request}
use Rattle.sq_packet.specs.declared.draft.Draft.{Draft}
use Rattle.sq_packet.specs.declared.draft.Tag.{Tag}
use Rattle.sq_packet.specs.Marks.{marks_from, has_some}
use Rattle.sq_packet.specs.Texts.{bytes_of}
use Rattle.sq_packet.specs.Words.{whole_of, truth_of}
use Rattle.sq_packet.specs.Refiners.{last_of}
use Rattle.sq_packet.specs.Elements.{name_of, is_named, parent_of, content_of, repeats, is_seen, full_code}
use Rattle.sq_packet.specs.Packet.{state, no_request, nothing_read, has_range, of_kind, with_start, with_count, with_text, with_behavior, with_attribute, attribute as attribute_of, no_attributes, begun, ended, tag_end, at_tag, turn, read_on, behind_order_mark, behind_declaration, packet_from, packet_of}
use Rattle.sq_response.specs.Escaped.{escaped}
use Rattle.sq_response.specs.Response.{opened, closed, element as element_text}
use Rattle.sq_packet_writer.specs.PacketText.{attribute, opened_with, group, type_text, query_text, range_text, property_text, refiner_text, sort_text, behavior_text, settings_text, asked_text, packet_text}
use Rattle.sq_packet_writer.specs.Writable.{IsXmlText, IsWritableSort, IsWritable}
use Rattle.sq_packet_writer.proofs.GivenLemmas.{letters_of}
use Rattle.sq_packet_writer.proofs.LetterLemmas.{past, letters, length-marks, chars_cons, plain_escaped, plain_xml}
use Rattle.sq_packet_writer.proofs.ValueLemmas.{decimal_plain, decimal_digits, whole_back}
use Rattle.sq_packet_writer.proofs.TrimLemmas.{is_bare, last_bare, kind_reads}
use Rattle.sq_packet_writer.proofs.TagLemmas.{IsName, Opens, said, length_said, start_reads, if_true}
use Rattle.sq_packet_writer.proofs.AttributeLemmas.{attribute_chars, with_chars, TagReads, one_reads}
use Rattle.sq_packet_writer.proofs.ReadsLemmas.{Known, is_other, drafted, requested, Reads, reads_without, one_turn, IsPlain, IsClosed, open_reads, close_reads, words_read}
use Rattle.sq_packet_writer.proofs.ElementLemmas.{element_apart, reads_as, once_entry, kept_entry, worded_read, open_ends, property_read, sort_read, query_opens, with_language}
use Rattle.sq_packet_writer.proofs.ListLemmas.{group_read, IsKept, refiner_read, with_refiners}
use Rattle.sq_packet_writer.proofs.Utf8Lemmas.{packet_utf8}

-- ---- the elements

query_plain : IsPlain element.QueryPacket element.Query
unfolding is_named begun
query_plain = record { content = refl; named = record { begins = refl; known = refl; ascii = refl }; child = refl; begun = λ tag from at d. refl }

context_plain : IsPlain element.Query element.Context
unfolding is_named begun
context_plain = record { content = refl; named = record { begins = refl; known = refl; ascii = refl }; child = refl; begun = λ tag from at d. refl }

range_plain : IsPlain element.Query element.Range
unfolding is_named begun
range_plain = record { content = refl; named = record { begins = refl; known = refl; ascii = refl }; child = refl; begun = λ tag from at d. refl }

start_plain : IsPlain element.Range element.StartAt
unfolding is_named begun
start_plain = record { content = refl; named = record { begins = refl; known = refl; ascii = refl }; child = refl; begun = λ tag from at d. refl }

count_plain : IsPlain element.Range element.Count
unfolding is_named begun
count_plain = record { content = refl; named = record { begins = refl; known = refl; ascii = refl }; child = refl; begun = λ tag from at d. refl }

properties_plain : IsPlain element.Query element.Properties
unfolding is_named begun
properties_plain = record { content = refl; named = record { begins = refl; known = refl; ascii = refl }; child = refl; begun = λ tag from at d. refl }

refiners_plain : IsPlain element.Query element.Refiners
unfolding is_named begun
refiners_plain = record { content = refl; named = record { begins = refl; known = refl; ascii = refl }; child = refl; begun = λ tag from at d. refl }

sorts_plain : IsPlain element.Query element.SortByProperties
unfolding is_named begun
sorts_plain = record { content = refl; named = record { begins = refl; known = refl; ascii = refl }; child = refl; begun = λ tag from at d. refl }

behavior_plain : IsPlain element.Query element.ImplicitAndBehavior
unfolding is_named begun
behavior_plain = record { content = refl; named = record { begins = refl; known = refl; ascii = refl }; child = refl; begun = λ tag from at d. refl }

closes : (e : Element) → IsName class.Name (name_of e) → bytes_eq (name_of e) (name_of e) ≡ true → IsClosed e
closes e named same = record { named = named; same = same }

-- ---- the end

abbrev stood_all : List Element
stood_all = element.QueryText ∷ (element.Context ∷ (element.Query ∷ (element.QueryPacket ∷ [])))

has_seen : (e : Element) (seen : List Element) → is_seen e seen ≡ true → has_some seen ≡ true
has_seen e [] h = absurd cc
has_seen e (x ∷ xs) h = refl

nothing_left : (turns end at : ℕ) (d : Draft) → 0 < turns → has_some d.seen ≡ true → requested (read_on turns end (state (marks_from at []) None d)) ≡ Ok d.request
unfolding read_on
nothing_left zero end at d some seen = absurd (omega arith)
nothing_left (suc n) end at d some seen = rw seen refl

end_read : (end : ℕ) (whole : Request) → Reads end whole [] None whole [] stood_all
end_read end whole = record {
  read = λ at range turns seen known low.
      ap (λ (t : List ℕ). requested (read_on turns end (state (marks_from at t) None (drafted whole seen range)))) chars-nil
      ∙ nothing_left turns end at (drafted whole seen range) (omega arith) (has_seen element.QueryText seen known.gone.0);
}

query_needs : (at : ℕ) (d : Draft) → is_seen element.Context d.seen ≡ true → ended element.Query [] at d ≡ Ok d
unfolding ended
query_needs at d h = rw h refl

packet_needs : (at : ℕ) (d : Draft) → is_seen element.Query d.seen ≡ true → ended element.QueryPacket [] at d ≡ Ok d
unfolding ended
packet_needs at d h = rw h refl

context_needs : (at : ℕ) (d : Draft) → is_seen element.QueryText d.seen ≡ true → ended element.Context [] at d ≡ Ok d
unfolding ended
context_needs at d h = rw h refl

ends_read : (end : ℕ) (whole : Request) → Reads end whole (closed (codes "Query") ++ closed (codes "QueryPacket")) (Some element.Query) whole [] stood_all
ends_read end whole =
    let last : Reads end whole (closed (codes "QueryPacket")) (Some element.QueryPacket) whole [] stood_all =
    reads_as end whole (closed (codes "QueryPacket")) (closed (codes "QueryPacket") ++ []) (Some element.QueryPacket) whole [] stood_all (sym (append-nil (closed (codes "QueryPacket"))))
    (close_reads end whole element.QueryPacket [] whole [] stood_all refl (closes element.QueryPacket (record { begins = refl; known = refl; ascii = refl }) refl)
    (λ at range seen known. packet_needs at (drafted whole seen range) known.gone.1.1.0) (end_read end whole)) in
    close_reads end whole element.Query (closed (codes "QueryPacket")) whole [] stood_all refl (closes element.Query (record { begins = refl; known = refl; ascii = refl }) refl)
    (λ at range seen known. query_needs at (drafted whole seen range) known.gone.1.0) last

-- ---- the lists

abbrev paged : Request → Request
paged r = record { language = r.language; text = r.text; start = r.start; count = r.count; properties = []; refiners = []; sorts = []; implicit_and = true }

abbrev with_properties : Request → List (List ℕ) → Request
with_properties r xs = record r { properties = xs }

abbrev with_sorts : Request → List SortSpec → Request
with_sorts r xs = record r { sorts = xs }

abbrev joined : Request → Bool → Request
joined r b = record r { implicit_and = b }

behavior_ends : (words : List Mark) (at : ℕ) (d : Draft) → letters_of words ≡ chars (codes "false") → ended element.ImplicitAndBehavior words at d ≡ Ok (with_behavior d false)
unfolding ended
behavior_ends words at d are =
    ap (λ (o : Outcome Bool). o >>= (λ (b : Bool). Ok (with_behavior d b)))
    (kind_reads 512 at (codes "false") words truth_of false are (plain_xml (codes "false") refl).utf8 refl refl refl)

behavior_read : (end : ℕ) (whole base : Request) (b : Bool) (rest : List ℕ) → Reads end whole rest (Some element.Query) (joined base b) [] stood_all
    → Reads end whole (behavior_text b ++ rest) (Some element.Query) (joined base true) (element.ImplicitAndBehavior ∷ []) stood_all
behavior_read end whole base true rest h = reads_without end whole rest (Some element.Query) (joined base true) element.ImplicitAndBehavior [] stood_all h
behavior_read end whole base false rest h =
    let word = codes "false" in
    let name = codes "ImplicitAndBehavior" in
    reads_as end whole (element_text name word ++ rest) (element_text name (escaped word) ++ rest) (Some element.Query) (joined base true) (element.ImplicitAndBehavior ∷ []) stood_all
    (ap (λ (t : List ℕ). element_text name t ++ rest) (sym (plain_escaped word refl)))
    (worded_read end whole element.Query element.ImplicitAndBehavior word rest (joined base true) (joined base false) (element.ImplicitAndBehavior ∷ []) stood_all [] stood_all
    behavior_plain (once_entry element.ImplicitAndBehavior (joined base true) [] stood_all (λ seen range. refl) refl refl) refl
    (closes element.ImplicitAndBehavior (record { begins = refl; known = refl; ascii = refl }) refl) (plain_xml word refl)
    (λ words at range seen are. behavior_ends words at (drafted (joined base true) seen range) are) h)

properties_end : (at : ℕ) (d : Draft) → ended element.Properties [] at d ≡ Ok d
unfolding ended
properties_end at d = refl

refiners_end : (at : ℕ) (d : Draft) → ended element.Refiners [] at d ≡ Ok d
unfolding ended
refiners_end at d = refl

sorts_end : (at : ℕ) (d : Draft) → ended element.SortByProperties [] at d ≡ Ok d
unfolding ended
sorts_end at d = refl

abbrev then_behavior : List Element
then_behavior = element.ImplicitAndBehavior ∷ []

abbrev then_sorts : List Element
then_sorts = element.SortByProperties ∷ then_behavior

abbrev then_refiners : List Element
then_refiners = element.Refiners ∷ then_sorts

abbrev then_properties : List Element
then_properties = element.Properties ∷ then_refiners

abbrev tail_text : List ℕ
tail_text = closed (codes "Query") ++ closed (codes "QueryPacket")

sorts_read : (end : ℕ) (r base : Request) (rest : List ℕ) → IsWritable r → Reads end r rest (Some element.Query) (with_sorts base r.sorts) then_behavior stood_all
    → Reads end r (group (codes "SortByProperties") sort_text r.sorts ++ rest) (Some element.Query) (with_sorts base []) then_sorts stood_all
sorts_read end r base rest h more =
    group_read end r element.SortByProperties IsWritableSort sort_text (with_sorts base) 4 then_behavior stood_all sorts_plain refl refl
    (closes element.SortByProperties (record { begins = refl; known = refl; ascii = refl }) refl) refl refl (λ d. refl) sorts_end
    (λ x front left room xml next. sort_read end r x left (with_sorts base front) then_behavior stood_all room xml refl next) r.sorts rest h.asked.sorts h.sorts more

refiners_read : NumbersReadBack → (end : ℕ) (r base : Request) (rest : List ℕ) → IsWritable r → Reads end r rest (Some element.Query) (with_refiners base r.refiners) then_sorts stood_all
    → Reads end r (group (codes "Refiners") refiner_text r.refiners ++ rest) (Some element.Query) (with_refiners base []) then_refiners stood_all
refiners_read back end r base rest h more =
    group_read end r element.Refiners IsKept refiner_text (with_refiners base) 16 then_sorts stood_all refiners_plain refl refl
    (closes element.Refiners (record { begins = refl; known = refl; ascii = refl }) refl) refl refl (λ d. refl) refiners_end
    (refiner_read back end r base then_sorts stood_all refl) r.refiners rest h.asked.refiners (λ k d low. (h.refiners k d low, h.asked.buckets k d low)) more

properties_read : (end : ℕ) (r base : Request) (rest : List ℕ) → IsWritable r → Reads end r rest (Some element.Query) (with_properties base r.properties) then_refiners stood_all
    → Reads end r (group (codes "Properties") property_text r.properties ++ rest) (Some element.Query) (with_properties base []) then_properties stood_all
properties_read end r base rest h more =
    group_read end r element.Properties IsXmlText property_text (with_properties base) 64 then_refiners stood_all properties_plain refl refl
    (closes element.Properties (record { begins = refl; known = refl; ascii = refl }) refl) refl refl (λ d. refl) properties_end
    (λ x front left room xml next. property_read end r x left (with_properties base front) then_refiners stood_all room xml refl next) r.properties rest h.asked.properties h.properties more

settings_read : NumbersReadBack → (end : ℕ) (r : Request) → IsWritable r → Reads end r (settings_text r ++ tail_text) (Some element.Query) (paged r) then_properties stood_all
unfolding settings_text
settings_read back end r h =
    let properties = group (codes "Properties") property_text r.properties in
    let refiners = group (codes "Refiners") refiner_text r.refiners in
    let sorts = group (codes "SortByProperties") sort_text r.sorts in
    let behavior = behavior_text r.implicit_and in
    let after_properties = with_properties (paged r) r.properties in
    let after_refiners = with_refiners after_properties r.refiners in
    let after_sorts = with_sorts after_refiners r.sorts in
    reads_as end r (settings_text r ++ tail_text) (properties ++ (refiners ++ (sorts ++ (behavior ++ tail_text)))) (Some element.Query) (paged r) then_properties stood_all
    (append_assoc (properties ++ refiners ++ sorts) behavior tail_text
    ∙ (append_assoc (properties ++ refiners) sorts (behavior ++ tail_text) ∙ append_assoc properties refiners (sorts ++ (behavior ++ tail_text))))
    (properties_read end r (paged r) (refiners ++ (sorts ++ (behavior ++ tail_text))) h
    (refiners_read back end r after_properties (sorts ++ (behavior ++ tail_text)) h
    (sorts_read end r after_refiners (behavior ++ tail_text) h
    (behavior_read end r after_sorts r.implicit_and tail_text (ends_read end r)))))

-- ---- the page

digit_bare : (b : ℕ) → is_ascii_digit b ≡ true → is_bare (b ∷ []) ≡ true
digit_bare b h = grind (arith, nat_tests)

last_digit : (c : ℕ) (cs : List ℕ) → list_all is_ascii_digit (c ∷ cs) ≡ true → is_ascii_digit (last_of c cs) ≡ true
last_digit c [] h = let parts = and_parts (is_ascii_digit c) true h in parts.0
last_digit c (d ∷ ds) h = let parts = and_parts (is_ascii_digit c) (list_all is_ascii_digit (d ∷ ds)) h in last_digit d ds parts.1

digits_bare : (ds : List ℕ) → list_all is_ascii_digit ds ≡ true → (is_bare ds ≡ true) × (is_bare (reverse ds) ≡ true)
digits_bare [] h = (refl, refl)
digits_bare (c ∷ cs) h =
    let parts = and_parts (is_ascii_digit c) (list_all is_ascii_digit cs) h in
    (digit_bare c parts.0, last_bare c cs (digit_bare (last_of c cs) (last_digit c cs h)))

whole_reads : (n at : ℕ) (words : List Mark) → n ≤ 10_001 → letters_of words ≡ chars (decimal n) → of_kind 506 at words whole_of ≡ Ok n
whole_reads n at words low are =
    let wide : n < 2 ^ 64 = omega arith in
    let bare = digits_bare (decimal n) (decimal_digits n wide) in
    kind_reads 506 at (decimal n) words whole_of n are (plain_xml (decimal n) (decimal_plain n wide)).utf8 bare.0 bare.1 (whole_back n low)

start_ends : (n at : ℕ) (words : List Mark) (d : Draft) → n ≤ 10_001 → letters_of words ≡ chars (decimal n) → ended element.StartAt words at d ≡ Ok (with_start d n)
unfolding ended
start_ends n at words d low are = ap (λ (o : Outcome ℕ). o >>= (λ (m : ℕ). Ok (with_start d m))) (whole_reads n at words low are)

count_ends : (n at : ℕ) (words : List Mark) (d : Draft) → n ≤ 10_001 → letters_of words ≡ chars (decimal n) → ended element.Count words at d ≡ Ok (with_count d n)
unfolding ended
count_ends n at words d low are = ap (λ (o : Outcome ℕ). o >>= (λ (m : ℕ). Ok (with_count d m))) (whole_reads n at words low are)

abbrev texted : Request → Request
texted r = record (paged r) { start = 1; count = 10 }

abbrev started : Request → Request
started r = record (paged r) { count = 10 }

abbrev then_count : List Element
then_count = element.Count ∷ then_properties

abbrev then_start : List Element
then_start = element.StartAt ∷ then_count

abbrev then_range : List Element
then_range = element.Range ∷ then_start

range_holds : (r : Request) → IsWritable r → has_range r ≡ true
range_holds r h =
    let a : 1 ≤ r.start = h.asked.start in
    let b : 1 ≤ r.count = h.asked.some in
    let c : r.count ≤ 500 = h.asked.count in
    let d : r.start + r.count ≤ 10_001 = h.asked.range in
    grind (arith, nat_tests)

range_ends : (at : ℕ) (d : Draft) → has_range d.request ≡ true → ended element.Range [] at d ≡ Ok d
unfolding ended
range_ends at d h = if_true (has_range d.request) (Ok d) (refused 508 d.range) h

number_read : (end : ℕ) (r : Request) (e : Element) (n : ℕ) (rest : List ℕ) (request next : Request) (later : List Element) → IsPlain element.Range e → n ≤ 10_001
    → content_of e ≡ Words → parent_of e ≡ Some element.Range → IsClosed e → ((d : Draft) → full_code (Some e) d ≡ None) → repeats e ≡ false → is_other e later ≡ true
    → ((words : List Mark) (at range : ℕ) (seen : List Element) → letters_of words ≡ chars (decimal n) → ended e words at (drafted request seen range) ≡ Ok (drafted next seen range))
    → Reads end r rest (Some element.Range) next later stood_all
    → Reads end r (element_text (name_of e) (decimal n) ++ rest) (Some element.Range) request (e ∷ later) stood_all
number_read end r e n rest request next later plain low content parent closing room once other ends h =
    let wide : n < 2 ^ 64 = omega arith in
    let digits = decimal_plain n wide in
    reads_as end r (element_text (name_of e) (decimal n) ++ rest) (element_text (name_of e) (escaped (decimal n)) ++ rest) (Some element.Range) request (e ∷ later) stood_all
    (ap (λ (t : List ℕ). element_text (name_of e) t ++ rest) (sym (plain_escaped (decimal n) digits)))
    (worded_read end r element.Range e (decimal n) rest request next (e ∷ later) stood_all later stood_all plain
    (once_entry e request later stood_all (λ seen range. room (drafted request seen range)) once other) content closing (plain_xml (decimal n) digits) ends
    (subst (λ (o : Option Element). Reads end r rest o next later stood_all) (sym parent) h))

page_read : (end : ℕ) (r : Request) (rest : List ℕ) → IsWritable r → Reads end r rest (Some element.Query) (paged r) then_properties stood_all
    → Reads end r (element_text (codes "Range") (range_text r) ++ rest) (Some element.Query) (texted r) then_range stood_all
unfolding range_text
page_read end r rest h more =
    let first = element_text (codes "StartAt") (decimal r.start) in
    let second = element_text (codes "Count") (decimal r.count) in
    let asked = h.asked in
    let start : r.start ≤ 10_001 = omega arith in
    let count : r.count ≤ 10_001 = omega arith in
    let closing = close_reads end r element.Range rest (paged r) then_properties stood_all refl
    (closes element.Range (record { begins = refl; known = refl; ascii = refl }) refl) (λ at range seen known. range_ends at (drafted (paged r) seen range) (range_holds r h)) more in
    let counted = number_read end r element.Count r.count (closed (codes "Range") ++ rest) (started r) (paged r) then_properties count_plain count refl refl
    (closes element.Count (record { begins = refl; known = refl; ascii = refl }) refl) (λ d. refl) refl refl
    (λ words at range seen are. count_ends r.count at words (drafted (started r) seen range) count are) closing in
    let begins = number_read end r element.StartAt r.start (second ++ (closed (codes "Range") ++ rest)) (texted r) (started r) then_count start_plain start refl refl
    (closes element.StartAt (record { begins = refl; known = refl; ascii = refl }) refl) (λ d. refl) refl refl
    (λ words at range seen are. start_ends r.start at words (drafted (texted r) seen range) start are) counted in
    reads_as end r (element_text (codes "Range") (first ++ second) ++ rest) (opened (codes "Range") ++ (first ++ (second ++ (closed (codes "Range") ++ rest))))
    (Some element.Query) (texted r) then_range stood_all
    (element_apart (codes "Range") (first ++ second) rest ∙ ap (λ (t : List ℕ). opened (codes "Range") ++ t) (append_assoc first second (closed (codes "Range") ++ rest)))
    (open_reads end r element.Query element.Range (first ++ (second ++ (closed (codes "Range") ++ rest))) (texted r) then_range stood_all then_start stood_all range_plain
    (once_entry element.Range (texted r) then_start stood_all (λ seen range. refl) refl refl) begins)

-- ---- the query

words_bytes : (text : List ℕ) (words : List Mark) → IsXmlText text → letters_of words ≡ chars text → bytes_of words ≡ text
words_bytes text words xml are = ap encoded are ∙ encodes-chars text xml.utf8

query_says : (text : List ℕ) (words : List Mark) (at : ℕ) (d : Draft) → IsXmlText text → letters_of words ≡ chars text → ended element.QueryText words at d ≡ Ok (with_text d text)
unfolding ended
query_says text words at d xml are = ap (λ (t : List ℕ). Ok (with_text d t)) (words_bytes text words xml are)

abbrev stood_packet : List Element
stood_packet = element.QueryPacket ∷ []

abbrev stood_query : List Element
stood_query = element.Query ∷ stood_packet

abbrev stood_context : List Element
stood_context = element.Context ∷ stood_query

abbrev then_text : List Element
then_text = element.QueryText ∷ then_range

abbrev then_context : List Element
then_context = element.Context ∷ then_text

context_read : (end : ℕ) (r : Request) (rest : List ℕ) → IsWritable r → Reads end r rest (Some element.Query) (texted r) then_range stood_all
    → Reads end r (element_text (codes "Context") (query_text r) ++ rest) (Some element.Query) no_request then_context stood_query
unfolding query_text
context_read end r rest h more =
    let tag = opened_with (codes "QueryText") (attribute (codes "type") (type_text r.language)) in
    let closing = closed (codes "Context") ++ rest in
    let ends = closed (codes "QueryText") in
    let spoken = with_language no_request r.language in
    let close = close_reads end r element.Context rest (texted r) then_range stood_all refl (closes element.Context (record { begins = refl; known = refl; ascii = refl }) refl)
    (λ at range seen known. context_needs at (drafted (texted r) seen range) known.gone.0) more in
    let words = words_read end r element.QueryText r.text closing spoken (texted r) then_range stood_all refl
    (closes element.QueryText (record { begins = refl; known = refl; ascii = refl }) refl) h.text
    (λ text at range seen are. query_says r.text text at (drafted spoken seen range) h.text are) close in
    let opens = query_opens end r r.language (escaped r.text ++ (ends ++ closing)) no_request then_text stood_context then_range stood_all
    (kept_entry element.QueryText no_request then_range stood_context (λ seen range. refl) refl refl refl) words in
    reads_as end r (element_text (codes "Context") (tag ++ escaped r.text ++ ends) ++ rest) (opened (codes "Context") ++ (tag ++ (escaped r.text ++ (ends ++ closing))))
    (Some element.Query) no_request then_context stood_query
    (element_apart (codes "Context") (tag ++ escaped r.text ++ ends) rest
    ∙ ap (λ (t : List ℕ). opened (codes "Context") ++ t) (append_assoc (tag ++ escaped r.text) ends closing ∙ append_assoc tag (escaped r.text) (ends ++ closing)))
    (open_reads end r element.Query element.Context (tag ++ (escaped r.text ++ (ends ++ closing))) no_request then_context stood_query then_text stood_context context_plain
    (kept_entry element.Context no_request then_text stood_query (λ seen range. refl) refl refl refl) opens)

abbrev then_query : List Element
then_query = element.Query ∷ then_context

asked_read : NumbersReadBack → (end : ℕ) (r : Request) → IsWritable r
    → Reads end r (element_text (codes "Query") (asked_text r) ++ closed (codes "QueryPacket")) (Some element.QueryPacket) no_request then_query stood_packet
unfolding asked_text
asked_read back end r h =
    let context = element_text (codes "Context") (query_text r) in
    let range = element_text (codes "Range") (range_text r) in
    let settings = settings_text r in
    reads_as end r (element_text (codes "Query") (context ++ range ++ settings) ++ closed (codes "QueryPacket")) (opened (codes "Query") ++ (context ++ (range ++ (settings ++ tail_text))))
    (Some element.QueryPacket) no_request then_query stood_packet
    (element_apart (codes "Query") (context ++ range ++ settings) (closed (codes "QueryPacket"))
    ∙ ap (λ (t : List ℕ). opened (codes "Query") ++ t) (append_assoc (context ++ range) settings tail_text ∙ append_assoc context range (settings ++ tail_text)))
    (open_reads end r element.QueryPacket element.Query (context ++ (range ++ (settings ++ tail_text))) no_request then_query stood_packet then_context stood_query query_plain
    (kept_entry element.Query no_request then_context stood_packet (λ seen range. refl) refl refl refl)
    (context_read end r (range ++ (settings ++ tail_text)) h (page_read end r (settings ++ tail_text) h (settings_read back end r h))))

-- ---- the packet

abbrev space_word : List ℕ
space_word = codes "xmlns"

abbrev space : List ℕ
space = codes "urn:Microsoft.Search.Query"

abbrev space_tag : Tag
space_tag = record no_attributes { is_in_namespace = true }

space_says : (p : ℕ) → with_attribute element.QueryPacket (attribute_of space_word space p) no_attributes ≡ Ok space_tag
unfolding with_attribute
space_says p = refl

packet_opens : Opens None element.QueryPacket nothing_read
unfolding is_named
packet_opens = record { named = record { begins = refl; known = refl; ascii = refl }; child = refl; room = refl; first = refl }

packet_begins : (end p : ℕ) (cs : List ℕ)
    → tag_end end element.QueryPacket 0 None space_tag (at_tag element.QueryPacket 0 nothing_read) (marks_from p (62 ∷ cs))
    ≡ Ok (state (marks_from (past p (62 ∷ [])) cs) (Some element.QueryPacket) (drafted no_request stood_packet 0))
unfolding begun
packet_begins end p cs = refl

abbrev packet_chars : List ℕ → List ℕ
packet_chars cs = 60 ∷ (name_of element.QueryPacket ++ said space_word (chars space) (62 ∷ cs))

first_turn : (end : ℕ) (cs : List ℕ) → TagReads end (past (past 0 (60 ∷ [])) (name_of element.QueryPacket)) element.QueryPacket (said space_word (chars space) (62 ∷ cs)) (62 ∷ cs) space_tag
    → (at : ℕ) × (turn end (state (marks_from 0 (packet_chars cs)) None nothing_read) ≡ Ok (state (marks_from at cs) (Some element.QueryPacket) (drafted no_request stood_packet 0)))
unfolding turn
first_turn end cs attrs = (
  past attrs.behind (62 ∷ []),
  start_reads end 0 None nothing_read element.QueryPacket 32 (space_word ++ 61 ∷ (34 ∷ (letters (chars space) ++ 34 ∷ (62 ∷ cs)))) space_tag (marks_from attrs.behind (62 ∷ cs))
      packet_opens refl refl attrs.is ∙ packet_begins end attrs.behind cs,
)

first_known : Known then_query stood_packet stood_packet
first_known = record {
  coming = (refl, (refl, (refl, (refl, (refl, (refl, (refl, (refl, (refl, (refl, tt))))))))));
  gone = (refl, tt);
}

packet_apart : (r : Request)
    → packet_text r
    ≡ opened_with (codes "QueryPacket") (attribute space_word (escaped space)) ++ (element_text (codes "Query") (asked_text r) ++ closed (codes "QueryPacket"))
unfolding packet_text
packet_apart r =
    append_assoc (opened_with (codes "QueryPacket") (attribute space_word space)) (element_text (codes "Query") (asked_text r)) (closed (codes "QueryPacket"))
    ∙ ap (λ (t : List ℕ). opened_with (codes "QueryPacket") (attribute space_word t) ++ (element_text (codes "Query") (asked_text r) ++ closed (codes "QueryPacket")))
    (sym (plain_escaped space refl))

packet_is : (r : Request) → chars (packet_text r) ≡ packet_chars (chars (element_text (codes "Query") (asked_text r) ++ closed (codes "QueryPacket")))
packet_is r =
    let rest = element_text (codes "Query") (asked_text r) ++ closed (codes "QueryPacket") in
    ap chars (packet_apart r)
    ∙ (with_chars (codes "QueryPacket") (attribute space_word (escaped space)) rest refl
    ∙ ap (λ (t : List ℕ). 60 ∷ (name_of element.QueryPacket ++ t)) (attribute_chars space_word space (62 ∷ rest) refl (plain_xml space refl)
    ∙ ap (said space_word (chars space)) (chars_cons 62 rest refl)))

-- nothing stands before the first element
bare_packet : (end : ℕ) (cs : List ℕ) → behind_declaration end (behind_order_mark (marks_from 0 (packet_chars cs))) ≡ Ok (marks_from 0 (packet_chars cs))
bare_packet end cs = refl

from_reads : NumbersReadBack → (end : ℕ) (r : Request) → IsWritable r
    → packet_from end (marks_from 0 (packet_chars (chars (element_text (codes "Query") (asked_text r) ++ closed (codes "QueryPacket"))))) ≡ Ok r
from_reads back end r h =
    let cs = chars (element_text (codes "Query") (asked_text r) ++ closed (codes "QueryPacket")) in
    let ms = marks_from 0 (packet_chars cs) in
    let attrs = one_reads end (past (past 0 (60 ∷ [])) (name_of element.QueryPacket)) element.QueryPacket space_word space (62 ∷ cs) space_tag
    (record { begins = refl; known = refl; ascii = refl }) (plain_xml space refl) (open_ends cs) space_says in
    let turned = first_turn end cs attrs in
    let low : length cs < length ms = omega (arith, length-marks 0 (packet_chars cs), length_said space_word (chars space) (62 ∷ cs)) in
    let more = asked_read back end r h in
    ap (λ (o : Outcome (List Mark)). o >>= (λ (rest : List Mark). read_on (suc (length ms)) end (state rest None nothing_read) >>= (λ (d : Draft). Ok d.request))) (bare_packet end cs)
    ∙ (ap requested (one_turn (length ms) end (state ms None nothing_read) (state (marks_from turned.0 cs) (Some element.QueryPacket) (drafted no_request stood_packet 0)) refl turned.1)
    ∙ more.read turned.0 0 (length ms) stood_packet first_known low)

packet_reads : (bytes : List ℕ) (r : Request) → is_utf8 bytes ≡ true → packet_from (length bytes) (marks_from 0 (chars bytes)) ≡ Ok r → packet_of bytes ≡ Ok r
unfolding packet_of
packet_reads bytes r utf8 is =
    if_true (is_utf8 bytes) (packet_from (length bytes) (marks_from 0 (chars bytes))) (refused 501 (utf8_valid_len bytes)) utf8 ∙ is

pub reads_back : NumbersReadBack → (r : Request) → IsWritable r → packet_of (packet_text r) ≡ Ok r
reads_back back r h =
    packet_reads (packet_text r) r (is_utf8-from_IsUtf8 (packet_text r) (packet_utf8 r h))
    (ap (λ (cs : List ℕ). packet_from (length (packet_text r)) (marks_from 0 cs)) (packet_is r) ∙ from_reads back (length (packet_text r)) r h)
