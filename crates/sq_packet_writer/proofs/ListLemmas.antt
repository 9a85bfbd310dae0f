-- The lists of a written packet are read item by item.
use Rattle.std.proofs.Common.{◌≡◌, ℕ, ◌<◌, ◌≤◌, true, false, not, ◌&&◌, List, [], ◌∷◌, ◌++◌, length, reverse, flat_map, chars, Option, Some, None, Ok, All, refl, sym, ◌∙◌, ap, subst, append_assoc, append-nil, arith, length-append}
use Rattle.std.proofs.lemmas.Bool.{and_from, and_parts}
use Rattle.std.proofs.lemmas.List.{reverse-append}
use Rattle.std.proofs.lemmas.List.Elements.{All-tail}
use Rattle.std.proofs.lemmas.List.Folds.{list_all-append}
use Rattle.std.proofs.lemmas.Str.{IsUtf8-append, chars-append}
use Rattle.std.specs.Prelude.{codes}
use Rattle.std.specs.List.{list_all}
use Rattle.sq_base.specs.Outcome.{Outcome, ◌>>=◌}
use Rattle.sq_base.specs.Xml.{is_xml_char}
use Rattle.sq_schema.specs.Laws.{NumbersReadBack}
use Rattle.sq_packet.specs.declared.mark.Mark.{Mark}
use Rattle.sq_packet.specs.declared.element.Element.{Element}
use Rattle.sq_packet.specs.declared.element.Element.TheVariants as element
use Rattle.sq_packet.specs.declared.element.Content.TheVariants.{Elements}
use Rattle.sq_packet.specs.declared.request.RefinerSpec.{RefinerSpec}
use Rattle.sq_packet.specs.declared.request.Request.{Request}
use Rattle.sq_packet.specs.declared.draft.Draft.{Draft}
use Rattle.sq_packet.specs.Asked.{HasBuckets}
use Rattle.sq_packet.specs.Elements.{name_of, is_named, parent_of, content_of, repeats, full_code}
use Rattle.sq_packet.specs.Refiners.{is_blank, last_of, has_no_parentheses, is_refiner_name, refiner_of}
use Rattle.sq_packet.specs.Packet.{begun, ended, with_refiner}
use Rattle.sq_response.specs.Escaped.{escaped_character, escaped}
use Rattle.sq_response.specs.Response.{opened, closed, element as element_text}
use Rattle.sq_packet_writer.specs.PacketText.{group, bounds_text, bound_text, refiner_text}
use Rattle.sq_packet_writer.specs.Writable.{IsXmlText, IsWritableRefiner}
use Rattle.sq_packet_writer.proofs.GivenLemmas.{letters_of}
use Rattle.sq_packet_writer.proofs.LetterLemmas.{plain_escaped, plain_xml}
use Rattle.sq_packet_writer.proofs.TrimLemmas.{is_bare, last_bare, kind_reads}
use Rattle.sq_packet_writer.proofs.ValueLemmas.{refiner_back, bounds_plain}
use Rattle.sq_packet_writer.proofs.ReadsLemmas.{is_other, drafted, Reads, reads_without, IsPlain, IsClosed, open_reads, close_reads}
use Rattle.sq_packet_writer.proofs.ElementLemmas.{element_apart, reads_as, once_entry, again_entry, room_for, worded_read}

-- ---- any list

-- one item is read behind others
abbrev pub ReadsItem : {X : Type 0} → ℕ → Request → (X → Type 0) → (X → List ℕ) → (List X → Request) → ℕ → Option Element → List Element → List Element → Type 0
ReadsItem {X} end whole P text put most inside later stood =
    (x : X) (front : List X) (rest : List ℕ) → length front < most → P x → Reads end whole rest inside (put (front ++ x ∷ [])) later stood
    → Reads end whole (text x ++ rest) inside (put front) later stood

each_read : {X : Type 0} (end : ℕ) (whole : Request) (P : X → Type 0) (text : X → List ℕ) (put : List X → Request) (most : ℕ) (inside : Option Element) (later stood : List Element)
    → ReadsItem end whole P text put most inside later stood → (todo front : List X) (rest : List ℕ) → length (front ++ todo) ≤ most → All P todo
    → Reads end whole rest inside (put (front ++ todo)) later stood → Reads end whole (flat_map text todo ++ rest) inside (put front) later stood
each_read end whole P text put most inside later stood step [] front rest few all h =
    subst (λ (xs : List _). Reads end whole rest inside (put xs) later stood) (append-nil front) h
each_read end whole P text put most inside later stood step (x ∷ xs) front rest few all h =
    let more = each_read end whole P text put most inside later stood step xs (front ++ x ∷ []) rest
    (subst (λ (ys : List _). length ys ≤ most) (sym (append_assoc front (x ∷ []) xs)) few) (All-tail P x xs all)
    (subst (λ (ys : List _). Reads end whole rest inside (put ys) later stood) (sym (append_assoc front (x ∷ []) xs)) h) in
    reads_as end whole (text x ++ flat_map text xs ++ rest) (text x ++ (flat_map text xs ++ rest)) inside (put front) later stood (append_assoc (text x) (flat_map text xs) rest)
    (step x front (flat_map text xs ++ rest) (omega (arith, few, length-append front (x ∷ xs))) (all 0 x (omega arith)) more)

-- an element that stands where its list has items
pub group_read : {X : Type 0} (end : ℕ) (whole : Request) (e : Element) (P : X → Type 0) (text : X → List ℕ) (put : List X → Request) (most : ℕ) (later stood : List Element)
    → IsPlain element.Query e → content_of e ≡ Elements → parent_of e ≡ Some element.Query → IsClosed e → repeats e ≡ false → is_other e later ≡ true
    → ((d : Draft) → full_code (Some e) d ≡ None) → ((at : ℕ) (d : Draft) → ended e [] at d ≡ Ok d)
    → ReadsItem end whole P text put most (Some e) later stood → (xs : List X) (rest : List ℕ) → length xs ≤ most → All P xs
    → Reads end whole rest (Some element.Query) (put xs) later stood → Reads end whole (group (name_of e) text xs ++ rest) (Some element.Query) (put []) (e ∷ later) stood
group_read end whole e P text put most later stood plain content parent closes once other room ends step [] rest few all h =
    reads_without end whole rest (Some element.Query) (put []) e later stood h
group_read end whole e P text put most later stood plain content parent closes once other room ends step (x ∷ xs) rest few all h =
    let items = flat_map text (x ∷ xs) in
    let close = close_reads end whole e rest (put (x ∷ xs)) later stood content closes (λ at range seen known. ends at (drafted (put (x ∷ xs)) seen range))
    (subst (λ (o : Option Element). Reads end whole rest o (put (x ∷ xs)) later stood) (sym parent) h) in
    reads_as end whole (element_text (name_of e) items ++ rest) (opened (name_of e) ++ (items ++ (closed (name_of e) ++ rest))) (Some element.Query) (put []) (e ∷ later) stood
    (element_apart (name_of e) items rest)
    (open_reads end whole element.Query e (items ++ (closed (name_of e) ++ rest)) (put []) (e ∷ later) stood later stood plain
    (once_entry e (put []) later stood (λ seen range. room (drafted (put []) seen range)) once other)
    (each_read end whole P text put most (Some e) later stood step (x ∷ xs) [] (closed (name_of e) ++ rest) few all close))

-- ---- a refiner

letters_append : (xs ys : List ℕ) → flat_map escaped_character (xs ++ ys) ≡ flat_map escaped_character xs ++ flat_map escaped_character ys
letters_append [] ys = refl
letters_append (x ∷ xs) ys =
    ap (λ (t : List ℕ). escaped_character x ++ t) (letters_append xs ys)
    ∙ sym (append_assoc (escaped_character x) (flat_map escaped_character xs) (flat_map escaped_character ys))

escaped_append : (a b : List ℕ) → IsXmlText a → escaped (a ++ b) ≡ escaped a ++ escaped b
escaped_append a b h = ap (λ (cs : List ℕ). flat_map escaped_character cs) (chars-append a b h.utf8) ∙ letters_append (chars a) (chars b)

xml_append : (a b : List ℕ) → IsXmlText a → IsXmlText b → IsXmlText (a ++ b)
xml_append a b h k = record {
  utf8 = IsUtf8-append a b h.utf8 k.utf8;
  xml = ap (list_all is_xml_char) (chars-append a b h.utf8)
      ∙ (list_all-append is_xml_char (chars a) (chars b) ∙ and_from (list_all is_xml_char (chars a)) (list_all is_xml_char (chars b)) h.xml k.xml);
}

name_bare : (name rest : List ℕ) → is_refiner_name name ≡ true → is_bare (name ++ rest) ≡ true
name_bare [] rest h = absurd cc
name_bare (b ∷ bs) rest h =
    let parts = and_parts (not (is_blank b) && not (is_blank (last_of b bs))) (has_no_parentheses (b ∷ bs)) h in
    let ends = and_parts (not (is_blank b)) (not (is_blank (last_of b bs))) parts.0 in
    ends.0

alone_bare : (name : List ℕ) → is_refiner_name name ≡ true → is_bare (reverse name) ≡ true
alone_bare [] h = absurd cc
alone_bare (b ∷ bs) h =
    let parts = and_parts (not (is_blank b) && not (is_blank (last_of b bs))) (has_no_parentheses (b ∷ bs)) h in
    let ends = and_parts (not (is_blank b)) (not (is_blank (last_of b bs))) parts.0 in
    last_bare b bs ends.1

closed_bare : (front : List ℕ) → is_bare (reverse (front ++ codes ")")) ≡ true
closed_bare front = ap is_bare (reverse-append front (codes ")"))

text_bare : (name : List ℕ) (bounds : List _) → is_refiner_name name ≡ true → is_bare (reverse (name ++ bounds_text bounds)) ≡ true
text_bare name [] h = ap (λ (t : List ℕ). is_bare (reverse t)) (append-nil name) ∙ alone_bare name h
text_bare name (n ∷ ns) h =
    ap (λ (t : List ℕ). is_bare (reverse t)) (sym (append_assoc name (codes "(discretize=manual" ++ flat_map bound_text (n ∷ ns)) (codes ")")))
    ∙ closed_bare (name ++ (codes "(discretize=manual" ++ flat_map bound_text (n ∷ ns)))

refiner_plain : IsPlain element.Refiners element.Refiner
unfolding is_named begun
refiner_plain = record { content = refl; named = record { begins = refl; known = refl; ascii = refl }; child = refl; begun = λ tag from at d. refl }

refiner_closed : IsClosed element.Refiner
refiner_closed = record { named = record { begins = refl; known = refl; ascii = refl }; same = refl }

abbrev pub IsKept : RefinerSpec → Type 0
IsKept r = IsWritableRefiner r × HasBuckets r

abbrev pub with_refiners : Request → List RefinerSpec → Request
with_refiners r xs = record r { refiners = xs }

refiner_ends : NumbersReadBack → (r : RefinerSpec) (words : List Mark) (at : ℕ) (d : Draft) → IsKept r → letters_of words ≡ chars (r.name ++ bounds_text r.bounds)
    → IsXmlText (r.name ++ bounds_text r.bounds) → ended element.Refiner words at d ≡ Ok (with_refiner d r)
unfolding ended
refiner_ends back r words at d kept are xml =
    ap (λ (o : Outcome RefinerSpec). o >>= (λ (x : RefinerSpec). Ok (with_refiner d x)))
    (kind_reads 510 at (r.name ++ bounds_text r.bounds) words refiner_of r are xml.utf8 (name_bare r.name (bounds_text r.bounds) kept.0.name)
    (text_bare r.name r.bounds kept.0.name) (refiner_back back r kept.0 kept.1))

refiner_is : (r : RefinerSpec) → IsWritableRefiner r → refiner_text r ≡ element_text (name_of element.Refiner) (escaped (r.name ++ bounds_text r.bounds))
unfolding refiner_text
refiner_is r h =
    ap (element_text (name_of element.Refiner))
    (sym (escaped_append r.name (bounds_text r.bounds) h.text ∙ ap (λ (t : List ℕ). escaped r.name ++ t) (plain_escaped (bounds_text r.bounds) (bounds_plain r.bounds h.bounds))))

pub refiner_read : NumbersReadBack → (end : ℕ) (whole base : Request) (later stood : List Element) → is_other element.Refiner later ≡ true
    → ReadsItem end whole IsKept refiner_text (with_refiners base) 16 (Some element.Refiners) later stood
refiner_read back end whole base later stood other r front rest room kept h =
    let text = r.name ++ bounds_text r.bounds in
    let xml = xml_append r.name (bounds_text r.bounds) kept.0.text (plain_xml (bounds_text r.bounds) (bounds_plain r.bounds kept.0.bounds)) in
    reads_as end whole (refiner_text r ++ rest) (element_text (name_of element.Refiner) (escaped text) ++ rest) (Some element.Refiners) (with_refiners base front) later stood
    (ap (λ (t : List ℕ). t ++ rest) (refiner_is r kept.0))
    (worded_read end whole element.Refiners element.Refiner text rest (with_refiners base front) (with_refiners base (front ++ r ∷ [])) later stood later stood refiner_plain
    (again_entry element.Refiner (with_refiners base front) later stood (λ seen range. room_for 16 (length front) 510 room) refl other) refl refiner_closed xml
    (λ words at range seen are. refiner_ends back r words at (drafted (with_refiners base front) seen range) kept are xml) h)
