-- What written elements are read as, before what follows them.
use Rattle.std.proofs.Common.{◌≡◌, ℕ, zero, suc, ◌<◌, Bool, true, false, not, ◌&&◌, ◌||◌, List, [], ◌∷◌, ◌++◌, length, chars, Option, Some, None, Ok, refl, ◌∙◌, ap, subst, append_assoc, arith, length-append}
use Rattle.std.proofs.lemmas.Bool.{and_parts, not-true}
use Rattle.std.proofs.lemmas.List.Folds.{list_any-append}
use Rattle.std.specs.List.{list_all}
use Rattle.std.specs.Str.{bytes_eq}
use Rattle.sq_base.specs.Outcome.{Outcome, ◌>>=◌}
use Rattle.sq_base.specs.Xml.{is_xml_char}
use Rattle.sq_packet.specs.declared.mark.Mark.{Mark}
use Rattle.sq_packet.specs.declared.mark.Class.TheVariants as class
use Rattle.sq_packet.specs.declared.element.Element.{Element}
use Rattle.sq_packet.specs.declared.element.Content.TheVariants.{Elements, Words}
use Rattle.sq_packet.specs.declared.request.Request.{Request}
use Rattle.sq_packet.specs.declared.draft.Draft.{Draft}
use Rattle.sq_packet.specs.declared.draft.Tag.{Tag}
use Rattle.sq_packet.specs.Marks.{marks_from}
use Rattle.sq_packet.specs.Elements.{name_of, child_of, parent_of, content_of, key_of, repeats, is_seen, full_code}
use Rattle.sq_packet.specs.Packet.{State, state, ended, begun, no_attributes, at_tag, turn, is_done, read_on}
use Rattle.sq_response.specs.Escaped.{escaped}
use Rattle.sq_response.specs.Response.{opened, closed}
use Rattle.sq_packet_writer.specs.Writable.{IsXmlText}
use Rattle.sq_packet_writer.proofs.GivenLemmas.{letters_of}
use Rattle.sq_packet_writer.proofs.LetterLemmas.{past, is_ascii, letters, chars_cons, chars_word, escaped_chars}
use Rattle.sq_packet_writer.proofs.TextLemmas.{texts, texts_are}
use Rattle.sq_packet_writer.proofs.TagLemmas.{IsName, Opens, attributes_end, start_reads, start_turn, end_reads, end_turn, text_turns, if_false}

-- ---- elements that have stood

abbrev pub NotSeen : List Element → List Element → Type 0
NotSeen [] seen = Unit {0}
NotSeen (e ∷ es) seen = (is_seen e seen ≡ false) × NotSeen es seen

abbrev pub AllSeen : List Element → List Element → Type 0
AllSeen [] seen = Unit {0}
AllSeen (e ∷ es) seen = (is_seen e seen ≡ true) × AllSeen es seen

-- those that may still stand, and some that have stood
pub record Known (later stood seen : List Element) : Type 0 where
  pub coming : NotSeen later seen
  pub gone : AllSeen stood seen

abbrev pub is_other : Element → List Element → Bool
is_other e [] = true
is_other e (x ∷ xs) = not (bytes_eq (key_of e) (key_of x)) && is_other e xs

or_false : (a b : Bool) → a ≡ false → b ≡ false → (a || (b || false)) ≡ false
or_false true b h k = absurd cc
or_false false true h k = absurd cc
or_false false false h k = refl

or_left : (a b : Bool) → a ≡ true → (a || b) ≡ true
or_left true b h = refl
or_left false b h = absurd cc

or_right : (a b : Bool) → b ≡ true → (a || (b || false)) ≡ true
or_right true b h = refl
or_right false true h = refl
or_right false false h = absurd cc

seen_on : (e x : Element) (seen : List Element) → is_seen x (seen ++ e ∷ []) ≡ (is_seen x seen || (bytes_eq (key_of e) (key_of x) || false))
seen_on e x seen = list_any-append (λ other. bytes_eq (key_of other) (key_of x)) seen (e ∷ [])

later_on : (later : List Element) (e : Element) (seen : List Element) → is_other e later ≡ true → NotSeen later seen → NotSeen later (seen ++ e ∷ [])
later_on [] e seen other h = tt
later_on (x ∷ xs) e seen other h =
    let parts = and_parts (not (bytes_eq (key_of e) (key_of x))) (is_other e xs) other in
    (seen_on e x seen ∙ or_false (is_seen x seen) (bytes_eq (key_of e) (key_of x)) h.0 (not-true (bytes_eq (key_of e) (key_of x)) parts.0), later_on xs e seen parts.1 h.1)

stood_on : (stood : List Element) (e : Element) (seen : List Element) → AllSeen stood seen → AllSeen stood (seen ++ e ∷ [])
stood_on [] e seen h = tt
stood_on (x ∷ xs) e seen h = (seen_on e x seen ∙ or_left (is_seen x seen) (bytes_eq (key_of e) (key_of x) || false) h.0, stood_on xs e seen h.1)

pub known_on : (e : Element) (later stood seen : List Element) → is_other e later ≡ true → Known later stood seen → Known later stood (seen ++ e ∷ [])
known_on e later stood seen other h = record { coming = later_on later e seen other h.coming; gone = stood_on stood e seen h.gone }

pub known_self : (e : Element) (later stood seen : List Element) → is_other e later ≡ true → bytes_eq (key_of e) (key_of e) ≡ true → Known later stood seen
    → Known later (e ∷ stood) (seen ++ e ∷ [])
known_self e later stood seen other same h = record {
  coming = later_on later e seen other h.coming;
  gone = (seen_on e e seen ∙ or_right (is_seen e seen) (bytes_eq (key_of e) (key_of e)) same, stood_on stood e seen h.gone);
}

-- ---- readings

abbrev pub drafted : Request → List Element → ℕ → Draft
drafted request seen range = record { request = request; seen = seen; range = range }

abbrev pub requested : Outcome Draft → Outcome Request
requested o = o >>= (λ d. Ok d.request)

-- Bytes that are left are read to their end, wherever they begin, with what has been read before, as the whole request.
pub record Reads (end : ℕ) (whole : Request) (bytes : List ℕ) (inside : Option Element) (request : Request) (later stood : List Element) : Type 0 where
  pub read : (at range turns : ℕ) (seen : List Element) → Known later stood seen → length (chars bytes) < turns
      → requested (read_on turns end (state (marks_from at (chars bytes)) inside (drafted request seen range))) ≡ Ok whole

-- one that may still stand doesn't
pub reads_without : (end : ℕ) (whole : Request) (bytes : List ℕ) (inside : Option Element) (request : Request) (e : Element) (later stood : List Element)
    → Reads end whole bytes inside request later stood → Reads end whole bytes inside request (e ∷ later) stood
reads_without end whole bytes inside request e later stood h = record {
  read = λ at range turns seen known low. h.read at range turns seen (record { coming = known.coming.1; gone = known.gone }) low;
}

-- what one turn leaves
pub record Turned (end : ℕ) (s : State) (cs : List ℕ) (after : Option Element) (next : Request) (later stood : List Element) : Type 0 where
  pub place : ℕ
  pub range : ℕ
  pub seen : List Element
  pub known : Known later stood seen
  pub is : turn end s ≡ Ok (state (marks_from place cs) after (drafted next seen range))

pub one_turn : (n end : ℕ) (s next : State) → is_done s ≡ false → turn end s ≡ Ok next → read_on (suc n) end s ≡ read_on n end next
unfolding read_on
one_turn n end s next more is =
    if_false (is_done s) (Ok s.draft) (turn end s >>= read_on n end) more ∙ ap (λ (o : Outcome State). o >>= read_on n end) is

goes_on : (turns end : ℕ) (whole : Request) (cs : List ℕ) (rest : List ℕ) (parent : Element) (after : Option Element) (d : Draft) (next : Request) (at : ℕ)
    (later stood : List Element) → length cs < turns → length (chars rest) < length cs
    → Turned end (state (marks_from at cs) (Some parent) d) (chars rest) after next later stood → Reads end whole rest after next later stood
    → requested (read_on turns end (state (marks_from at cs) (Some parent) d)) ≡ Ok whole
goes_on zero end whole cs rest parent after d next at later stood low shorter turned h = absurd (omega arith)
goes_on (suc n) end whole cs rest parent after d next at later stood low shorter turned h =
    ap requested (one_turn n end (state (marks_from at cs) (Some parent) d) (state (marks_from turned.place (chars rest)) after (drafted next turned.seen turned.range)) refl turned.is)
    ∙ h.read turned.place turned.range n turned.seen turned.known (omega arith)

pub reads_on : (end : ℕ) (whole : Request) (bytes rest cs : List ℕ) (parent : Element) (after : Option Element) (request next : Request) (later stood later_then stood_then : List Element)
    → chars bytes ≡ cs → length (chars rest) < length cs
    → ((at range : ℕ) (seen : List Element) → Known later stood seen
    → Turned end (state (marks_from at cs) (Some parent) (drafted request seen range)) (chars rest) after next later_then stood_then)
    → Reads end whole rest after next later_then stood_then → Reads end whole bytes (Some parent) request later stood
reads_on end whole bytes rest cs parent after request next later stood later_then stood_then are shorter turned h = record {
  read = λ at range turns seen known low.
      ap (λ (t : List ℕ). requested (read_on turns end (state (marks_from at t) (Some parent) (drafted request seen range)))) are
      ∙ goes_on turns end whole cs rest parent after (drafted request seen range) next at later_then stood_then
      (subst (λ (t : List ℕ). length t < turns) are low) shorter (turned at range seen known) h;
}

-- ---- tags without attributes

abbrev open_chars : List ℕ → List ℕ → List ℕ
open_chars name cs = 60 ∷ (name ++ 62 ∷ cs)

abbrev close_chars : List ℕ → List ℕ → List ℕ
close_chars name cs = 60 ∷ (47 ∷ (name ++ 62 ∷ cs))

opened_chars : (name rest : List ℕ) → is_ascii name ≡ true → chars (opened name ++ rest) ≡ open_chars name (chars rest)
unfolding opened
opened_chars name rest low =
    ap (λ (t : List ℕ). chars (60 ∷ t)) (append_assoc name (62 ∷ []) rest)
    ∙ (chars_cons 60 (name ++ 62 ∷ rest) refl
    ∙ ap (λ (t : List ℕ). 60 ∷ t) (chars_word name (62 ∷ rest) low ∙ ap (λ (t : List ℕ). name ++ t) (chars_cons 62 rest refl)))

closed_chars : (name rest : List ℕ) → is_ascii name ≡ true → chars (closed name ++ rest) ≡ close_chars name (chars rest)
unfolding closed
closed_chars name rest low =
    ap (λ (t : List ℕ). chars (60 ∷ (47 ∷ t))) (append_assoc name (62 ∷ []) rest)
    ∙ (chars_cons 60 (47 ∷ (name ++ 62 ∷ rest)) refl
    ∙ (ap (λ (t : List ℕ). 60 ∷ t) (chars_cons 47 (name ++ 62 ∷ rest) refl)
    ∙ ap (λ (t : List ℕ). 60 ∷ (47 ∷ t)) (chars_word name (62 ∷ rest) low ∙ ap (λ (t : List ℕ). name ++ t) (chars_cons 62 rest refl))))

-- an element that may stand in another, whose start tag says nothing more
pub record IsPlain (parent e : Element) : Type 0 where
  pub content : content_of parent ≡ Elements
  pub named : IsName class.Name (name_of e)
  pub child : child_of (Some parent) (name_of e) ≡ Some e
  pub begun : (tag : Tag) (from at : ℕ) (d : Draft) → begun e tag from at d ≡ Ok d

-- at a start tag
pub record Entry (e : Element) (request : Request) (later stood later_then stood_then : List Element) : Type 0 where
  pub room : (seen : List Element) (range : ℕ) → full_code (Some e) (drafted request seen range) ≡ None
  pub first : (seen : List Element) → Known later stood seen → (not (repeats e) && is_seen e seen) ≡ false
  pub next : (seen : List Element) → Known later stood seen → Known later_then stood_then (seen ++ e ∷ [])

open_turned : (end at range : ℕ) (parent e : Element) (cs : List ℕ) (request : Request) (seen later stood later_then stood_then : List Element) → IsPlain parent e
    → Entry e request later stood later_then stood_then → Known later stood seen
    → Turned end (state (marks_from at (open_chars (name_of e) cs)) (Some parent) (drafted request seen range)) cs (Some e) request later_then stood_then
open_turned end at range parent e cs request seen later stood later_then stood_then plain entry known =
    let d = drafted request seen range in
    let behind = past (past at (60 ∷ [])) (name_of e) in
    let opens : Opens (Some parent) e d = record { named = plain.named; child = plain.child; room = entry.room seen range; first = entry.first seen known } in
    let none = attributes_end (suc (length (marks_from behind (62 ∷ cs)))) end e [] no_attributes (marks_from behind (62 ∷ cs)) (omega arith) refl refl in
    let starts = start_turn end at parent d (name_of e) (62 ∷ cs) plain.content plain.named.begins
    ∙ start_reads end at (Some parent) d e 62 cs no_attributes (marks_from behind (62 ∷ cs)) opens refl refl none in
    record {
      place = past behind (62 ∷ []);
      range = (at_tag e at d).range;
      seen = seen ++ e ∷ [];
      known = entry.next seen known;
      is = starts ∙ ap (λ (o : Outcome Draft). o >>= (λ (after : Draft). Ok (state (marks_from (past behind (62 ∷ [])) cs) (Some e) after))) (plain.begun no_attributes at behind (at_tag e at d));
    }

pub open_reads : (end : ℕ) (whole : Request) (parent e : Element) (rest : List ℕ) (request : Request) (later stood later_then stood_then : List Element) → IsPlain parent e
    → Entry e request later stood later_then stood_then → Reads end whole rest (Some e) request later_then stood_then
    → Reads end whole (opened (name_of e) ++ rest) (Some parent) request later stood
open_reads end whole parent e rest request later stood later_then stood_then plain entry h =
    reads_on end whole (opened (name_of e) ++ rest) rest (open_chars (name_of e) (chars rest)) parent (Some e) request request later stood later_then stood_then
    (opened_chars (name_of e) rest plain.named.ascii) (omega (arith, length-append (name_of e) (62 ∷ chars rest)))
    (λ at range seen known. open_turned end at range parent e (chars rest) request seen later stood later_then stood_then plain entry known) h

-- what ends where its end tag stands
pub record IsClosed (e : Element) : Type 0 where
  pub named : IsName class.Name (name_of e)
  pub same : bytes_eq (name_of e) (name_of e) ≡ true

close_turned : (end at range : ℕ) (e : Element) (cs : List ℕ) (request : Request) (seen later stood : List Element) → content_of e ≡ Elements → IsClosed e
    → ended e [] at (drafted request seen range) ≡ Ok (drafted request seen range) → Known later stood seen
    → Turned end (state (marks_from at (close_chars (name_of e) cs)) (Some e) (drafted request seen range)) cs (parent_of e) request later stood
close_turned end at range e cs request seen later stood content closes ends known = record {
  place = past (past (past at (60 ∷ (47 ∷ []))) (name_of e)) (62 ∷ []);
  range = range;
  seen = seen;
  known = known;
  is = end_turn end at e (drafted request seen range) (name_of e ++ 62 ∷ cs) content
      ∙ end_reads end at e [] (drafted request seen range) (drafted request seen range) cs closes.named closes.same ends;
}

pub close_reads : (end : ℕ) (whole : Request) (e : Element) (rest : List ℕ) (request : Request) (later stood : List Element) → content_of e ≡ Elements → IsClosed e
    → ((at range : ℕ) (seen : List Element) → Known later stood seen → ended e [] at (drafted request seen range) ≡ Ok (drafted request seen range))
    → Reads end whole rest (parent_of e) request later stood → Reads end whole (closed (name_of e) ++ rest) (Some e) request later stood
close_reads end whole e rest request later stood content closes ends h =
    reads_on end whole (closed (name_of e) ++ rest) rest (close_chars (name_of e) (chars rest)) e (parent_of e) request request later stood later stood
    (closed_chars (name_of e) rest closes.named.ascii) (omega (arith, length-append (name_of e) (62 ∷ chars rest)))
    (λ at range seen known. close_turned end at range e (chars rest) request seen later stood content closes (ends at range seen known) known) h

-- ---- words

words_turned : (end at range : ℕ) (e : Element) (cs more : List ℕ) (request next : Request) (seen later stood : List Element) → content_of e ≡ Words → IsClosed e
    → list_all is_xml_char cs ≡ true
    → ((text : List Mark) (at : ℕ) → letters_of text ≡ cs → ended e text at (drafted request seen range) ≡ Ok (drafted next seen range)) → Known later stood seen
    → Turned end (state (marks_from at (letters cs ++ close_chars (name_of e) more)) (Some e) (drafted request seen range)) more (parent_of e) next later stood
words_turned end at range e cs more request next seen later stood content closes xml ends known =
    let behind = past at (letters cs) in
    record {
      place = past (past (past behind (60 ∷ (47 ∷ []))) (name_of e)) (62 ∷ []);
      range = range;
      seen = seen;
      known = known;
      is = text_turns end at e cs (47 ∷ (name_of e ++ 62 ∷ more)) (drafted request seen range) content xml
          ∙ end_reads end behind e (texts at cs) (drafted request seen range) (drafted next seen range) more closes.named closes.same (ends (texts at cs) behind (texts_are at cs));
    }

-- the text of an element, with its end tag
pub words_read : (end : ℕ) (whole : Request) (e : Element) (text rest : List ℕ) (request next : Request) (later stood : List Element) → content_of e ≡ Words → IsClosed e
    → IsXmlText text
    → ((words : List Mark) (at range : ℕ) (seen : List Element) → letters_of words ≡ chars text → ended e words at (drafted request seen range) ≡ Ok (drafted next seen range))
    → Reads end whole rest (parent_of e) next later stood → Reads end whole (escaped text ++ (closed (name_of e) ++ rest)) (Some e) request later stood
words_read end whole e text rest request next later stood content closes xml ends h =
    reads_on end whole (escaped text ++ (closed (name_of e) ++ rest)) rest (letters (chars text) ++ close_chars (name_of e) (chars rest)) e (parent_of e) request next later stood later stood
    (escaped_chars text (closed (name_of e) ++ rest) xml ∙ ap (λ (t : List ℕ). letters (chars text) ++ t) (closed_chars (name_of e) rest closes.named.ascii))
    (omega (arith, length-append (letters (chars text)) (close_chars (name_of e) (chars rest)), length-append (name_of e) (62 ∷ chars rest)))
    (λ at range seen known. words_turned end at range e (chars text) (chars rest) request next seen later stood content closes xml.xml
    (λ words place are. ends words place range seen are) known) h
