-- Loops whose number of turns bounds a definition: one turn, and where the loop ends.
use Rattle.std.proofs.Common.{◌≡◌, ℕ, zero, suc, ◌-◌, ◌<◌, ◌≤◌, ◌∙◌, Bool, true, false, if◌then◌else◌, List, [], ◌∷◌, ◌++◌, Option, Some, None, Ok, Err, refl, sym, ap, append_assoc, append-nil, arith}
use Rattle.sq_base.specs.declared.faults.QueryFault.{QueryFault}
use Rattle.sq_base.specs.Outcome.{Outcome, ◌>>=◌}
use Rattle.sq_packet.specs.declared.fault.PacketFault.{PacketFault}
use Rattle.sq_packet.specs.declared.fault.PacketFault.TheVariants as faults
use Rattle.sq_packet.specs.declared.mark.Mark.{Mark}
use Rattle.sq_packet.specs.declared.element.Element.{Element}
use Rattle.sq_packet.specs.declared.draft.Draft.{Draft}
use Rattle.sq_packet.specs.declared.draft.Tag.{Tag}
use Rattle.sq_packet.specs.declared.draft.Attribute.{Attribute}
use Rattle.sq_packet.specs.Gives.{Fails}
use Rattle.sq_packet.specs.Marks.{misfit, skip_blanks}
use Rattle.sq_packet.specs.Texts.{next_character, onto_text, text_by, text_until}
use Rattle.sq_packet.specs.Packet.{State, next_attribute, attributes_by, with_attribute, attributes, is_done, turn, read_on}

-- ---- texts

text_turn : (turns end stop : ℕ) (ms : List Mark) → 0 < turns → text_until turns end stop ms ≡ (next_character end stop ms >>= text_by (text_until (turns - 1) end stop) ms)
unfolding text_until
text_turn zero end stop ms some = absurd (omega arith)
text_turn (suc n) end stop ms some = let e : suc n - 1 ≡ n = omega arith in rw e refl

onto_onto : (front more : List Mark) (o : Outcome (List Mark × List Mark)) → onto_text (front ++ more) o ≡ onto_text front (onto_text more o)
onto_onto front more (Ok (text, rest)) = ap (λ (xs : List Mark). Ok (xs, rest)) (append_assoc front more text)
onto_onto front more (Err fault) = refl

pub text_fails : (e : PacketFault) (turns end stop : ℕ) (front ms : List Mark) (whole : Outcome (List Mark × List Mark)) → 0 < turns
    → Fails e (next_character end stop ms) → onto_text front (text_until turns end stop ms) ≡ whole → Fails e whole
text_fails faults.NoMemory turns end stop front ms whole some failed kept = tt
text_fails (faults.Packet fault) turns end stop front ms whole some failed kept =
    sym kept ∙ ap (onto_text front) (text_turn turns end stop ms some ∙ ap (λ (o : Outcome (Option (Mark × List Mark))). o >>= text_by (text_until (turns - 1) end stop) ms) failed)

pub text_ends : (turns end stop : ℕ) (front ms : List Mark) (whole : Outcome (List Mark × List Mark)) → 0 < turns
    → next_character end stop ms ≡ Ok None → onto_text front (text_until turns end stop ms) ≡ whole → whole ≡ Ok (front, ms)
text_ends turns end stop front ms whole some ended kept =
    sym kept ∙ (ap (onto_text front) (text_turn turns end stop ms some ∙ ap (λ (o : Outcome (Option (Mark × List Mark))). o >>= text_by (text_until (turns - 1) end stop) ms) ended)
    ∙ ap (λ (xs : List Mark). Ok (xs, ms)) (append-nil front))

pub text_goes : (turns end stop : ℕ) (front ms : List Mark) (one : Mark) (rest : List Mark) (whole : Outcome (List Mark × List Mark)) → 0 < turns
    → next_character end stop ms ≡ Ok (Some (one, rest)) → onto_text front (text_until turns end stop ms) ≡ whole
    → onto_text (front ++ one ∷ []) (text_until (turns - 1) end stop rest) ≡ whole
text_goes turns end stop front ms one rest whole some next kept =
    onto_onto front (one ∷ []) (text_until (turns - 1) end stop rest)
    ∙ (sym (ap (onto_text front) (text_turn turns end stop ms some ∙ ap (λ (o : Outcome (Option (Mark × List Mark))). o >>= text_by (text_until (turns - 1) end stop) ms) next)) ∙ kept)

pub text_over : (turns end stop : ℕ) (front ms : List Mark) (whole : Outcome (List Mark × List Mark)) → turns ≤ 0
    → onto_text front (text_until turns end stop ms) ≡ whole → whole ≡ misfit end ms
unfolding text_until
text_over zero end stop front ms whole none kept = sym kept
text_over (suc n) end stop front ms whole none kept = absurd (omega arith)

-- ---- attributes

attributes_turn : (turns end : ℕ) (e : Element) (names : List (List ℕ)) (tag : Tag) (ms : List Mark) → 0 < turns
    → attributes turns end e names tag ms ≡ (next_attribute end names ms >>= attributes_by (attributes (turns - 1) end e) e names tag ms)
unfolding attributes
attributes_turn zero end e names tag ms some = absurd (omega arith)
attributes_turn (suc n) end e names tag ms some = let same : suc n - 1 ≡ n = omega arith in rw same refl

-- the turn, where it is known what the front is
attributes_at : (turns end : ℕ) (e : Element) (names : List (List ℕ)) (tag : Tag) (ms : List Mark) (o : Outcome (Option (Attribute × List Mark))) → 0 < turns
    → next_attribute end names ms ≡ o → attributes turns end e names tag ms ≡ (o >>= attributes_by (attributes (turns - 1) end e) e names tag ms)
attributes_at turns end e names tag ms o some is =
    attributes_turn turns end e names tag ms some
    ∙ ap (λ (x : Outcome (Option (Attribute × List Mark))). x >>= attributes_by (attributes (turns - 1) end e) e names tag ms) is

pub attributes_fails : (x : PacketFault) (turns end : ℕ) (e : Element) (names : List (List ℕ)) (tag : Tag) (ms : List Mark) (whole : Outcome (Tag × List Mark)) → 0 < turns
    → Fails x (next_attribute end names ms) → attributes turns end e names tag ms ≡ whole → Fails x whole
attributes_fails faults.NoMemory turns end e names tag ms whole some failed kept = tt
attributes_fails (faults.Packet fault) turns end e names tag ms whole some failed kept = sym kept ∙ attributes_at turns end e names tag ms (Err fault) some failed

pub attributes_refuses : (turns end : ℕ) (e : Element) (names : List (List ℕ)) (tag : Tag) (ms : List Mark) (a : Attribute) (rest : List Mark) (fault : QueryFault)
    (whole : Outcome (Tag × List Mark)) → 0 < turns → next_attribute end names ms ≡ Ok (Some (a, rest)) → with_attribute e a tag ≡ Err fault
    → attributes turns end e names tag ms ≡ whole → whole ≡ Err fault
attributes_refuses turns end e names tag ms a rest fault whole some next refused kept =
    sym kept ∙ (attributes_at turns end e names tag ms (Ok (Some (a, rest))) some next
    ∙ ap (λ (o : Outcome Tag). o >>= (λ after. attributes (turns - 1) end e (names ++ a.name ∷ []) after rest)) refused)

pub attributes_ends : (turns end : ℕ) (e : Element) (names : List (List ℕ)) (tag : Tag) (ms : List Mark) (whole : Outcome (Tag × List Mark)) → 0 < turns
    → next_attribute end names ms ≡ Ok None → attributes turns end e names tag ms ≡ whole → whole ≡ Ok (tag, skip_blanks ms)
attributes_ends turns end e names tag ms whole some ended kept = sym kept ∙ attributes_at turns end e names tag ms (Ok None) some ended

pub attributes_goes : (turns end : ℕ) (e : Element) (names : List (List ℕ)) (tag after : Tag) (ms : List Mark) (a : Attribute) (rest : List Mark)
    (whole : Outcome (Tag × List Mark)) → 0 < turns → next_attribute end names ms ≡ Ok (Some (a, rest)) → with_attribute e a tag ≡ Ok after
    → attributes turns end e names tag ms ≡ whole → attributes (turns - 1) end e (names ++ a.name ∷ []) after rest ≡ whole
attributes_goes turns end e names tag after ms a rest whole some next said kept =
    sym (attributes_at turns end e names tag ms (Ok (Some (a, rest))) some next
    ∙ ap (λ (o : Outcome Tag). o >>= (λ (t : Tag). attributes (turns - 1) end e (names ++ a.name ∷ []) t rest)) said) ∙ kept

pub attributes_over : (turns end : ℕ) (e : Element) (names : List (List ℕ)) (tag : Tag) (ms : List Mark) (whole : Outcome (Tag × List Mark)) → turns ≤ 0
    → attributes turns end e names tag ms ≡ whole → whole ≡ misfit end ms
unfolding attributes
attributes_over zero end e names tag ms whole none kept = sym kept
attributes_over (suc n) end e names tag ms whole none kept = absurd (omega arith)

-- ---- the packet

read_turn : (turns end : ℕ) (s : State) → 0 < turns
    → read_on turns end s ≡ (if is_done s then Ok s.draft else (turn end s >>= read_on (turns - 1) end))
unfolding read_on
read_turn zero end s some = absurd (omega arith)
read_turn (suc n) end s some = let same : suc n - 1 ≡ n = omega arith in rw same refl

pub read_done : (turns end : ℕ) (s : State) (whole : Outcome Draft) → 0 < turns → is_done s ≡ true → read_on turns end s ≡ whole → whole ≡ Ok s.draft
read_done turns end s whole some done kept =
    sym kept ∙ (read_turn turns end s some ∙ ap (λ (b : Bool). if b then Ok s.draft else (turn end s >>= read_on (turns - 1) end)) done)

on_turn : (turns end : ℕ) (s : State) (o : Outcome State) → 0 < turns → is_done s ≡ false → turn end s ≡ o → read_on turns end s ≡ (o >>= read_on (turns - 1) end)
on_turn turns end s o some more is =
    read_turn turns end s some
    ∙ (ap (λ (b : Bool). if b then Ok s.draft else (turn end s >>= read_on (turns - 1) end)) more ∙ ap (λ (x : Outcome State). x >>= read_on (turns - 1) end) is)

pub read_goes : (turns end : ℕ) (s next : State) (whole : Outcome Draft) → 0 < turns → is_done s ≡ false → turn end s ≡ Ok next → read_on turns end s ≡ whole
    → read_on (turns - 1) end next ≡ whole
read_goes turns end s next whole some more is kept = sym (on_turn turns end s (Ok next) some more is) ∙ kept

pub read_fails : (e : PacketFault) (turns end : ℕ) (s : State) (whole : Outcome Draft) → 0 < turns → is_done s ≡ false → Fails e (turn end s) → read_on turns end s ≡ whole
    → Fails e whole
read_fails faults.NoMemory turns end s whole some more failed kept = tt
read_fails (faults.Packet fault) turns end s whole some more failed kept = sym kept ∙ on_turn turns end s (Err fault) some more failed

pub read_over : (turns end : ℕ) (s : State) (whole : Outcome Draft) → turns ≤ 0 → read_on turns end s ≡ whole → whole ≡ misfit end s.rest
unfolding read_on
read_over zero end s whole none kept = sym kept
read_over (suc n) end s whole none kept = absurd (omega arith)
