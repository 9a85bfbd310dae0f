use Rattle.std.proofs.Common.{◌<◌, sym, ap, ◌∙◌, arith, List, ℕ, codes, length, length-drop, ◌+◌}
use Rattle.sq_http.specs.Owed.{is_word, closes_by}
use Rattle.std.proofs.lemmas.List.{take_rest}
use Rattle.sq_http.proofs.FieldsLemmas.{closes_here, closes_not, closes_on}
use Rattle.sq_http.proofs.fields.closes_by.Goals as goal

pub returns-then-is_word : goal.returns-then-is_word
returns-then-is_word c =
    let hit = sym (ap (λ (t : List ℕ). is_word (codes "close") t) c.trim_ows.ensures) ∙ (sym c.is_word.ensures ∙ c.if-is_word.true) in
    sym (sym c.members.invariant.same ∙ closes_here c.members.rest.now _ c.member_end-end.ensures.value hit)

pub returns-then-end-rest : goal.returns-then-end-rest
returns-then-end-rest c =
    let miss = sym (ap (λ (t : List ℕ). is_word (codes "close") t) c.trim_ows.ensures) ∙ (sym c.is_word.ensures ∙ c.if-is_word.false) in
    sym (sym c.members.invariant.same ∙ closes_not c.members.rest.now _ c.member_end-end.ensures.value miss c.if-end-rest.true)

pub members-preserved : goal.members-preserved
members-preserved c =
    let miss = sym (ap (λ (t : List ℕ). is_word (codes "close") t) c.trim_ows.ensures) ∙ (sym c.is_word.ensures ∙ c.if-is_word.false) in
    let more : c.member_end-end.result < length c.members.rest.now = omega (arith, c.member_end-end.ensures.within, c.if-end-rest.false) in
    let left = take_rest c.members.rest.now (c.member_end-end.result + 1) in
    record {
      same = ap closes_by left ∙ (sym (closes_on c.members.rest.now _ c.member_end-end.ensures.value miss more) ∙ c.members.invariant.same);
      within = omega (arith, ap length left, length-drop (c.member_end-end.result + 1) c.members.rest.now, c.members.invariant.within);
    }
