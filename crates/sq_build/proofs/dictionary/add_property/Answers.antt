use Rattle.std.proofs.Common.{◌≡◌, ◌+◌, ℕ, List, None, length, ap, ◌∙◌, subst, sym, string_bytes}
use Rattle.std.specs.HashMap.{get_by_text}
use Rattle.std.specs.Map.{lookup}
use Rattle.std.specs.Str.{bytes_eq}
use Rattle.std.proofs.lemmas.Option.{none-some}
use Rattle.sq_build.specs.Dictionary.{AreTerms}
use Rattle.sq_build.specs.Gathered.{list_under}
use Rattle.sq_build.proofs.DictionaryLemmas.{one_more}
use Rattle.sq_build.proofs.GatherLemmas.{none_gathered}
use Rattle.sq_build.proofs.dictionary.add_property.Goals as goal

pub add_items-requires-clause-gathered : goal.add_items-requires-clause-gathered
add_items-requires-clause-gathered c =
    let none : (t : List ℕ) → get_by_text c.new-ids.result t ≡ None = λ t. ap (lookup (λ k. bytes_eq t (string_bytes k))) c.new-ids.ensures.empty in
    none_gathered (get_by_text c.new-ids.result) (length c.args.lists.now) none

pub add_items-requires-clause-empty : goal.add_items-requires-clause-empty
add_items-requires-clause-empty c = λ t. ap (λ entries. list_under c.args.lists.now (lookup (λ k. bytes_eq t (string_bytes k)) entries)) c.new-ids.ensures.empty

pub returns-clause-terms : goal.returns-clause-terms
returns-clause-terms c =
    let given = c.in_ok-add_items.ensures in
    subst (λ terms. AreTerms c.args.items.now (c.args.property + 1) terms c.add_items.new.lists) (sym c.in_ok-append.ensures.items)
    (one_more c.args.items.now c.args.property (get_by_text c.add_items.new.ids) c.args.terms.now.items c.in_ok-more.more.items c.args.lists.now c.add_items.new.lists
    c.requires.terms given.gathered given.added given.others.grows
    (λ i l. (given.others.stays i l (λ t e. none-some i (sym (ap (lookup (λ k. bytes_eq t (string_bytes k))) c.new-ids.ensures.empty) ∙ e))).1)
    c.in_ok-more.ensures.rise c.in_ok-more.ensures.lists c.in_ok-more.ensures.whole)
