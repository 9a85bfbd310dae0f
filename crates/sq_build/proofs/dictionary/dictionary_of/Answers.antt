use Rattle.std.proofs.Common.{◌≡◌, ◌+◌, ◌≤◌, subst, sym, arith}
use Rattle.sq_build.specs.Dictionary.{AreTerms, lengths_of_property}
use Rattle.sq_build.proofs.DictionaryLemmas.{counted}
use Rattle.sq_build.proofs.StepLemmas.{range_turn, range_end}
use Rattle.sq_build.proofs.dictionary.dictionary_of.Goals as goal

pub loop-property-preserved : goal.loop-property-preserved
loop-property-preserved c =
    let up : c.loop-property.property + 1 ≤ c.args.properties = omega (arith, c.loop-property-test.true) in (
      c.in_ok-add_property.ensures.terms,
      range_turn (lengths_of_property c.args.items.now) c.loop-property.property c.args.properties c.loop-property.lengths c.add_property.new.lengths _
          c.loop-property-test.true c.in_ok-add_property.ensures.lengths c.loop-property.invariant.1,
      up,
    )

pub returns-clause-terms : goal.returns-clause-terms
returns-clause-terms c =
    let items = c.args.items.now in
    let all = c.args.properties in
    let last : c.loop-property.property ≡ all = omega (arith, c.loop-property-test.false, c.loop-property.invariant.2) in
    subst (λ lists. AreTerms items all c.in_ok-terms.terms lists) (sym c.in_ok-lists.ensures)
    (subst (λ terms. AreTerms items all terms c.loop-property.lists) (sym c.in_ok-terms.ensures.0)
    (counted items c.loop-property.property all c.loop-property.terms.items c.loop-property.lists last c.loop-property.invariant.0))

pub returns-clause-lengths : goal.returns-clause-lengths
returns-clause-lengths c =
    range_end (lengths_of_property c.args.items.now) c.loop-property.property c.args.properties c.loop-property.lengths _ c.loop-property-test.false c.loop-property.invariant.1
