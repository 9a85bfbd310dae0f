use Rattle.sq_build.proofs.TermLemmas.{sorted_rise, sorted_lists, sorted_whole}
use Rattle.sq_build.proofs.terms.sorted_terms.Goals as goal

pub returns-clause-rise : goal.returns-clause-rise
returns-clause-rise c =
    sorted_rise c.args.property c.args.ids c.in_ok-terms.terms.items c.sort.new.terms.items c.terms_in.ensures.unique c.in_ok-terms.ensures.terms c.sort.ensures.permutation c.sort.ensures.sorted

pub returns-clause-lists : goal.returns-clause-lists
returns-clause-lists c =
    sorted_lists c.args.property c.args.ids c.in_ok-terms.terms.items c.sort.new.terms.items c.terms_in.ensures.unique c.in_ok-terms.ensures.terms c.sort.ensures.permutation

pub returns-clause-whole : goal.returns-clause-whole
returns-clause-whole c =
    sorted_whole c.args.property c.args.ids c.in_ok-terms.terms.items c.sort.new.terms.items c.in_ok-terms.ensures.terms c.sort.ensures.permutation
