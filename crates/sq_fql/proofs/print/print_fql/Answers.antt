use Rattle.std.proofs.Common.{rules}
use Rattle.sq_fql.proofs.CanonLawLemmas.{printed_reads_back}
use Rattle.sq_fql.proofs.print.print_fql.Goals as goal

pub returns-clause-reads_back : goal.returns-clause-reads_back
returns-clause-reads_back c = printed_reads_back c.from_str.result c.deref.result.now c.args.tree.now c.from_str.ensures (search rules) c.in_ok-push_tree.ensures.texts
