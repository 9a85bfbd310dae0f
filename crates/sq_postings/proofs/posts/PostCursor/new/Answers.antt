use Rattle.sq_postings.proofs.PostLemmas.{entries_of_list, parts_of_list}
use Rattle.sq_postings.proofs.posts.PostCursor.new.Goals as goal

pub invariant_of-result : goal.invariant_of-result
invariant_of-result c = record { entries = entries_of_list c.args.property c.args.reader c.requires.few c.requires.list }

pub returns-clause-parts : goal.returns-clause-parts
returns-clause-parts c = parts_of_list c.args.property c.args.reader c.requires.list
