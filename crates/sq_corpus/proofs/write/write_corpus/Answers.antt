use Rattle.sq_corpus.proofs.WriteLemmas.{shown_items}
use Rattle.sq_corpus.proofs.write.write_corpus.Goals as goal

pub push_items-requires : goal.push_items-requires
push_items-requires c =
    rw c.as_slice-2.ensures (shown_items c.values_are_shown.ensures c.args.corpus.now.schema c.args.corpus.now.items c.requires.items)
