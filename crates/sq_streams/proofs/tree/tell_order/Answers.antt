use Rattle.sq_streams.proofs.TreeLoops.{all_ordered}
use Rattle.sq_streams.proofs.tree.tell_order.Goals as goal

pub returns : goal.returns
returns g c = all_ordered g.C.SpanCursor.left g.met.C.SpanCursor.ordered c.args.streams.now.items
