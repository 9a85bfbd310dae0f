use Rattle.std.proofs.Common.{refl}
use Rattle.sq_engine.specs.Query.{Fql, query_of}
use Rattle.sq_engine.proofs.QueryLemmas.{means_itself}
use Rattle.sq_engine.proofs.query.tree_of_fql.Goals as goal

pub returns-in-Ok-type_fql-clause-means : goal.returns-in-Ok-type_fql-clause-means
unfolding query_of
returns-in-Ok-type_fql-clause-means c =
    (Fql c.in-Ok-type_fql.tree, rw (c.in-Ok.ensures.value, c.in-Ok-type_fql.ensures.typed) refl, means_itself c.args.schema.now c.args.side c.in-Ok-type_fql.tree)
