use Rattle.std.proofs.Common.{rules, SFits, w64, to_z-of_z, ap, sym, ◌∙◌, Ok}
use Rattle.sq_base.specs.Outcome.{◌>>=◌}
use Rattle.sq_typing.specs.Fql.{fql_typed}
use Rattle.sq_lower.specs.Lowered.{lowered}
use Rattle.sq_engine.specs.Query.{Kql, query_of, tree_of}
use Rattle.sq_engine.proofs.QueryLemmas.{means_kql}
use Rattle.sq_engine.proofs.query.tree_of_kql.Goals as goal

pub returns-in-Ok-type_fql-clause-tree : goal.returns-in-Ok-type_fql-clause-tree
unfolding tree_of
returns-in-Ok-type_fql-clause-tree c =
    let fits : SFits w64 c.args.now = search rules in
    let typed = simp to_z-of_z at c.in-Ok.ensures.typed in
    ap (λ outcome. outcome >>= (λ tree. fql_typed c.args.schema.now (lowered c.args.schema.now c.args.side tree))) typed
    ∙ (ap (fql_typed c.args.schema.now) (sym c.in-Ok-lower.ensures.value) ∙ c.in-Ok-type_fql.ensures.typed)

pub returns-in-Ok-type_fql-clause-means : goal.returns-in-Ok-type_fql-clause-means
unfolding query_of
returns-in-Ok-type_fql-clause-means c =
    let fits : SFits w64 c.args.now = search rules in
    let typed = simp to_z-of_z at c.in-Ok.ensures.typed in (
      Kql c.in-Ok.tree,
      ap (λ outcome. outcome >>= (λ tree. Ok (Kql tree))) typed,
      means_kql c.lowering_keeps_meaning.ensures c.args.schema.now c.args.side c.in-Ok.tree c.in-Ok-type_fql.tree c.len.ensures.good c.in-Ok.ensures.sound
          (ap (fql_typed c.args.schema.now) (sym c.in-Ok-lower.ensures.value) ∙ c.in-Ok-type_fql.ensures.typed),
    )
