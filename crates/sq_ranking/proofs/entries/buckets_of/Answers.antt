use Rattle.std.proofs.Common.{rules, ◌≡◌, ℤ, pos, None, to_z, of_z, w64}
use Rattle.std.proofs.lemmas.Int.{to_z-of_z}
use Rattle.std.specs.Prelude.{slice_index_or, FitsSigned}
use Rattle.sq_ranking.specs.Ranking.{buckets}
use Rattle.sq_ranking.proofs.CountLemmas.{bucket_step}
use Rattle.sq_ranking.proofs.entries.buckets_of.Goals as goal

pub loop-bound-preserved : goal.loop-bound-preserved
loop-bound-preserved c =
    let bounds = c.args.bounds.now in
    let bound : ℤ = slice_index_or bounds c.loop-bound.bound-index (pos 0) in
    let fits : FitsSigned w64 bound = search rules in
    let same : to_z w64 (of_z w64 bound) ≡ bound = to_z-of_z w64 bound fits in
    let step = bucket_step c.args.hits.now c.loop-bound.found (buckets c.args.hits.now None bounds) c.loop-bound.from bounds c.loop-bound.bound-index (pos 0) c.loop-bound-test.true c.loop-bound.invariant in
    let pushed = c.in_ok-push.ensures.ok in
    let made = c.bucket_of.ensures in
    cc (same, step, pushed, made)
