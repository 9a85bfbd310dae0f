use Rattle.std.proofs.Common.{rules}
use Rattle.std.proofs.lemmas.Fn.{always_returns_same}
use Rattle.std.specs.Prelude.{int_le}
use Rattle.sq_collect.proofs.CountLemmas.{front_place, marks_parted}
use Rattle.sq_collect.proofs.counts.place_of.Goals as goal

pub returns-clause-place : goal.returns-clause-place
returns-clause-place c =
    let number = c.args.number in
    front_place number c.args.marks.now c.partition_point.result c.partition_point.ensures.bound
    (c.partition_point.ensures.partitioned (λ y. int_le y number) (always_returns_same _ _ _ (λ a r g h. search rules)) (marks_parted number c.args.marks.now c.requires))
