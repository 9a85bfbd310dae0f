use Rattle.std.proofs.Common.{◌≡◌, ◌++◌, drop}
use Rattle.std.specs.List.{filter, filter_map, reduce}
use Rattle.sq_model.specs.Triples.{join, keeps_order, is_near, near}
use Rattle.sq_slow.proofs.near.near.Given as goal

abbrev pub invariant-loop-chosen : goal.invariant-loop-chosen
invariant-loop-chosen l =
    l.found ++ filter (is_near l.n) (filter_map (reduce join) (filter (keeps_order l.ordered) (drop l.chosen-index l.chosen-items))) ≡ near l.n l.ordered l.parts
