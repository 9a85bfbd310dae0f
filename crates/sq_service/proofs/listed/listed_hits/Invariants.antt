use Rattle.std.proofs.Common.{◌≡◌, ◌+◌, ◌≤◌, ◌++◌, drop}
use Rattle.std.specs.Prelude.{sum_by}
use Rattle.std.specs.List.{filter_map}
use Rattle.sq_service.specs.Listed.{listed_by, listed_cost}
use Rattle.sq_service.proofs.listed.listed_hits.Given as goal

abbrev pub invariant-loop-ranked : goal.invariant-loop-ranked
invariant-loop-ranked g l = record {
  listed : l.hits ++ filter_map (listed_by l.held l.properties) (drop l.ranked-index l.page) ≡ filter_map (listed_by l.held l.properties) l.page;
  cost : l.steps + sum_by (listed_cost l.held l.properties) (drop l.ranked-index l.page) ≤ l.fn.steps + sum_by (listed_cost l.held l.properties) l.page;
}
