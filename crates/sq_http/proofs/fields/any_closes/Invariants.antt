use Rattle.std.proofs.Common.{◌≡◌, ◌≤◌, ◌-◌, length, drop, codes}
use Rattle.std.specs.List.{list_any}
use Rattle.sq_http.specs.Fields.{values_at}
use Rattle.sq_http.specs.Owed.{closes_by}
use Rattle.sq_http.proofs.fields.any_closes.Given as goal

abbrev pub invariant-values : goal.invariant-values
invariant-values l = record {
  same : list_any closes_by (values_at (codes "connection") l.head (drop l.from l.headers)) ≡ list_any closes_by (values_at (codes "connection") l.head l.headers);
  from : l.from ≤ length l.headers;
}

abbrev pub decreases-values : goal.decreases-values
decreases-values l = length l.headers - l.from
