use Rattle.std.proofs.Common.{◌≡◌, ◌≤◌, length}
use Rattle.sq_http.specs.Owed as spec
use Rattle.sq_http.proofs.fields.closes_by.Given as goal

abbrev pub invariant-members : goal.invariant-members
invariant-members l = record {
  same : spec.closes_by l.rest ≡ spec.closes_by l.value;
  within : length l.rest ≤ length l.value;
}

abbrev pub decreases-members : goal.decreases-members
decreases-members l = length l.rest
