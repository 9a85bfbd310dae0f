use Rattle.std.proofs.Common.{◌≡◌, drop}
use Rattle.sq_http.specs.Fields.{values_at}
use Rattle.sq_http.proofs.fields.next_value.Given as goal

abbrev pub invariant-headers : goal.invariant-headers
invariant-headers l = values_at l.name l.head (drop l.i l.headers) ≡ values_at l.name l.head (drop l.from l.headers)
