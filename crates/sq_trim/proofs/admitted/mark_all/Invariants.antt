use Rattle.std.proofs.Common.{◌≡◌, ◌+◌, ◌≤◌, not, map, drop}
use Rattle.sq_trim.specs.Flags.{marked_all}
use Rattle.sq_trim.specs.Trimmed.{claim_rows, claim_entries}
use Rattle.sq_trim.proofs.admitted.mark_all.Given as goal

abbrev pub invariant-loop-claim : goal.invariant-loop-claim
invariant-loop-claim g l = record {
  flags : marked_all (not l.denied) (map (claim_rows l.index l.denied) (drop l.claim-index l.claims)) l.flags ≡ marked_all (not l.denied) (map (claim_rows l.index l.denied) l.claims) l.fn.flags;
  cost : l.steps + claim_entries l.index l.denied (drop l.claim-index l.claims) ≤ l.fn.steps + claim_entries l.index l.denied l.claims;
}
