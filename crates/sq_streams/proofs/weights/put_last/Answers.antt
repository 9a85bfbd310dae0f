use Rattle.std.proofs.Common.{ℕ, ◌≡◌, arith, rules, not}
use Rattle.std.specs.Prelude.{nat_eq, filter}
use Rattle.std.proofs.lemmas.Fn.{filter_same}
use Rattle.std.proofs.lemmas.Grind.{common_steps}
use Rattle.sq_streams.proofs.weights.put_last.Goals as goal

pub returns : goal.returns
returns c =
    let kept : c.retain.new.self.items ≡ filter (λ (m : ℕ). not (nat_eq m c.args.weight)) c.args.found.now.items =
    filter_same _ (λ (m : ℕ). not (nat_eq m c.args.weight)) _ (λ x b f' k. search rules) _ _ c.retain.ensures.filtered in
    grind (arith, common_steps, kept)
