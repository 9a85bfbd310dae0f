use Rattle.std.proofs.Common.{nat_eq, [], ◌∷◌, ◌++◌, sym, ap, ◌∙◌}
use Rattle.std.specs.Option.{unwrap_or}
use Rattle.indexmap.specs.IndexMap.{insert_entry}
use Rattle.sq_lower.proofs.Groups.{set_present}
use Rattle.sq_lower.proofs.runs.restrict.Goals as goal

pub returns-in-Some : goal.returns-in-Some
returns-in-Some c =
    let entries = c.args.restrictions.now.entries in
    let written = c.get_mut.follows.holds c.push.new.self in
    written.0
    ∙ (set_present entries c.args.property c.in-Some.forms.now c.push.new.self (sym c.in-Some.ensures.value)
    ∙ ap (insert_entry nat_eq entries c.args.property)
    (c.in_ok-push.ensures.ok ∙ ap (λ found. unwrap_or found [] ++ c.args.form ∷ []) c.in-Some.ensures.value))
