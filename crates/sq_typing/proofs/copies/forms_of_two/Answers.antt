use Rattle.std.proofs.Common.{length, arith, subst}
use Rattle.sq_model.specs.KqlCopies.{weights, copies}
use Rattle.sq_typing.specs.Forms.{IsCount}
use Rattle.sq_typing.proofs.CopiesLemmas.{near_bounds, has_weight}
use Rattle.sq_typing.proofs.copies.forms_of_two.Goals as goal

pub returns-in-Many : goal.returns-in-Many
returns-in-Many c a b a_filled b_filled left right =
    let many = subst (IsCount (weights a) (copies a)) c.in-Many.is left in
    let bounds = near_bounds (length (weights a)) (length (weights b)) (copies a) (copies b) (has_weight a a_filled) (has_weight b b_filled) in
    omega (arith, many, bounds.0)

pub returns-in-Many-right : goal.returns-in-Many-right
returns-in-Many-right c a b a_filled b_filled left right =
    let many = subst (IsCount (weights b) (copies b)) c.in-Many-right.is right in
    let bounds = near_bounds (length (weights a)) (length (weights b)) (copies a) (copies b) (has_weight a a_filled) (has_weight b b_filled) in
    omega (arith, many, bounds.1)
