use Rattle.std.proofs.Common.{drop}
use Rattle.sq_model.specs.KqlCopies.{weights, copies}
use Rattle.sq_typing.specs.Forms.{is_filled}
use Rattle.sq_typing.proofs.CountLemmas.{Counted}
use Rattle.sq_typing.proofs.copies.+forms.Given as goal

abbrev pub invariant-forms_of_some-loop-part : goal.invariant-forms_of_some-loop-part
invariant-forms_of_some-loop-part l = Counted weights copies is_filled l.weights.items l.greatest (drop l.part-index l.parts) l.parts
