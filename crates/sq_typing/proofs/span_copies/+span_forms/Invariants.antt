use Rattle.std.proofs.Common.{drop}
use Rattle.sq_model.specs.Copies.{weights, copies}
use Rattle.sq_typing.specs.SpanForms.{is_filled}
use Rattle.sq_typing.proofs.CountLemmas.{Counted}
use Rattle.sq_typing.proofs.SummedLemmas.{Summed}
use Rattle.sq_typing.proofs.span_copies.+span_forms.Given as goal

abbrev pub invariant-forms_of_some-loop-part : goal.invariant-forms_of_some-loop-part
invariant-forms_of_some-loop-part l = Counted weights copies is_filled l.weights.items l.greatest (drop l.part-index l.parts) l.parts

abbrev pub invariant-forms_of_all-loop-part : goal.invariant-forms_of_all-loop-part
invariant-forms_of_all-loop-part l = Summed l.sums.items l.greatest (drop l.part-index l.parts) l.parts
