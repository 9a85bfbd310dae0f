use Rattle.sq_service.proofs.ServiceLemmas.{is_service}
use Rattle.sq_service.proofs.loader.built.Goals as goal

pub returns : goal.returns
returns c = is_service c.told_is_alike.ensures c.alike_give_one_verdict.ensures c.new.result c.in_ok-of_copy.field-0 c.args.corpus.now c.new.ensures c.in_ok-of_copy.ensures
