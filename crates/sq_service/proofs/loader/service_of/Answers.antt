use Rattle.sq_service.proofs.ServiceLemmas.{is_service}
use Rattle.sq_service.proofs.loader.service_of.Goals as goal

pub returns : goal.returns
returns c = is_service c.told_is_alike.ensures c.alike_give_one_verdict.ensures c.new.result c.in_ok-of.field-0 c.args.corpus c.new.ensures c.in_ok-of.ensures
