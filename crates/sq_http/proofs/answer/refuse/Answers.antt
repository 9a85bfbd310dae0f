use Rattle.std.proofs.Common.{refl}
use Rattle.std.specs.Fmt.{digits}
use Rattle.sq_http.proofs.answer.refuse.Goals as goal

pub send_reply-requires : goal.send_reply-requires
unfolding digits
send_reply-requires g c = refl
