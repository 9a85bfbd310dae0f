use Rattle.std.proofs.Common.{sym, arith, length-take}
use Rattle.std.proofs.lemmas.List.{take_all}
use Rattle.sq_http.proofs.reading.front.Goals as goal

pub slice_bounds-result-end : goal.slice_bounds-result-end
slice_bounds-result-end c = omega (arith, length-take 8192 c.args.bytes.now, c.if-bytes-gt-MOST_HEAD_BYTES.true)

pub returns-else-bytes-gt-MOST_HEAD_BYTES : goal.returns-else-bytes-gt-MOST_HEAD_BYTES
returns-else-bytes-gt-MOST_HEAD_BYTES c = sym (take_all 8192 c.args.bytes.now (omega (arith, c.if-bytes-gt-MOST_HEAD_BYTES.false)))
