use Rattle.sq_coded.proofs.bytes.Bytes.+number.Given as goal

abbrev pub decreases-number : goal.decreases-number
decreases-number l = l.more
