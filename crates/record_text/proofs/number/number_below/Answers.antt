use Rattle.std.proofs.Common.{arith}
use Rattle.record_text.proofs.Numbers.{range_is}
use Rattle.record_text.proofs.number.number_below.Goals as goal

pub returns-else-n-end-clause-value : goal.returns-else-n-end-clause-value
returns-else-n-end-clause-value c = range_is c.args.end c.args.word.now c.in_ok-n.n (omega (arith, c.ranges.end)) c.in_ok-n.ensures c.if-n-end.false
