use Rattle.std.proofs.Common.{arith, rules}
use Rattle.muen_outside.proofs.Buffered.{item_exit}
use Rattle.muen_outside.proofs.buffered_sink.BufferedSink.put_lines.Goals as goal

pub returns-in_err-put_line : goal.returns-in_err-put_line
returns-in_err-put_line g c =
    (search rules, item_exit g.L.PrintedLine.text _ _ c.line-item.result _ _ _ _ _ c.from_residual.ensures.0 c.loop-line.invariant.1 c.in_err-put_line.ensures.1 (omega arith) (cc))
