use Rattle.std.proofs.Common.{ap, arith}
use Rattle.muen_outside.proofs.Puts.{failed_line, puts_exit}
use Rattle.lint_top.specs.Lines.{line_of}
use Rattle.lint_top.proofs.lines.put_lines.Goals as goal

pub returns-in_err-put_line : goal.returns-in_err-put_line
returns-in_err-put_line g c =
    puts_exit _ _ _ _ c.from_residual.ensures.0
    (failed_line line_of c.args.refusals.now c.loop-refusal.refusal-index c.refusal-item.result _ _ _ _ c.loop-refusal.invariant c.in_err-put_line.ensures (omega arith) (ap line_of c.refusal-item.is))
