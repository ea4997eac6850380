use Rattle.std.proofs.Common.{arith, rules}
use Rattle.muen_run.proofs.RunSteps.{turn_exit}
use Rattle.muen_run.proofs.turns.put_turns.Goals as goal

pub returns-in_err-put_line-clause-lines : goal.returns-in_err-put_line-clause-lines
returns-in_err-put_line-clause-lines g c =
    (search rules, turn_exit c.args.kernel.now c.loop-index.index c.loop-index.kernel c.turn_at-line.result _ _ _ _ c.from_residual.ensures.0 (omega arith) c.loop-index.invariant.state c.turn_at-line.ensures.line c.loop-index.invariant.text.1 c.in_err-put_line.ensures.1)
