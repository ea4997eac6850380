use Rattle.std.proofs.Common.{arith, rules}
use Rattle.muen_run.proofs.RunSteps.{tick_exit}
use Rattle.muen_run.proofs.turns.put_ticks.Goals as goal

pub returns-in_err-put_tick-clause-lines : goal.returns-in_err-put_tick-clause-lines
returns-in_err-put_tick-clause-lines g c =
    (search rules, tick_exit c.args.kernel.now c.loop-tick._tick c.args.end c.loop-tick.kernel _ _ _ _ c.from_residual.ensures.0 (omega arith) c.loop-tick.invariant.state c.loop-tick.invariant.text.1 c.in_err-put_tick.ensures.lines.1)
