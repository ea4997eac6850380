use Rattle.std.proofs.Common.{arith, refl, rules}
use Rattle.map_report.specs.ByNumber.{granted_line}
use Rattle.muen_outside.proofs.Buffered.{item_exit}
use Rattle.map_report.proofs.report.put_windows.Goals as goal

pub returns-in_err-put_window : goal.returns-in_err-put_window
returns-in_err-put_window g c = (
  search rules,
  item_exit (granted_line c.args.policy.now c.args.subject) c.args.windows.now c.loop-window.window-index _ _ _ _ _ _ c.from_residual.ensures.0 c.loop-window.invariant.1 c.in_err-put_window.ensures.1 (omega arith) refl,
)
