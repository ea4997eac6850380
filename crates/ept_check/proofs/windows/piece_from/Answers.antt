use Rattle.std.proofs.Common.{arith}
use Rattle.ept_check.proofs.Borders.{all_past, none_apart, none_here, one_apart, one_here, some_window}
use Rattle.ept_check.proofs.windows.piece_from.Goals as goal

pub returns-then-k-windows-clause-window : goal.returns-then-k-windows-clause-window
returns-then-k-windows-clause-window c =
    all_past c.args.windows.now c.requires.apart c.args.addr c.windows_before-k.result c.windows_before-k.ensures c.if-k-windows.true

pub returns-then-addr-window-clause-window : goal.returns-then-addr-window-clause-window
returns-then-addr-window-clause-window c =
    none_here c.args.windows.now c.requires.apart c.args.addr c.windows_before-k.result c.windows_before-k.ensures some_window (omega (arith, c.if-k-windows.false, c.windows_before-k.ensures.within)) c.if-addr-window.true

pub returns-then-addr-window-clause-apart : goal.returns-then-addr-window-clause-apart
returns-then-addr-window-clause-apart c =
    none_apart c.args.windows.now c.requires.apart c.args.addr c.windows_before-k.result c.windows_before-k.ensures some_window c.min.result (omega (arith, c.if-k-windows.false, c.windows_before-k.ensures.within)) (omega (arith, c.min.ensures))

pub returns-clause-window : goal.returns-clause-window
returns-clause-window c =
    one_here c.args.windows.now c.requires.apart c.args.addr c.windows_before-k.result c.windows_before-k.ensures some_window (omega (arith, c.if-k-windows.false, c.windows_before-k.ensures.within)) c.if-addr-window.false

pub returns-clause-apart : goal.returns-clause-apart
returns-clause-apart c =
    one_apart c.args.windows.now c.requires.apart c.args.addr c.windows_before-k.result c.windows_before-k.ensures some_window c.min-2.result (omega (arith, c.if-k-windows.false, c.windows_before-k.ensures.within)) c.if-addr-window.false (omega (arith, c.min-2.ensures))
