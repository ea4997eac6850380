use Rattle.std.proofs.Common.{sym, rules, ◌*◌}
use Rattle.ept_emit.proofs.Found.{on_none, on_here, on_not}
use Rattle.ept_emit.proofs.search.window_on.Goals as goal

pub returns-then-index-windows-clause-value : goal.returns-then-index-windows-clause-value
returns-then-index-windows-clause-value c = rw (sym c.entry_size-bytes.ensures.value) (sym (on_none c.args.windows.now (c.entry_size-bytes.result * c.args.entry) c.entry_size-bytes.result c.windows_before-index.result c.windows_before-index.ensures c.if-index-windows.true))

pub returns-then-window-start-clause-value : goal.returns-then-window-start-clause-value
returns-then-window-start-clause-value c = rw (sym c.entry_size-bytes.ensures.value) (sym (on_here c.args.windows.now (c.entry_size-bytes.result * c.args.entry) c.entry_size-bytes.result c.windows_before-index.result _ c.windows_before-index.ensures (search rules) c.if-window-start.true))

pub returns-else-window-start-clause-value : goal.returns-else-window-start-clause-value
returns-else-window-start-clause-value c = rw (sym c.entry_size-bytes.ensures.value) (sym (on_not c.args.windows.now (c.entry_size-bytes.result * c.args.entry) c.entry_size-bytes.result c.windows_before-index.result _ c.requires.apart c.windows_before-index.ensures (search rules) c.if-window-start.false))
