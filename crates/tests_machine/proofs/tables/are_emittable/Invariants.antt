use Rattle.std.proofs.Common.{ℕ, ◌<◌, get_or}
use Rattle.ept_emit.specs.declared.window.Window.{Window}
use Rattle.ept_emit.specs.Entries.{IsEmittable}
use Rattle.tests_machine.proofs.tables.are_emittable.Given as goal

-- the windows so far may be emitted
abbrev pub invariant-loop-window : goal.invariant-loop-window
invariant-loop-window l = (k : ℕ) (d : Window) → k < l.window-index → IsEmittable (get_or l.windows k d)
