-- What is known while the windows are gone through.
use Rattle.std.proofs.Common.{◌≡◌, map, take}
use Rattle.subject_emit.specs.Mapped.{mapped}
use Rattle.subject_emit.proofs.mapped.mapped_windows.Given as goal

abbrev pub invariant-loop-window : goal.invariant-loop-window
invariant-loop-window l = l.windows.items ≡ map (mapped l.placed) (take l.window-index l.granted)
