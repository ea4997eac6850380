use Rattle.std.proofs.Common.{ℕ, ◌<◌}
use Rattle.image_checks.proofs.devices.are_windows.Given as goal
use Rattle.image_checks.specs.Agreement.{IsWindowOf}
use Rattle.image_checks.specs.PlanFault.{AgreesAt}

abbrev pub invariant-loop-index : goal.invariant-loop-index
invariant-loop-index l = (j : ℕ) → j < l.index → AgreesAt (IsWindowOf l.image l.device) l.memories l.windows j
