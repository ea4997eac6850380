use Rattle.std.proofs.Common.{ℕ, ◌<◌}
use Rattle.image_checks.proofs.devices.first_other.Given as goal
use Rattle.image_checks.specs.PlanFault.{AgreesAt}
use Rattle.image_soundness.specs.Sound.{IsDeviceOf}
use Rattle.policy_lawful.specs.Resolution.{source_of}

abbrev pub invariant-loop-index : goal.invariant-loop-index
invariant-loop-index l = (j : ℕ) → j < l.index → AgreesAt (IsDeviceOf (source_of l.lawful) l.image) l.lawful.devices l.image.devices j
