use Rattle.std.proofs.Common.{◌≡◌, ◌<◌, ℕ}
use Rattle.machine_layout.specs.Exits.{area_value}
use Rattle.image_checks.proofs.areas.are_zeros.Given as goal

-- the values so far are 0
abbrev pub invariant-loop-entry : goal.invariant-loop-entry
invariant-loop-entry l = (n : ℕ) → n < l.entry → area_value l.area n ≡ 0
