use Rattle.std.proofs.Common.{◌≡◌, ℕ, Bool, not, take}
use Rattle.machine_layout.specs.Exits.{msr_exits}
use Rattle.policy_types.specs.MsrGrants.{is_granted}
use Rattle.msrbm_emit.proofs.bitmap.emit.Given as goal

-- what exits is all but what the grants so far allow
abbrev pub invariant-loop-grant : goal.invariant-loop-grant
invariant-loop-grant l =
    (index : ℕ) (write : Bool) → msr_exits l.bitmap index write ≡ not (is_granted (take l.grant-index l.msrs) index write)
