use Rattle.std.proofs.Common.{◌≡◌, map, take}
use Rattle.expand_grants.specs.Resources.{msr_grant}
use Rattle.expand_grants.proofs.msrs.msr_grants.Given as goal

abbrev pub invariant-loop-range : goal.invariant-loop-range
invariant-loop-range l = l.grants ≡ map msr_grant (take l.range-index l.ranges)
