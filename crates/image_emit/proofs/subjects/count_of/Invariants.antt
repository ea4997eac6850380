-- What is known while the grants are gone through.
use Rattle.std.proofs.Common.{◌≡◌, take}
use Rattle.msrbm_emit.specs.Area.{msr_count}
use Rattle.image_emit.proofs.subjects.count_of.Given as goal

abbrev pub invariant-loop-grant : goal.invariant-loop-grant
invariant-loop-grant l = l.count ≡ msr_count (take l.grant-index l.msrs)
