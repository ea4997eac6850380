use Rattle.std.proofs.Common.{◌≡◌, take}
use Rattle.image_checks.specs.Agree.{indices_in}
use Rattle.image_checks.proofs.areas.indices_in.Given as goal

-- those of the grants so far
abbrev pub invariant-loop-grant : goal.invariant-loop-grant
invariant-loop-grant l = l.found.items ≡ indices_in (take l.grant-index l.msrs)
