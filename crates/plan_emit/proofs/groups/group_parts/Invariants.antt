use Rattle.std.proofs.Common.{◌≡◌, map, take}
use Rattle.plan_emit.specs.Emitted.{group_part}
use Rattle.plan_emit.proofs.groups.group_parts.Given as goal

abbrev pub invariant-loop-group : goal.invariant-loop-group
invariant-loop-group l = l.parts ≡ map group_part (take l.group-index l.groups)
