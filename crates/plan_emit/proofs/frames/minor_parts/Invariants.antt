use Rattle.std.proofs.Common.{◌≡◌, map, take}
use Rattle.plan_emit.specs.Emitted.{minor_part}
use Rattle.plan_emit.proofs.frames.minor_parts.Given as goal

abbrev pub invariant-loop-frame : goal.invariant-loop-frame
invariant-loop-frame l = l.parts ≡ map minor_part (take l.frame-index l.frames)
