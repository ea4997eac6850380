use Rattle.std.proofs.Common.{◌≡◌, map, take}
use Rattle.plan_emit.specs.Emitted.{major_part}
use Rattle.plan_emit.proofs.frames.major_parts.Given as goal

abbrev pub invariant-loop-frame : goal.invariant-loop-frame
invariant-loop-frame l = l.parts ≡ map (major_part l.count) (take l.frame-index l.frames)
