use Rattle.std.proofs.Common.{◌≡◌, map}
use Rattle.muen_num.specs.Range.{numbers_below}
use Rattle.plan_emit.specs.Emitted.{cpu_part}
use Rattle.plan_emit.proofs.frames.cpu_parts.Given as goal

abbrev pub invariant-loop-cpu : goal.invariant-loop-cpu
invariant-loop-cpu l = l.parts ≡ map (cpu_part l.entries) (numbers_below l.cpu)
