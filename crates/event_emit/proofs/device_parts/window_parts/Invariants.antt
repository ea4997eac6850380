use Rattle.std.proofs.Common.{◌≡◌, ◌+◌, map}
use Rattle.event_emit.proofs.device_parts.window_parts.Given as goal
use Rattle.muen_num.specs.Range.{numbers_below}

abbrev pub invariant-loop-k : goal.invariant-loop-k
invariant-loop-k l = l.parts ≡ map (λ k. record { span = l.first + k }) (numbers_below l.k)
