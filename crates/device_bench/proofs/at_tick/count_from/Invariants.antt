use Rattle.std.proofs.Common.{length, ◌-◌}
use Rattle.device_bench.specs.Before.{StandBefore}
use Rattle.device_bench.proofs.at_tick.count_from.Given as goal

abbrev pub invariant-loop-count : goal.invariant-loop-count
invariant-loop-count g l = StandBefore g.T.Ticked.tick l.tick l.items l.count

abbrev pub decreases-loop-count : goal.decreases-loop-count
decreases-loop-count g l = length l.items - l.count
