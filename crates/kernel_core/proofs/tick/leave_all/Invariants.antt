use Rattle.std.proofs.Common.{◌≡◌, length}
use Rattle.muen_num.specs.Range.{numbers_below}
use Rattle.kernel_core.specs.Ticks.{all_left}
use Rattle.kernel_core.proofs.tick.leave_all.Given as goal

-- the CPUs so far
abbrev pub invariant-loop-cpu : goal.invariant-loop-cpu
invariant-loop-cpu g l = record {
  machine : l.machine ≡ all_left (numbers_below l.cpu) l.fn.machine;
  cpus : length l.machine.cpus ≡ length l.fn.machine.cpus;
}
