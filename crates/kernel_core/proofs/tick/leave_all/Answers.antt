use Rattle.std.proofs.Common.{◌∙◌}
use Rattle.kernel_core.proofs.Orders.{left_more}
use Rattle.kernel_core.proofs.tick.leave_all.Goals as goal

pub loop-cpu-preserved : goal.loop-cpu-preserved
loop-cpu-preserved g c = record {
  machine = left_more c.loop-cpu.cpu c.args.machine.now c.loop-cpu.machine c.leave.new.self c.loop-cpu.invariant.machine c.leave.ensures.machine;
  cpus = c.leave.ensures.cpus ∙ c.loop-cpu.invariant.cpus;
}
