use Rattle.kernel_core.proofs.Orders.{input_comes}
use Rattle.kernel_core.proofs.kernel.Kernel.take_inputs.Goals as goal

pub loop-index-preserved : goal.loop-index-preserved
loop-index-preserved g c = input_comes c.args.self.now c.loop-index.index c.loop-index.self c.take_input.new.self c.loop-index.invariant c.take_input.ensures
