use Rattle.std.proofs.Common.{◌≡◌}
use Rattle.kernel_core.proofs.Orders.{after_inputs}
use Rattle.kernel_core.proofs.kernel.Kernel.take_inputs.Given as goal

-- the inputs so far
abbrev pub invariant-loop-index : goal.invariant-loop-index
invariant-loop-index g l = l.self ≡ after_inputs l.fn.self l.index
