use Rattle.std.proofs.Common.{◌≡◌, ◌++◌, map, take}
use Rattle.expand_grants.specs.ByIndex.{route}
use Rattle.expand_grants.proofs.interrupts.add_irqs.Given as goal

abbrev pub invariant-loop-irq : goal.invariant-loop-irq
invariant-loop-irq l = l.routes.items ≡ l.initial.routes.items ++ map (route l.subject l.device) (take l.irq-index l.irqs)
