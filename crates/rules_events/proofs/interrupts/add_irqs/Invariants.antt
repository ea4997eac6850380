use Rattle.std.proofs.Common.{◌≡◌, ◌++◌, map, take}
use Rattle.rules_events.proofs.interrupts.add_irqs.Given as goal

abbrev pub invariant-loop-irq : goal.invariant-loop-irq
invariant-loop-irq l = l.vectors.items ≡ l.initial.vectors.items ++ map (λ i. i.vector) (take l.irq-index l.irqs)
