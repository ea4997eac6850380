use Rattle.std.proofs.Common.{◌≡◌, ◌++◌, map, drop}
use Rattle.std.specs.List.{enumerate_from, list_all}
use Rattle.event_emit.specs.ByIndex.{irq_part, irq_parts}
use Rattle.event_emit.proofs.device_parts.irq_parts.Given as goal
use Rattle.muen_num.specs.Naming.{is_name}

abbrev pub invariant-loop-index : goal.invariant-loop-index
invariant-loop-index l =
    (l.parts ++ map (irq_part l.routes l.device) (enumerate_from l.index (drop l.index l.irqs)) ≡ irq_parts l.routes l.device l.irqs)
    × (list_all (λ i. is_name i.name) l.irqs ≡ list_all (λ i. is_name i.name) (drop l.index l.irqs))
