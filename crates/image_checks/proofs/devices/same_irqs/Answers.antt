use Rattle.std.proofs.lemmas.Slice.Eq.{slice_eq-Decides}
use Rattle.image_checks.proofs.Equal.{decided, irq_tells}
use Rattle.image_checks.proofs.devices.same_irqs.Goals as goal

pub returns : goal.returns
returns c = decided _ _ (slice_eq-Decides irq_tells _ _ _ c.eq.ensures)
