use Rattle.dma_tables.proofs.ConditionsHold.{conditions_fit, conditions_kept}
use Rattle.dma_tables.proofs.tables.conditions.Goals as goal

pub returns : goal.returns
returns c = record { enough = conditions_fit; kept = conditions_kept }
