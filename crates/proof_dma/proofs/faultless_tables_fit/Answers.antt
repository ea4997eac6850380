use Rattle.proof_dma.proofs.Faultless.{faultless_fit}
use Rattle.proof_dma.proofs.faultless_tables_fit.Goals as goal

pub returns : goal.returns
returns c = faultless_fit
