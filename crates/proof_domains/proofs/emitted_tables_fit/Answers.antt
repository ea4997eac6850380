use Rattle.proof_domains.proofs.Fitting.{fits}
use Rattle.proof_domains.proofs.emitted_tables_fit.Goals as goal

pub returns : goal.returns
returns c = fits
