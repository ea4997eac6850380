use Rattle.proof_runs.proofs.ImageRuns.{none_fit}
use Rattle.proof_runs.proofs.no_tables_fit_without_domains.Goals as goal

pub returns : goal.returns
returns c = none_fit
