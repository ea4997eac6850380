use Rattle.proof_domains.proofs.OneTables.{tables_are_one}
use Rattle.proof_domains.proofs.domain_tables_are_one.Goals as goal

pub returns : goal.returns
returns c = tables_are_one
