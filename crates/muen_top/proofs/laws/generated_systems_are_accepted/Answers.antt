use Rattle.muen_top.proofs.GeneratedAccepted.{document_accepted}
use Rattle.muen_top.proofs.laws.generated_systems_are_accepted.Goals as goal

pub returns : goal.returns
returns c = document_accepted
