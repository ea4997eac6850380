use Rattle.proof_isolation.proofs.TwoSystems.{same_by_flows}
use Rattle.proof_isolation.proofs.sets_of_flows_are_enough.Goals as goal

pub returns : goal.returns
returns c = same_by_flows
