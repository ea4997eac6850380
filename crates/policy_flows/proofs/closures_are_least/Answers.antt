use Rattle.policy_flows.proofs.Closures.{closure_is_least}
use Rattle.policy_flows.proofs.closures_are_least.Goals as goal

pub returns : goal.returns
returns c = closure_is_least
